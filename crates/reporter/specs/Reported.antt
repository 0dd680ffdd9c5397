-- What an answer and the lent buffers say of a refusal or of a report, and that they say it in one way.
use Rattle.std.specs.Prelude.{◌≡◌, refl, ◌≢◌, false, ◌||◌, List, [], ℕ, suc, zero, ◌<◌, get_or, length, replicate}
use Rattle.std.proofs.Common.{sym, ◌∙◌, eq-eqb}
use Rattle.std.proofs.Math.Path.{ap}
use Rattle.std.proofs.Math.Option.{Option, none, some}
use Rattle.std.proofs.lemmas.Bool.{not-true}
use Rattle.lists.specs.Search.{any_below}
use Rattle.lists.specs.Tests.{by_equal, none≢some}
use Rattle.lists.specs.SearchLaws.{count_any, none_below}
use Rattle.lists.specs.FillLaws.{tabulate_at}
use Rattle.lists.specs.Fill.{padded, tabulate}
use Rattle.rules.specs.Table.{longest}
use Rattle.rules.specs.Refusals.{Refusal, refused_if}
use Rattle.rules.specs.Report.{Report, numbers_of}
use Rattle.rules.specs.Answers.{other_length, unless, verdict_of}
use Rattle.rules.specs.Answers as rules
use Rattle.laws.specs.AnswerLaws.{first_other, second_other, both_same}
use Rattle.answer.specs.declared.Answer.{Answer}
use Rattle.answer.specs.declared.Verdict.{Verdict}
use Rattle.answer.specs.declared.Verdict.TheVariants as told
use Rattle.answer.specs.Meaning.{meaning, ring_length_in}
use Rattle.answer.specs.Meaning as says
use Rattle.answer.proofs.MeaningLaws.{answer_tells}
use Rattle.ring.specs.Ring.{Ringed, next_in, ring_in}
use Rattle.ring.specs.FollowLaws.{ring_unmarked}
use Rattle.report_rows.specs.ShownRows.{shown_rows}
use Rattle.report_rows.specs.ShownRowLaws.{rows_whole}
use Rattle.reporter.specs.Showing.{count_between, is_between, next_numbers, shown_report, shown_ring, stuck_marks}

-- the answer, the rows and the ring, where a call is refused or else finds a report
pub record Reported (refusal : Option Refusal) (found : Report) (lent_rows lent_ring : List ℕ) (answer : Answer) (rows_now ring_now : List ℕ) : Type 0 where
  pub verdict : meaning answer.verdict ≡ rules.verdict refusal (rules.found found)
  pub numbers : says.numbers answer ≡ unless refusal (numbers_of found) (replicate 5 0)
  pub rows : rows_now ≡ unless refusal found.rows lent_rows
  pub ring : ring_now ≡ unless refusal found.ring lent_ring

-- any two answers and buffer contents that it allows are equal
pub one_report : {refusal : Option Refusal} {found : Report} {rows ring : List ℕ} {a b : Answer} {r s p q : List ℕ}
    → Reported refusal found rows ring a r p
    → Reported refusal found rows ring b s q
    → (a ≡ b) × (r ≡ s) × (p ≡ q)
one_report x y = (
  answer_tells _ _ (x.verdict ∙ sym y.verdict) (x.numbers ∙ sym y.numbers),
  x.rows ∙ sym y.rows,
  x.ring ∙ sym y.ring,
)

-- "1: a lent rows, ring .. buffer has another length"
unfoldable pub lent_refusal : List ℕ → List ℕ → Option Refusal
lent_refusal rows ring = refused_if (other_length 1024 rows || other_length 64 ring) 1

module _ (rows ring : List ℕ) where
  pub other_rows : length rows ≢ 1024 → lent_refusal rows ring ≡ some (record { number = 1; place = 0 })
  unfolding lent_refusal refused_if
  other_rows f = rw (first_other 1024 64 rows ring f)

  pub other_ring : length ring ≢ 64 → lent_refusal rows ring ≡ some (record { number = 1; place = 0 })
  unfolding lent_refusal refused_if
  other_ring f = rw (second_other 1024 64 rows ring f)

  lent_lengths : lent_refusal rows ring ≡ none → (length rows ≡ 1024) × (length ring ≡ 64)
  lent_lengths e = (
    by_equal (length rows) 1024 (λ q. q) (λ f. absurd (none≢some e (other_rows f))),
    by_equal (length ring) 64 (λ q. q) (λ f. absurd (none≢some e (other_ring f))),
  )

  pub lent_well : length rows ≡ 1024 → length ring ≡ 64 → lent_refusal rows ring ≡ none
  unfolding lent_refusal refused_if
  lent_well d e = rw (both_same 1024 64 rows ring d e)

-- a refused call
abbrev pub refusal_answer : ℕ → ℕ → Answer
refusal_answer n k = record { verdict = told.Refused n k; settled = 0; stuck = 0; stages = 0; longest = 0 }

pub reported_refused : {refusal : Option Refusal} {found : Report} {rows ring : List ℕ} {a : Answer} (n k : ℕ)
    → refusal ≡ some (record { number = n; place = k })
    → a ≡ refusal_answer n k
    → Reported refusal found rows ring a rows ring
unfolding meaning says.numbers ring_length_in rules.verdict unless
reported_refused n k e q = record {
  verdict = ap (λ (x : Answer). meaning x.verdict) q ∙ rw e;
  numbers = ap says.numbers q ∙ rw e;
  rows = rw e;
  ring = rw e;
}

-- the verdict of a ring's length
pub record Found (v : Verdict) (count : ℕ) : Type 0 where
  pub said : meaning v ≡ verdict_of count
  pub length : ring_length_in v ≡ count

pub found_none : (n : ℕ) → n ≡ 0 → Found told.Complete n
unfolding meaning verdict_of ring_length_in
found_none n e = rw e (record { said = refl; length = refl })

pub found_some : (n : ℕ) → n ≢ 0 → Found (told.Stuck n) n
unfolding meaning verdict_of ring_length_in
found_some zero f = absurd (f refl)
found_some (suc n) f = record { said = refl; length = refl }

-- where nobody is stuck there is none
pub ring_none : (marks next : List ℕ) {size : ℕ} {ring_now : List ℕ}
    → count_between 255 255 marks ≡ 0
    → ring_now ≡ padded size 255 []
    → Ringed (stuck_marks marks) next size 0 ring_now
unfolding stuck_marks count_between ring_in
ring_none marks next {size} e q =
    let nobody : any_below (is_between 255 255 marks) 64 ≡ false
    = not-true _ (sym (count_any (is_between 255 255 marks) 64) ∙ eq-eqb _ 0 e) in
    let unmarked : (v : ℕ) → v < 64 → get_or (tabulate (is_between 255 255 marks) 64) v false ≡ false
    = λ v h. tabulate_at (is_between 255 255 marks) 64 v false h ∙ none_below (is_between 255 255 marks) 64 nobody v h in
    let empty = ring_unmarked (λ v. get_or (tabulate (is_between 255 255 marks) 64) v false) (next_in next) unmarked in
    record { count = sym (ap length empty); ring = q ∙ ap (padded size 255) (sym empty) }

-- the report of marks and records
module _ (t marks shown : List ℕ) (stages : ℕ) (rows ring : List ℕ) (well : lent_refusal rows ring ≡ none) where
  pub reported_shown : {v : Verdict} {a b l count : ℕ} {rows_now ring_now : List ℕ}
      → length marks ≡ 64
      → length shown ≡ 64
      → rows_now ≡ shown_rows t marks shown rows
      → Ringed (stuck_marks marks) (next_numbers t (stuck_marks marks) shown) (length ring) count ring_now
      → Found v count
      → a ≡ count_between 0 253 marks
      → b ≡ count_between 255 255 marks
      → l ≡ longest t
      → Reported (lent_refusal rows ring) (shown_report t marks shown stages) rows ring
      (record { verdict = v; settled = a; stuck = b; stages = stages; longest = l }) rows_now ring_now
  unfolding rules.verdict unless says.numbers shown_report shown_ring
  reported_shown m n r g f x y z = let (long, many) = lent_lengths rows ring well in record {
    verdict = f.said ∙ ap verdict_of g.count ∙ rw well;
    numbers = rw (well, f.length ∙ g.count, x, y, z);
    rows = r ∙ rows_whole t marks shown rows long m n ∙ rw well;
    ring = g.ring ∙ rw (well, many);
  }
