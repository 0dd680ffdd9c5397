-- What the contract of the check says, and that it allows one result for each input.
use Rattle.std.specs.Prelude.{◌≡◌, ◌||◌, List, ℕ}
use Rattle.std.proofs.Common.{sym, ◌∙◌}
use Rattle.std.proofs.Math.Option.{none, some}
use Rattle.lists.specs.Tests.{by_test}
use Rattle.rules.specs.Refusals as rules
use Rattle.rules.specs.Refusals.{refusal, refused_if, ◌or_else◌}
use Rattle.rules.specs.Report.{report}
use Rattle.rules.specs.Answers.{other_length, check_refusal, check_verdict, check_numbers, rows_after, ring_after}
use Rattle.answer.specs.declared.Answer.{Answer}
use Rattle.answer.specs.declared.Refusal.{Refusal}
use Rattle.answer.specs.Refused.{told}
use Rattle.answer.specs.Meaning.{meaning}
use Rattle.answer.specs.Meaning as says
use Rattle.answer.proofs.MeaningLaws.{answer_tells}
use Rattle.reporter.specs.Showing.{shown_report}
use Rattle.reporter.specs.Reported.{Reported, lent_refusal, refusal_answer, reported_refused}
use Rattle.checker.specs.AfterStages.{Ended}
use Rattle.checker.specs.EndedLaws.{ended_report}

-- the verdict, the numbers, and the rows and the ring afterwards
pub record Checked (table lent_rows lent_ring : List ℕ) (answer : Answer) (rows_now ring_now : List ℕ) : Type 0 where
  pub verdict : meaning answer.verdict ≡ check_verdict table lent_rows lent_ring
  pub numbers : says.numbers answer ≡ check_numbers table lent_rows lent_ring
  pub rows : rows_now ≡ rows_after table lent_rows lent_ring
  pub ring : ring_now ≡ ring_after table lent_rows lent_ring

-- any two answers and buffer contents that it allows for one input are equal
pub one_check : {table rows ring : List ℕ} {a b : Answer} {r s p q : List ℕ}
    → Checked table rows ring a r p
    → Checked table rows ring b s q
    → (a ≡ b) × (r ≡ s) × (p ≡ q)
one_check x y = (
  answer_tells _ _ (x.verdict ∙ sym y.verdict) (x.numbers ∙ sym y.numbers),
  x.rows ∙ sym y.rows,
  x.ring ∙ sym y.ring,
)

-- what a refused call says and leaves
pub record Kept (table lent_rows lent_ring : List ℕ) (r : Refusal) (rows_now ring_now : List ℕ) : Type 0 where
  pub refusal : check_refusal table lent_rows lent_ring ≡ some (told r)
  pub rows : rows_now ≡ lent_rows
  pub ring : ring_now ≡ lent_ring

-- it is what is reported of the check's refusal and of the rules' report
checked : {table rows ring : List ℕ} {a : Answer} {rows_now ring_now : List ℕ}
    → Reported (check_refusal table rows ring) (report table) rows ring a rows_now ring_now
    → Checked table rows ring a rows_now ring_now
unfolding check_verdict check_numbers rows_after ring_after
checked x = record { verdict = x.verdict; numbers = x.numbers; rows = x.rows; ring = x.ring }

-- a refused call
pub checked_refused : {table rows ring : List ℕ} {a : Answer} (n k : ℕ)
    → check_refusal table rows ring ≡ some (record { number = n; place = k })
    → a ≡ refusal_answer n k
    → Checked table rows ring a rows ring
checked_refused n k e q = checked (reported_refused n k e q)

-- a lent buffer decides first, then the table
module _ (table rows ring : List ℕ) where
  pub lent_first : {r : rules.Refusal} → lent_refusal rows ring ≡ some r → check_refusal table rows ring ≡ some r
  unfolding lent_refusal check_refusal ◌or_else◌
  lent_first e = rw (e, ◌or_else◌)

  pub lent_then : lent_refusal rows ring ≡ none → check_refusal table rows ring ≡ refusal table
  unfolding lent_refusal check_refusal ◌or_else◌
  lent_then e = rw (e, ◌or_else◌)

-- an accepted table: its call is refused for a lent buffer alone
lent_alone : (table rows ring : List ℕ) → refusal table ≡ none → lent_refusal rows ring ≡ check_refusal table rows ring
unfolding lent_refusal check_refusal refused_if ◌or_else◌
lent_alone table rows ring e =
    by_test (other_length 1024 rows || other_length 64 ring)
    (λ q. rw q) (λ q. rw (q, e))

pub checked_accepted : {table rows ring : List ℕ} {a : Answer} {marks shown rows_now ring_now : List ℕ} {stages : ℕ}
    → refusal table ≡ none
    → Ended table marks shown stages
    → Reported (lent_refusal rows ring) (shown_report table marks shown stages) rows ring a rows_now ring_now
    → Checked table rows ring a rows_now ring_now
checked_accepted {table} {rows} {ring} e d x = checked (rw (lent_alone table rows ring e, ended_report table e d) at x)
