-- The number of a refusal is one of the page's and its place is small, whatever was lent.
use Rattle.std.specs.Prelude.{◌≡◌, false, List, ℕ, ◌<◌, ◌≤◌, ◌/◌, ◌%◌, length, get_or, ℤ, ltb}
use Rattle.std.proofs.Common.{sym, ◌∙◌, arith, ltb-false}
use Rattle.std.proofs.Math.Option.{Option, none, some}
use Rattle.lists.specs.Search.{outside}
use Rattle.lists.specs.Tests.{by_test, by_equal, by_option, none≢some, or_none}
use Rattle.lists.specs.ListLaws.{first_in_under}
use Rattle.rules.specs.Table.{paths_of, listens}
use Rattle.rules.specs.Refusals.{Refusal, refusal}
use Rattle.rules.specs.Machine.{Pair, heard_fault}
use Rattle.rules.specs.Run.{pairs_in, run}
use Rattle.rules.specs.Answers.{unless, schedule_bad, first_bad_pair, check_refusal, step_refusal, run_refusal, run_numbers}
use Rattle.laws.specs.Accepted.{told}
use Rattle.laws.specs.TableLaws.{at}
use Rattle.laws.specs.ScheduleLaws.{pairs_length}
use Rattle.laws.specs.RunLaws.{run_counts, run_steps}
use Rattle.laws.specs.AnswerLaws.{run_whole, refused_rows, refused_ring, lent_right, step_refused_length, step_refused_table, step_refused_heard, step_refused_pair, step_accepted, run_refused_length, run_refused_sums, run_refused_table, run_refused_heard, run_refused_schedule, run_refused_pair, run_accepted}

-- What a refusal of the check, the step or the run tells: a number of the page, and a place that is a record, an offset
-- or a pair.
pub record Numbered (r : Refusal) : Type 0 where
  pub least : 1 ≤ r.number
  pub most : r.number ≤ 14
  pub place : r.place < 65536

module _ (o : Option Refusal) (r : Refusal) (e : o ≡ some r) where
  -- number n at k
  pub numbered_at : (n k : ℕ) → o ≡ at n k → 1 ≤ n → n ≤ 14 → k < 65536 → Numbered r
  numbered_at n k q low high small =
      let z : at n k ≡ some r = sym q ∙ e in
      let number : r.number ≡ n = cc in
      let place : r.place ≡ k = cc in
      record { least = omega arith; most = omega arith; place = omega arith }

  -- the table's refusal
  numbered_table : (t : List ℕ) (q : Refusal) → o ≡ some q → refusal t ≡ some q → Numbered r
  numbered_table t q f g =
      let n = told t q g in numbered_at q.number q.place f (omega (arith, n.least)) (omega (arith, n.most))
      (omega (arith, n.place))

-- an offset is below the state's length
offset_under : (t heard : List ℕ) (k : ℕ) → heard_fault (paths_of t) heard ≡ some k → k < length heard
unfolding heard_fault
offset_under t heard k e = omega (arith, first_in_under _ heard 0 k e)

-- a pair is below the schedule's number of pairs
pair_under : (t s : List ℕ) (k : ℕ) → first_bad_pair (paths_of t) (pairs_in s) ≡ some k → k < length s / 2
unfolding first_bad_pair
pair_under t s k e = omega (arith, first_in_under _ (pairs_in s) 0 k e, pairs_length s)

short_schedule : (s : List ℕ) → schedule_bad s ≡ false → length s ≤ 32768
unfolding schedule_bad
short_schedule s e = ltb-false 32768 (length s) (or_none (outside 0 0 (length s % 2)) (ltb 32768 (length s)) e).1

pub check_numbered : (t rows ring : List ℕ) (r : Refusal) → check_refusal t rows ring ≡ some r → Numbered r
check_numbered t rows ring r e =
    by_equal (length rows) 1024
    (λ n. by_equal (length ring) 64
    (λ m. numbered_table _ r e t r e (sym (lent_right t rows ring n m) ∙ e))
    (λ m. numbered_at _ r e 1 0 (refused_ring t rows ring m) (omega arith) (omega arith) (omega arith)))
    (λ n. numbered_at _ r e 1 0 (refused_rows t rows ring n) (omega arith) (omega arith) (omega arith))

module _ (t heard : List ℕ) (p : Pair) (r : Refusal) (e : step_refusal t heard p ≡ some r) where
  abbrev step_at : (n k : ℕ) → step_refusal t heard p ≡ at n k → 1 ≤ n → n ≤ 14 → k < 65536 → Numbered r
  step_at = numbered_at _ r e

  pub step_numbered : Numbered r
  step_numbered =
      by_equal (length heard) 4096
      (λ n. by_option (refusal t)
      (λ a. by_option (heard_fault (paths_of t) heard)
      (λ v. by_test (listens (paths_of t) p.listener p.speaker)
      (λ l. absurd (none≢some (step_accepted t heard p n a v l) e))
      (λ l. step_at 14 0 (step_refused_pair t heard p n a v l) (omega arith) (omega arith) (omega arith)))
      (λ k v. step_at 12 k (step_refused_heard t heard p n a k v) (omega arith) (omega arith)
      (omega (arith, offset_under t heard k v))))
      (λ q a. numbered_table _ r e t q (step_refused_table t heard p n q a) a))
      (λ n. step_at 1 0 (step_refused_length t heard p n) (omega arith) (omega arith) (omega arith))

module _ (t heard s : List ℕ) (sums : List ℤ) (r : Refusal) (e : run_refusal t heard s sums ≡ some r) where
  abbrev run_at : (n k : ℕ) → run_refusal t heard s sums ≡ at n k → 1 ≤ n → n ≤ 14 → k < 65536 → Numbered r
  run_at = numbered_at _ r e

  judged : length heard ≡ 4096 → length sums ≡ 64 → refusal t ≡ none → heard_fault (paths_of t) heard ≡ none → Numbered r
  judged n m a v =
      by_test (schedule_bad s)
      (λ b. run_at 13 0 (run_refused_schedule t heard s sums n m a v b) (omega arith) (omega arith) (omega arith))
      (λ b. by_option (first_bad_pair (paths_of t) (pairs_in s))
      (λ l. absurd (none≢some (run_accepted t heard s sums n m a v b l) e))
      (λ k l. run_at 14 k (run_refused_pair t heard s sums n m a v b k l) (omega arith) (omega arith)
      (omega (arith, pair_under t s k l, short_schedule s b))))

  pub run_numbered : Numbered r
  run_numbered =
      by_equal (length heard) 4096
      (λ n. by_equal (length sums) 64
      (λ m. by_option (refusal t)
      (λ a. by_option (heard_fault (paths_of t) heard)
      (judged n m a)
      (λ k v. run_at 12 k (run_refused_heard t heard s sums n m a k v) (omega arith) (omega arith)
      (omega (arith, offset_under t heard k v))))
      (λ q a. numbered_table _ r e t q (run_refused_table t heard s sums n m q a) a))
      (λ m. run_at 1 0 (run_refused_sums t heard s sums m) (omega arith) (omega arith) (omega arith)))
      (λ n. run_at 1 0 (run_refused_length t heard s sums n) (omega arith) (omega arith) (omega arith))

-- an accepted run answers no more rounds than a schedule has pairs
pub rounds_few : (t heard s : List ℕ) (sums : List ℤ)
    → run_refusal t heard s sums ≡ none
    → get_or (run_numbers t heard s sums) 4 0 ≤ 16384
unfolding run_numbers unless
rounds_few t heard s sums e =
    let paths = paths_of t in
    let most : (run paths heard (pairs_in s)).rounds ≤ 16384
    =
    omega (
      arith,
      (run_counts paths heard (pairs_in s)).closings,
      run_steps paths heard
          (pairs_in s),
      pairs_length s,
      short_schedule s (run_whole t heard s sums e),
    ) in
    rw e most
