-- What the collector holds after a check and some runs and steps, by the contracts of the entries for C alone: demand 3 over the
-- bytes that it was given, with the rounds that its pairs contain, or that the runs answered. The theorems
-- stand in proofs/.
use Prim.{Unit}
use Rattle.std.specs.Prelude.{ℕ, ◌+◌, ◌*◌, ◌<◌, ◌≤◌, ◌≡◌, ◌≢◌, true, replicate, pos}
use Rattle.std.proofs.Common.{arith, sym, ◌∙◌}
use Rattle.std.proofs.Math.Path.{ap}
use mathlib.Core.List.{List, [], ◌∷◌, ◌++◌}
use Rattle.std.proofs.Math.Option.{none}
use Rattle.std.proofs.Math.ListN.{get_or}
use Rattle.rules.specs.Table.{paths_of, listens}
use Rattle.rules.specs.Report.{row_at, path_shown, report}
use Rattle.rules.specs.Machine.{Pair, choice}
use Rattle.rules.specs.Run.{pairs_in}
use Rattle.rules.specs.Refusals.{refusal}
use Rattle.rules.specs.Answers.{check_refusal, check_numbers, unless}
use Rattle.rules.specs.Entries.{word_bytes, number_bytes, check_refusal_for_c, rows_for_c, check_numbers_for_c, heard_step_for_c, step_numbers_for_c, heard_run_for_c, sums_for_c, run_numbers_for_c}
use Rattle.laws.specs.EntryLaws.{number_at, number_told, check_zero, check_none}
use Rattle.laws.specs.AnswerLaws.{check_admitted}
use Rattle.laws.specs.ShapeLaws.{longest_most}
use Rattle.check_entry.specs.CheckCalled.{CheckCalled}
use Rattle.step_entry.specs.StepCalled.{StepCalled}
use Rattle.run_entry.specs.RunCalled.{RunCalled}
use Rattle.theorems.specs.Claims.{Call, of_run, of_step, Valid, Stays}

-- A call as the collector saw it: what it lent, and what it found there afterwards.
pub data Seen : Type 0 where
  ran : (schedule sums numbers heard_now sums_now numbers_now : List ℕ) → Seen
  stepped : (pair : Pair) (numbers heard_now numbers_now : List ℕ) → Seen

-- Calls one after the other, each on the heard state that the one before has left: the entry's contract, with the code 0. A call that was
-- refused has changed nothing, and is left out.
unfoldable pub AllCalled : List ℕ → List ℕ → List Seen → Type 0
AllCalled t heard [] = Unit {0}
AllCalled t heard (ran s sums numbers heard_now sums_now numbers_now ∷ rs) =
    RunCalled t heard s sums numbers 0 heard_now sums_now numbers_now × AllCalled t heard_now rs
AllCalled t heard (stepped p numbers heard_now numbers_now ∷ rs) = StepCalled t heard p numbers 0 heard_now numbers_now × AllCalled t heard_now rs

-- the heard state that the last has left, and the sum of the rounds that the runs answered: the number at 4 of their numbers

unfoldable pub heard_now_of : Seen → List ℕ
heard_now_of (ran s sums numbers heard_now sums_now numbers_now) = heard_now
heard_now_of (stepped p numbers heard_now numbers_now) = heard_now

unfoldable pub heard_left : List ℕ → List Seen → List ℕ
heard_left heard [] = heard
heard_left heard (r ∷ rs) = heard_left (heard_now_of r) rs

unfoldable pub rounds_in : Seen → ℕ
rounds_in (ran s sums numbers heard_now sums_now numbers_now) = number_at numbers_now 4
rounds_in (stepped p numbers heard_now numbers_now) = 0

unfoldable pub rounds_seen : List Seen → ℕ
rounds_seen [] = 0
rounds_seen (r ∷ rs) = rounds_in r + rounds_seen rs

-- the pairs that it sent, in order: those in the bytes of the schedules, and that of each step

unfoldable pub pairs_sent_by : Seen → List Pair
pairs_sent_by (ran s sums numbers heard_now sums_now numbers_now) = pairs_in s
pairs_sent_by (stepped p numbers heard_now numbers_now) = p ∷ []

unfoldable pub pairs_sent : List Seen → List Pair
pairs_sent [] = []
pairs_sent (r ∷ rs) = pairs_sent_by r ++ pairs_sent rs

-- the same as calls of the library
unfoldable pub call_of : Seen → Call
call_of (ran s sums numbers heard_now sums_now numbers_now) = of_run s (replicate 64 (pos 0))
call_of (stepped p numbers heard_now numbers_now) = of_step p

-- What the collector sees of calls that the library accepts, where it lends zeros: so there is no history of accepted calls that could not be
-- seen.
unfoldable pub seen_of : List ℕ → List ℕ → List Call → List Seen
seen_of t heard [] = []
seen_of t heard (of_run s sums ∷ cs) =
    let a : List ℕ = replicate 256 0 in
    let b : List ℕ = replicate 32 0 in
    let now = heard_run_for_c t heard s a b in
    ran s a b now (sums_for_c t heard s a b) (run_numbers_for_c t heard s a b) ∷ seen_of t now cs
seen_of t heard (of_step p ∷ cs) =
    let b : List ℕ = replicate 32 0 in
    let now = heard_step_for_c t heard p b in
    stepped p b now (step_numbers_for_c t heard p b) ∷ seen_of t now cs

-- What the collector holds: a check of the table, a valid heard state, and calls on it. No entry has refused.
pub record Collected (t rows ring numbers rows_now ring_now numbers_now heard : List ℕ) (rs : List Seen) : Type 0 where
  pub check : CheckCalled t rows ring numbers 0 rows_now ring_now numbers_now
  pub state : Valid t heard
  pub calls : AllCalled t heard rs

module _ (t rows ring numbers rows_now ring_now numbers_now heard : List ℕ) (rs : List Seen)
    (held : Collected t rows ring numbers rows_now ring_now numbers_now heard rs) where
  none_left : check_refusal_for_c t rows ring numbers ≡ none
  none_left = check_zero t rows ring numbers (sym held.check.code)

  fine : check_refusal t rows ring ≡ none
  fine = check_none t rows ring numbers none_left

  pub accepted : refusal t ≡ none
  accepted = check_admitted t rows ring fine

  -- the rows are the report's
  pub same_rows : rows_now ≡ (report t).rows
  unfolding rows_for_c unless
  same_rows = held.check.rows ∙ rw none_left

  -- the number at 4 of the check's numbers is L
  pub same_hops : number_at numbers_now 4 ≡ (report t).hops
  unfolding check_numbers_for_c check_numbers number_bytes unless report
  same_hops =
      let told : numbers_now ≡ word_bytes 8 (check_numbers t rows ring) = held.check.numbers ∙ rw none_left in
      let hops : get_or (check_numbers t rows ring) 4 0 ≡ (report t).hops = rw fine in
      ap (λ (l : List ℕ). number_at l 4) told
      ∙ number_told 8 (check_numbers t rows ring) 4 (omega arith) (omega (arith, hops, longest_most t accepted)) ∙ hops

  -- a router, whose row reports a stage

  module _ (v : ℕ) (vertex : v < 64) (is_stage : get_or (row_at rows_now v) 0 0 ≤ 63) where
    -- the stage that its row reports, times the L that the check answered
    abbrev pub enough : ℕ
    enough = get_or (row_at rows_now v) 0 0 * number_at numbers_now 4

    -- The router's choice is what its row shows, and stays so; it still is after all calls that may follow; and every router that listens
    -- to it holds the rank in its row, also after these.

    abbrev pub Chooses : Type 0
    Chooses = (choice (paths_of t) (heard_left heard rs) v ≡ path_shown (row_at rows_now v)) × Stays t (heard_left heard rs) v

    abbrev pub ChoosesLater : Type 0
    ChoosesLater =
        (later : List Seen)
        → AllCalled t (heard_left heard rs) later
        → choice (paths_of t) (heard_left (heard_left heard rs) later) v ≡ path_shown (row_at rows_now v)

    abbrev pub IsHeard : Type 0
    IsHeard =
        v ≢ 0
        → (w : ℕ)
        → listens (paths_of t) w v ≡ true
        → (later : List Seen)
        → AllCalled t (heard_left heard rs) later
        → get_or (heard_left (heard_left heard rs) later) (64 * w + v) 0 ≡ get_or (row_at rows_now v) 1 0
