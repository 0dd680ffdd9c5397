-- The rules page, "Refusal numbers, in order of checking", for each entry, and what each entry gives back and leaves in the lent
-- buffers, for all inputs.
use Rattle.std.specs.Prelude.{ℕ, zero, suc, ◌%◌, Bool, not, ◌||◌, List, [], ◌∷◌, length, replicate, ℤ, pos, ltb}
use Rattle.std.proofs.Math.Option.{Option, none, some}
use Rattle.lists.specs.Search.{first_in, outside}
use Rattle.rules.specs.Table.{Path, paths_of, listens}
use Rattle.rules.specs.Refusals.{Refusal, refused_if, refused_at, ◌or_else◌, refusal}
use Rattle.rules.specs.Report.{Report, numbers_of, report}
use Rattle.rules.specs.Machine.{Pair, heard_fault, choice_bytes, step, movement}
use Rattle.rules.specs.Run.{pairs_in, counts_of, run}

-- "1: a lent rows, ring, state or movement buffer .. has another length"
unfoldable pub other_length : {A : Type 0} → ℕ → List A → Bool
other_length n buffer = outside n n (length buffer)

-- "13: schedule length odd or above 32,768 bytes"
unfoldable pub schedule_bad : List ℕ → Bool
schedule_bad s = outside 0 0 (length s % 2) || ltb 32768 (length s)

-- "14: pair is not a listening pair", with the pair's number
unfoldable pub first_bad_pair : (ℕ → List Path) → List Pair → Option ℕ
first_bad_pair paths s = first_in (λ i p. not (listens paths p.listener p.speaker)) 0 s

-- "The check uses 1 to 11, the step 1 to 12 and 14 (place 0), the run all."
unfoldable pub check_refusal : List ℕ → List ℕ → List ℕ → Option Refusal
check_refusal t rows ring = refused_if (other_length 1024 rows || other_length 64 ring) 1 or_else refusal t

unfoldable pub step_refusal : List ℕ → List ℕ → Pair → Option Refusal
step_refusal t heard p =
    refused_if (other_length 4096 heard) 1
    or_else refusal t
    or_else refused_at (heard_fault (paths_of t) heard) 12
    or_else refused_at (first_bad_pair (paths_of t) (p ∷ [])) 14

unfoldable pub run_refusal : List ℕ → List ℕ → List ℕ → List ℤ → Option Refusal
run_refusal t heard s sums =
    refused_if (other_length 4096 heard || other_length 64 sums) 1
    or_else refusal t
    or_else refused_at (heard_fault (paths_of t) heard) 12
    or_else refused_if (schedule_bad s) 13
    or_else refused_at (first_bad_pair (paths_of t) (pairs_in s)) 14

-- "A refusal's other numbers are 0 and no lent byte changes."
unfoldable pub unless : {A : Type 0} → Option Refusal → A → A → A
unless none new old = new
unless (some r) new old = old

-- "Each answer carries one of three verdicts beside its counts"
pub data Verdict : Type 0 where
  complete : Verdict
  stuck : ℕ → Verdict
  refused : ℕ → ℕ → Verdict

-- complete, or stuck with the ring's length
unfoldable pub verdict_of : ℕ → Verdict
verdict_of zero = complete
verdict_of (suc n) = stuck (suc n)

-- what a report finds
abbrev pub found : Report → Verdict
found r = verdict_of r.ring_length

-- the verdict of an entry: its refusal, or what it says of an accepted input
unfoldable pub verdict : Option Refusal → Verdict → Verdict
verdict none v = v
verdict (some r) v = refused r.number r.place

unfoldable pub check_verdict : List ℕ → List ℕ → List ℕ → Verdict
check_verdict t rows ring = verdict (check_refusal t rows ring) (found (report t))

-- "The counts are settled and stuck vertices (without vertex 0), s and L, all 0 when refused", after the ring's length
unfoldable pub check_numbers : List ℕ → List ℕ → List ℕ → List ℕ
check_numbers t rows ring =
    unless (check_refusal t rows ring) (numbers_of (report t)) (replicate 5 0)

unfoldable pub rows_after : List ℕ → List ℕ → List ℕ → List ℕ
rows_after t rows ring = unless (check_refusal t rows ring) (report t).rows rows

unfoldable pub ring_after : List ℕ → List ℕ → List ℕ → List ℕ
ring_after t rows ring = unless (check_refusal t rows ring) (report t).ring ring

-- the step's movement, 0 where refused, and the heard state afterwards
unfoldable pub step_movement : List ℕ → List ℕ → Pair → ℤ
step_movement t heard p = unless (step_refusal t heard p) (movement (paths_of t) heard p) (pos 0)

unfoldable pub heard_after_step : List ℕ → List ℕ → Pair → List ℕ
heard_after_step t heard p = unless (step_refusal t heard p) (step (paths_of t) heard p) heard

-- each vertex's choice, as a byte, all 0 where the table is refused
unfoldable pub choices_in : List ℕ → List ℕ → List ℕ
choices_in t heard = unless (refusal t) (choice_bytes (paths_of t) heard) (replicate 64 0)

-- the run's numbers: steps, ups, downs, last change and rounds, 0 where refused, and the lent buffers afterwards
unfoldable pub run_numbers : List ℕ → List ℕ → List ℕ → List ℤ → List ℕ
run_numbers t heard s sums =
    unless (run_refusal t heard s sums) (counts_of (run (paths_of t) heard (pairs_in s))) (replicate 5 0)

unfoldable pub heard_after_run : List ℕ → List ℕ → List ℕ → List ℤ → List ℕ
heard_after_run t heard s sums = unless (run_refusal t heard s sums) (run (paths_of t) heard (pairs_in s)).heard heard

unfoldable pub sums_after_run : List ℕ → List ℕ → List ℕ → List ℤ → List ℤ
sums_after_run t heard s sums = unless (run_refusal t heard s sums) (run (paths_of t) heard (pairs_in s)).sums sums
