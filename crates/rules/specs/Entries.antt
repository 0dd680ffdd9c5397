-- The rules page, "What is built": what each entry for C returns, and what its lent buffers hold afterwards, for all inputs.
use Rattle.std.specs.Prelude.{ℕ, ◌+◌, ◌-◌, ◌*◌, ◌/◌, ◌%◌, ◌||◌, List, [], ◌∷◌, map, get_or, replicate, ℤ, pos, negsuc}
use Rattle.std.proofs.Math.Option.{Option, none, some}
use Rattle.lists.specs.Fill.{blocks}
use Rattle.rules.specs.Table.{paths_of}
use Rattle.rules.specs.Refusals.{Refusal, refused_if, ◌or_else◌}
use Rattle.rules.specs.Report.{report}
use Rattle.rules.specs.Machine.{Pair, step, movement}
use Rattle.rules.specs.Run.{pairs_in, run}
use Rattle.rules.specs.Answers.{other_length, unless, check_refusal, step_refusal, run_refusal, check_numbers, run_numbers}

-- "A C entry returns 0, or the refusal number plus 256 times the place (plus 2^32 times a second number, where a refusal has one)"; none has
-- one today
unfoldable pub code_of : Option Refusal → ℕ
code_of none = 0
code_of (some r) = r.number + 256 * r.place

-- "four bytes each, low byte first"
unfoldable pub four_bytes : ℕ → List ℕ
four_bytes n = n % 256 ∷ n / 256 % 256 ∷ n / 65536 % 256 ∷ n / 16777216 % 256 ∷ []

-- so many numbers end to end; what a list does not have is 0
unfoldable pub word_bytes : ℕ → List ℕ → List ℕ
word_bytes count ns = blocks (λ k. four_bytes (get_or ns k 0)) count

-- "a further lent buffer of 32 bytes holds the answer's numbers, .., the rest 0"
unfoldable pub number_bytes : List ℕ → List ℕ
number_bytes ns = word_bytes 8 ns

-- "negative numbers are two's complement"
unfoldable pub twos_complement : ℤ → ℕ
twos_complement (pos n) = n
twos_complement (negsuc n) = 4294967295 - n

-- "For C the run's sums are 256 bytes in the same form"
unfoldable pub sum_bytes : List ℤ → List ℕ
sum_bytes sums = word_bytes 64 (map twos_complement sums)

-- "1: .., or a C entry's buffer of numbers, has another length", beside what the check, the step and the run refuse
unfoldable pub check_refusal_for_c : List ℕ → List ℕ → List ℕ → List ℕ → Option Refusal
check_refusal_for_c t rows ring numbers = refused_if (other_length 32 numbers) 1 or_else check_refusal t rows ring

unfoldable pub step_refusal_for_c : List ℕ → List ℕ → Pair → List ℕ → Option Refusal
step_refusal_for_c t heard p numbers = refused_if (other_length 32 numbers) 1 or_else step_refusal t heard p

-- "For C the run's sums are 256 bytes"; the entry has 64 sums of its own, so the run's test of their length passes
unfoldable pub run_refusal_for_c : List ℕ → List ℕ → List ℕ → List ℕ → List ℕ → Option Refusal
run_refusal_for_c t heard s sums numbers =
    refused_if (other_length 256 sums || other_length 32 numbers) 1
    or_else run_refusal t heard s (replicate 64 (pos 0))

-- "On 0 a further lent buffer .. holds the answer's numbers"; "no lent byte changes" where refused. After a check:
module _ (t rows ring numbers : List ℕ) where
  unfoldable pub rows_for_c : List ℕ
  rows_for_c = unless (check_refusal_for_c t rows ring numbers) (report t).rows rows

  unfoldable pub ring_for_c : List ℕ
  ring_for_c = unless (check_refusal_for_c t rows ring numbers) (report t).ring ring

  -- "the check's ring length (0 if complete), settled, stuck, s and L"
  unfoldable pub check_numbers_for_c : List ℕ
  check_numbers_for_c = unless (check_refusal_for_c t rows ring numbers) (number_bytes (check_numbers t rows ring)) numbers

-- after a step:
module _ (t heard : List ℕ) (p : Pair) (numbers : List ℕ) where
  unfoldable pub heard_step_for_c : List ℕ
  heard_step_for_c = unless (step_refusal_for_c t heard p numbers) (step (paths_of t) heard p) heard

  -- "the step's movement"
  unfoldable pub step_numbers_for_c : List ℕ
  step_numbers_for_c =
      unless (step_refusal_for_c t heard p numbers) (number_bytes (twos_complement (movement (paths_of t) heard p) ∷ [])) numbers

-- after a run:
module _ (t heard s sums numbers : List ℕ) where
  unfoldable pub heard_run_for_c : List ℕ
  heard_run_for_c = unless (run_refusal_for_c t heard s sums numbers) (run (paths_of t) heard (pairs_in s)).heard heard

  unfoldable pub sums_for_c : List ℕ
  sums_for_c = unless (run_refusal_for_c t heard s sums numbers) (sum_bytes (run (paths_of t) heard (pairs_in s)).sums) sums

  -- "the run's numbers in the order given below"
  unfoldable pub run_numbers_for_c : List ℕ
  run_numbers_for_c =
      unless (run_refusal_for_c t heard s sums numbers) (number_bytes (run_numbers t heard s (replicate 64 (pos 0)))) numbers
