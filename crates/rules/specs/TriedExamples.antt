-- What an example tries and what comes out of it, and how tables, rows and buffers are written by hand. What is written by hand uses no
-- definition of the rules.
use Rattle.std.specs.Prelude.{ℕ, zero, suc, pred, ◌-◌, ◌≡◌, List, [], ◌∷◌, ◌++◌, map, length, replicate, ℤ, pos}
use Prim.Native.String.{String}
use Rattle.std.proofs.Math.Option.{Option, none, some}
use Rattle.rules.specs.Table.{Path, paths_of}
use Rattle.rules.specs.Refusals.{Refusal, refusal}
use Rattle.rules.specs.Report.{Report, numbers_of, report}
use Rattle.rules.specs.Machine.{Pair, step, movement}
use Rattle.rules.specs.Run.{Tally, counts_of, pairs_in, run}
use Rattle.rules.specs.Answers.{Verdict, found, check_verdict, check_numbers, rows_after, ring_after, step_refusal, step_movement, heard_after_step, run_refusal, run_numbers, heard_after_run, sums_after_run}
use Rattle.rules.specs.Entries.{code_of, check_refusal_for_c, rows_for_c, ring_for_c, check_numbers_for_c, step_refusal_for_c, heard_step_for_c, step_numbers_for_c, run_refusal_for_c, heard_run_for_c, sums_for_c, run_numbers_for_c}
use Rattle.rules.specs.Text.{codes, check_text}
use Rattle.rules.specs.RunText.{ran_text}

-- tables by hand

-- a record: its rank and hops, its vertices, 255 up to byte 14, and 0
unfoldable pub raw_record : ℕ → ℕ → Path → List ℕ
raw_record rank hops p = rank ∷ hops ∷ (p ++ replicate (13 - length p) 255) ++ 0 ∷ []

unfoldable pub record_bytes : ℕ → Path → List ℕ
record_bytes rank p = raw_record rank (pred (length p)) p

-- a block is an owner's paths, best first; its bytes are a record for each
unfoldable pub block_bytes : ℕ → List Path → List ℕ
block_bytes rank [] = []
block_bytes rank (p ∷ ps) = record_bytes rank p ++ block_bytes (suc rank) ps

unfoldable pub table_bytes : List (List Path) → List ℕ
table_bytes [] = []
table_bytes (b ∷ bs) = block_bytes 1 b ++ table_bytes bs

-- rows by hand

-- a row: its mark, rank and hops, its vertices, and 255
unfoldable pub shown : ℕ → ℕ → ℕ → Path → List ℕ
shown mark rank hops p = mark ∷ rank ∷ hops ∷ p ++ replicate (13 - length p) 255

-- row 0
abbrev pub origin : List ℕ
origin = 0 ∷ 0 ∷ 0 ∷ 0 ∷ replicate 12 255

-- so many rows of absent vertices
unfoldable pub absent : ℕ → List ℕ
absent zero = []
absent (suc n) = 254 ∷ 0 ∷ 0 ∷ replicate 13 255 ++ absent n

-- buffers by hand

-- what a lent buffer holds before a call, and the sums
abbrev pub lent : ℕ → List ℕ
lent n = replicate n 170

abbrev pub lent_sums : ℕ → List ℤ
lent_sums n = replicate n (pos 7)

abbrev pub zeros : List ℕ
zeros = replicate 4096 0

abbrev pub pair : ℕ → ℕ → Pair
pair v u = record { listener = v; speaker = u }

-- a refusal with its number and place
abbrev pub at : ℕ → ℕ → Option Refusal
at n k = some (record { number = n; place = k })

-- a number below 256 as four bytes
abbrev pub small : ℕ → List ℕ
small n = n ∷ 0 ∷ 0 ∷ 0 ∷ []

-- What is tried: the check of a table, a run, a call of the library or of an entry for C with all that is lent, a text, or one
-- definition alone, by its numbers.
pub data Input : Type 0 where
  check : (table : List ℕ) → Input
  runs : (table heard schedule : List ℕ) → Input
  check_call : (table rows ring : List ℕ) → Input
  step_call : (table heard : List ℕ) → Pair → Input
  run_call : (table heard schedule : List ℕ) (sums : List ℤ) → Input
  check_for_c : (table rows ring numbers : List ℕ) → Input
  step_for_c : (table heard : List ℕ) → Pair → (numbers : List ℕ) → Input
  run_for_c : (table heard schedule sums numbers : List ℕ) → Input
  check_prints : (table : List ℕ) → Input
  run_prints : (table schedule : List ℕ) → Input
  alone : List ℕ → Input

-- What comes out: a refusal, or the verdict, the numbers and every byte of every buffer afterwards.
pub data Outcome : Type 0 where
  refused : (number place : ℕ) → Outcome
  checked : Verdict → (numbers rows ring : List ℕ) → Outcome
  ran : (movements : List ℤ) (numbers heard : List ℕ) (sums : List ℤ) → Outcome
  check_gave : Verdict → (numbers rows ring : List ℕ) → Outcome
  step_gave : Option Refusal → ℤ → (heard : List ℕ) → Outcome
  run_gave : Option Refusal → (numbers heard : List ℕ) (sums : List ℤ) → Outcome
  gave_to_c : (code : ℕ) (buffers : List (List ℕ)) → Outcome
  printed : List ℕ → Outcome
  counts : List ℕ → Outcome

unfoldable pub checked_of : Report → Outcome
checked_of r = checked (found r) (numbers_of r) r.rows r.ring

unfoldable pub movements : (ℕ → List Path) → List ℕ → List Pair → List ℤ
movements paths heard [] = []
movements paths heard (p ∷ s) = movement paths heard p ∷ movements paths (step paths heard p) s

unfoldable pub ran_of : List ℤ → Tally → Outcome
ran_of moved y = ran moved (counts_of y) y.heard y.sums

unfoldable pub unless_refused : Option Refusal → Outcome → Outcome
unless_refused none o = o
unless_refused (some r) o = refused r.number r.place

unfoldable pub outcome : Input → Outcome
outcome (check t) = unless_refused (refusal t) (checked_of (report t))
outcome (runs t heard s) =
    unless_refused (run_refusal t heard s (lent_sums 64))
    (ran_of (movements (paths_of t) heard (pairs_in s)) (run (paths_of t) heard (pairs_in s)))
outcome (check_call t rows ring) =
    check_gave (check_verdict t rows ring) (check_numbers t rows ring) (rows_after t rows ring) (ring_after t rows ring)
outcome (step_call t heard p) = step_gave (step_refusal t heard p) (step_movement t heard p) (heard_after_step t heard p)
outcome (run_call t heard s sums) =
    run_gave (run_refusal t heard s sums) (run_numbers t heard s sums) (heard_after_run t heard s sums) (sums_after_run t heard s sums)
outcome (check_for_c t rows ring numbers) =
    gave_to_c (code_of (check_refusal_for_c t rows ring numbers))
    (rows_for_c t rows ring numbers ∷ ring_for_c t rows ring numbers ∷ check_numbers_for_c t rows ring numbers ∷ [])
outcome (step_for_c t heard p numbers) =
    gave_to_c (code_of (step_refusal_for_c t heard p numbers)) (heard_step_for_c t heard p numbers ∷ step_numbers_for_c t heard p numbers ∷ [])
outcome (run_for_c t heard s sums numbers) =
    gave_to_c (code_of (run_refusal_for_c t heard s sums numbers))
    (heard_run_for_c t heard s sums numbers ∷ sums_for_c t heard s sums numbers ∷ run_numbers_for_c t heard s sums numbers ∷ [])
outcome (check_prints t) = printed (check_text t)
outcome (run_prints t s) = printed (ran_text t s)
outcome (alone ns) = counts ns

-- An example: what is tried, and what must come out.
pub record Example : Type 0 where
  pub input : Input
  pub expected : Outcome

abbrev pub ◌gives◌ : Input → Outcome → Example
i gives o = record { input = i; expected = o }

infix 10 ◌gives◌
-- What is tried gives what is written by hand, for every example of a list.
pub record Works (examples : List Example) : Type 0 where
  pub works : map (λ e. outcome e.input) examples ≡ map (λ e. e.expected) examples

-- a text by its letters
abbrev pub printed_as : String → Outcome
printed_as text = printed (codes text)
