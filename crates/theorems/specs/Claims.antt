-- What the theorems speak of, over the bytes of a table, its rows, heard states and schedules: calls one after the
-- other, what a row reports, what is claimed of a settled router, and heard states in which the machine rests. A router
-- is a vertex of the rules.
use Prim.{Unit}
use Rattle.std.specs.Prelude.{ℕ, pred, ◌+◌, ◌*◌, ◌%◌, ◌<◌, ◌≤◌, ◌≡◌, true, false, List, [], ◌∷◌, ◌++◌, length, get_or, take, ℤ}
use Rattle.std.proofs.Math.Option.{Option, none}
use Rattle.lists.specs.Fill.{tabulate}
use Rattle.rules.specs.Table.{Path, paths_of, listens, listens_at}
use Rattle.rules.specs.Report.{rank_in, row_at, path_shown, report}
use Rattle.rules.specs.Machine.{Pair, byte_for, heard_fault, choice}
use Rattle.rules.specs.Run.{pairs_in, listening_offsets, run}
use Rattle.rules.specs.Refusals.{Refusal, refusal}
use Rattle.rules.specs.Answers.{step_refusal, heard_after_step, run_refusal, run_numbers, heard_after_run}

-- A call that the collector can make on a heard state: a run over a schedule, with a buffer lent for the sums, or a
-- single step.
pub data Call : Type 0 where
  of_run : (schedule : List ℕ) (sums : List ℤ) → Call
  of_step : Pair → Call

-- its refusal, the heard state after it, its pairs, and the rounds that it answers (a step answers none)

unfoldable pub call_refusal : List ℕ → List ℕ → Call → Option Refusal
call_refusal t heard (of_run s sums) = run_refusal t heard s sums
call_refusal t heard (of_step p) = step_refusal t heard p

unfoldable pub heard_after_call : List ℕ → List ℕ → Call → List ℕ
heard_after_call t heard (of_run s sums) = heard_after_run t heard s sums
heard_after_call t heard (of_step p) = heard_after_step t heard p

unfoldable pub pairs_of_call : Call → List Pair
pairs_of_call (of_run s sums) = pairs_in s
pairs_of_call (of_step p) = p ∷ []

unfoldable pub rounds_of_call : List ℕ → List ℕ → Call → ℕ
rounds_of_call t heard (of_run s sums) = get_or (run_numbers t heard s sums) 4 0
rounds_of_call t heard (of_step p) = 0

-- calls one after the other with the same table: each is accepted in the state that it finds, ..
unfoldable pub AllAccepted : List ℕ → List ℕ → List Call → Type 0
AllAccepted t heard [] = Unit {0}
AllAccepted t heard (c ∷ cs) = (call_refusal t heard c ≡ none) × AllAccepted t (heard_after_call t heard c) cs

-- .. the state after them, ..
unfoldable pub heard_after : List ℕ → List ℕ → List Call → List ℕ
heard_after t heard [] = heard
heard_after t heard (c ∷ cs) = heard_after t (heard_after_call t heard c) cs

-- .. all their pairs, ..
unfoldable pub pairs_of : List Call → List Pair
pairs_of [] = []
pairs_of (c ∷ cs) = pairs_of_call c ++ pairs_of cs

-- .. the state after the first n of these (pairs_none, pairs_next and pairs_all say that these are the states on the way), ..
unfoldable pub heard_after_pairs : List ℕ → List ℕ → List Call → ℕ → List ℕ
heard_after_pairs t heard calls n = (run (paths_of t) heard (take n (pairs_of calls))).heard

-- .. and all the rounds that they answer, each run counting from its own start
unfoldable pub rounds_answered : List ℕ → List ℕ → List Call → ℕ
rounds_answered t heard [] = 0
rounds_answered t heard (c ∷ cs) = rounds_of_call t heard c + rounds_answered t (heard_after_call t heard c) cs

-- the listening pairs of a table, each by its offset 64v+u, of which a round leaves out none
abbrev pub listening_pairs : List ℕ → List ℕ
listening_pairs t = listening_offsets (paths_of t)

-- A valid heard state.
pub record Valid (t heard : List ℕ) : Type 0 where
  pub long : length heard ≡ 4096
  pub fine : heard_fault (paths_of t) heard ≡ none

-- the row of v in the report
abbrev pub row_of : List ℕ → ℕ → List ℕ
row_of t v = row_at (report t).rows v

-- The row of v says stage k, "byte 0: stage; 254 absent; 255 stuck": a stage is 0 to 63, so that 254 and 255 are none.
pub record SettledAt (t : List ℕ) (v k : ℕ) : Type 0 where
  pub vertex : v < 64
  pub stage : get_or (row_of t v) 0 0 ≡ k
  pub is_stage : k ≤ 63

-- What is given: an accepted table, a router whose row says stage k, a valid heard state, and calls none of which is refused.
pub record Given (t heard : List ℕ) (v k : ℕ) (calls : List Call) : Type 0 where
  pub table : refusal t ≡ none
  pub row : SettledAt t v k
  pub state : Valid t heard
  pub each : AllAccepted t heard calls

-- p is what the row of v reports, [] where it reports no path: "byte 1 rank, byte 2 hops, bytes 3 to 15 the vertices,
-- then 255".
pub record AsReported (t : List ℕ) (v : ℕ) (p : Path) : Type 0 where
  pub rank : rank_in (paths_of t) v p ≡ get_or (row_of t v) 1 0
  pub hops : pred (length p) ≡ get_or (row_of t v) 2 0
  pub path : p ≡ path_shown (row_of t v)

-- The choice of v is as reported, and stays so: now, after all accepted calls that may follow, and after each single
-- step of them.
pub record Stays (t heard : List ℕ) (v : ℕ) : Type 0 where
  pub now : AsReported t v (choice (paths_of t) heard v)
  pub afterwards : (later : List Call)
      → AllAccepted t heard later
      → AsReported t v (choice (paths_of t) (heard_after t heard later) v)
  pub between : (later : List Call)
      → AllAccepted t heard later
      → (n : ℕ)
      → AsReported t v (choice (paths_of t) (heard_after_pairs t heard later n) v)

-- Every listening pair holds, as a byte, what is given of its speaker.
abbrev pub Holding : List ℕ → List ℕ → (ℕ → Path) → Type 0
Holding t heard given =
    (v u : ℕ) → listens (paths_of t) v u ≡ true → get_or heard (64 * v + u) 0 ≡ byte_for (paths_of t) u (given u)

-- Every heard byte at a listening pair is the speaker's present choice.
abbrev pub Resting : List ℕ → List ℕ → Type 0
Resting t heard = Holding t heard (choice (paths_of t) heard)

-- A valid heard state that no step changes, be it accepted or refused.
pub record Rests (t heard : List ℕ) : Type 0 where
  pub valid : Valid t heard
  pub unchanged : (p : Pair) → heard_after_step t heard p ≡ heard

-- The heard state that stores an assignment: at every listening pair what is assigned to the speaker, and nothing elsewhere.
unfoldable pub stored_byte : List ℕ → (ℕ → Path) → ℕ → ℕ
stored_byte t assigned k =
    elim (listens_at (paths_of t) k) [ true ↦ byte_for (paths_of t) (k % 64) (assigned (k % 64)) | false ↦ 0 ]

unfoldable pub storing : List ℕ → (ℕ → Path) → List ℕ
storing t assigned = tabulate (stored_byte t assigned) 4096
