-- The walk over a schedule, by where the slots lead: its first pair that does not listen, and the rounds before it.
use Rattle.std.specs.Prelude as std
use Rattle.std.specs.Prelude.{Some, None, Result, Ok, Err, ℕ, ◌+◌, ◌*◌, ◌/◌, ◌≤◌, ◌≡◌, Bool, true, false, not, List, [], length, get_or, drop}
use Rattle.std.proofs.Math.Option.{Option, none, some}
use Rattle.lists.specs.Search.{first_in, count_below}
use Rattle.rules.specs.Table.{paths_of, listens_at}
use Rattle.rules.specs.Refusals.{refusal}
use Rattle.rules.specs.Machine.{Pair}
use Rattle.rules.specs.Run.{pairs_in, run}
use Rattle.pairs.specs.NextHops.{Rows, slot_to, hears_from, listens_in, pair_number}
use Rattle.tally.specs.Stamps.{Stamped}
use Rattle.run_admission.specs.Tallied.{tally_at}

-- the number of a pair that listens, none for any other
unfoldable pub number_in : List (List ℕ) → ℕ → ℕ → std.Option ℕ
number_in nexts v u = elim (hears_from nexts v u) [ true ↦ Some (16 * v + slot_to (get_or nexts v []) u) | false ↦ None ]

-- a pair that does not listen
unfoldable pub unheard : List (List ℕ) → ℕ → Pair → Bool
unheard nexts i p = not (hears_from nexts p.listener p.speaker)

-- the number of the first pair that does not listen, none where all do
unfoldable pub bad_pair : List (List ℕ) → List ℕ → Option ℕ
bad_pair nexts s = first_in (unheard nexts) 0 (pairs_in s)

-- the pair at which a walk has stopped, none where it has come to the end
abbrev pub stopped_at : Result ℕ ℕ → Option ℕ
stopped_at (Ok rounds) = none
stopped_at (Err pair) = some pair

-- the stamps after i pairs are those of the rules' run, from any state
pub record Rounded (t heard s : List ℕ) (nexts : List (List ℕ)) (i : ℕ) (stamps : List ℕ) (closed missing : ℕ) : Type 0 where
  pub rounds : closed ≡ (tally_at t heard s i).rounds
  pub stamped : Stamped (listens_at (paths_of t)) (pair_number nexts) stamps closed missing (tally_at t heard s i).since
  pub few : closed ≤ i

-- the walk after i pairs, all of which listen
pub record Walking (nexts : List (List ℕ)) (s : List ℕ) (all i : ℕ) (stamps : List ℕ) (closed missing : ℕ) : Type 0 where
  pub come : first_in (unheard nexts) i (drop i (pairs_in s)) ≡ first_in (unheard nexts) 0 (pairs_in s)
  pub whole : all ≡ count_below (listens_in nexts) 4096
  pub size : length stamps ≡ 1024
  pub rounded : (t heard : List ℕ) → refusal t ≡ none → Rows (paths_of t) nexts → length s ≤ 32768 → Rounded t heard s nexts i stamps closed missing

-- the whole walk: the rounds are those of every run over an accepted table that leads there
pub record Walked (nexts : List (List ℕ)) (s : List ℕ) (w : Result ℕ ℕ) : Type 0 where
  pub bad : stopped_at w ≡ bad_pair nexts s
  pub closed : (t heard : List ℕ)
      → refusal t ≡ none
      → Rows (paths_of t) nexts
      → length s ≤ 32768
      → (rounds : ℕ)
      → w ≡ Ok rounds
      → rounds ≡ (run (paths_of t) heard (pairs_in s)).rounds
