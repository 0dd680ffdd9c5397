-- The choice of a vertex by its slots: where each leads, and what has to be heard from there.
use Rattle.std.specs.Prelude.{ℕ, suc, ◌+◌, ◌*◌, Bool, true, false, List, [], get_or, eqb}
use Rattle.std.proofs.Math.Option.{none, some}
use Rattle.lists.specs.Search.{first_from}
use Rattle.lists.specs.Fill.{tabulate}
use Rattle.pairs.specs.NextHops.{slot_to}
use Rattle.rests.specs.Rests.{hears_byte}

-- whether v last heard what slot k asks for from where it leads
abbrev pub hears_slot : List ℕ → List ℕ → List ℕ → ℕ → ℕ → Bool
hears_slot nexts asked heard v k = hears_byte (get_or asked k 0) (get_or heard (64 * v + get_or nexts k 0) 0)

-- the number of the first such slot before the first empty one, from 1; 0 where there is none
unfoldable pub chosen_slot : List ℕ → List ℕ → List ℕ → ℕ → ℕ
chosen_slot nexts asked heard v =
    elim (first_from (hears_slot nexts asked heard v) 0 (slot_to nexts 255)) [ none ↦ 0 | some k ↦ suc k ]

-- the byte of v's choice; the destination's is 1
unfoldable pub choice_byte : List ℕ → List ℕ → List ℕ → ℕ → ℕ
choice_byte nexts asked heard v = elim (eqb v 0) [ true ↦ 1 | false ↦ chosen_slot nexts asked heard v ]

-- the bytes of all vertices' choices
unfoldable pub choices_by : List (List ℕ) → List (List ℕ) → List ℕ → List ℕ
choices_by nexts asked heard = tabulate (λ v. choice_byte (get_or nexts v []) (get_or asked v []) heard v) 64
