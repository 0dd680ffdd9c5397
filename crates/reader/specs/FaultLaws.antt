-- The first fault of a record, by its rules in order.
use Rattle.std.specs.Prelude.{◌≡◌, refl, Bool, true, false, List, ℕ}
use Rattle.rules.specs.Table.{record_at}
use Rattle.rules.specs.Refusals.{hops_bad, vertex_bad, filler_bad, twice_bad, last_bad, owner_bad, rank_bad, path_bad, rule, in_record, record_rules, first_broken, fault}

-- a rule's number where it is broken, otherwise what the later rules say
abbrev pub first : Bool → ℕ → ℕ → ℕ
first broken n later = elim broken [ true ↦ n | false ↦ later ]

pub fault_by_rules : (t : List ℕ) (i : ℕ)
    → fault t i ≡ first (hops_bad (record_at t i)) 4
    (first (vertex_bad (record_at t i)) 5
    (first (filler_bad (record_at t i)) 6
    (first (twice_bad (record_at t i)) 7
    (first (last_bad (record_at t i)) 8
    (first (owner_bad t i) 9
    (first (rank_bad t i) 10
    (first (path_bad t i) 11 0)))))))
unfolding fault record_rules rule in_record first_broken
fault_by_rules t i = refl
