-- "The stage count s is 0 to 63": a vertex that settles at stage 63, found by computing.
use Rattle.std.specs.Prelude.{◌≡◌, refl, true, false, List, [], ◌∷◌, ℕ, suc, eqb}
use Rattle.lists.specs.Search.{same}
use Rattle.lists.specs.Fill.{tabulate}
use Rattle.rules.specs.Table.{Path, next_hop, first}
use Rattle.rules.specs.Greedy.{is_settled, compatible, at_start, judged, best, stage, stages_from, stages_until, stage_of}

-- each vertex but 63 has one path, over the vertex above it: 63 settles first, and each stage shuts out the next path
abbrev pub one_after_another : ℕ → List Path
one_after_another v = elim (eqb v 63) [ true ↦ [] | false ↦ (v ∷ suc v ∷ 0 ∷ []) ∷ [] ]

pub deepest : stage_of one_after_another (λ v. true) 1 ≡ 63
unfolding same tabulate next_hop first is_settled compatible at_start judged best stage stages_from stages_until stage_of
deepest = refl
