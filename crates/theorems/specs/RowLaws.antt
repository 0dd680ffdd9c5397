-- What a row's bytes say of the settled set.
use Rattle.std.specs.Prelude.{ℕ, zero, suc, ◌<◌, ◌≤◌, ◌≡◌, length}
use Rattle.std.proofs.Math.Path.{sym, ap}
use Rattle.std.proofs.Common.{◌∙◌, ⊎_elim, arith}
use mathlib.Core.List.{List, [], ◌∷◌}
use Rattle.std.proofs.Math.Option.{none, some}
use Rattle.std.proofs.Math.ListN.{get_or}
use Rattle.lists.specs.Tests.{by_equal}
use Rattle.rules.specs.Table.{Path, paths_of, present}
use Rattle.rules.specs.Greedy.{settled, stage_of, stage_count}
use Rattle.rules.specs.Report.{rank_in, row_bytes, row, path_shown}
use Rattle.rules.specs.Refusals.{refusal}
use Rattle.laws.specs.ShapeLaws.{shaped}
use Rattle.laws.specs.GreedyLaws.{settled_present, settled_permitted, origin_path}
use Rattle.laws.specs.ReportLaws.{row_part, vertices_padded}
use Rattle.laws.specs.RingLaws.{final}
use Rattle.theorems.specs.Claims.{row_of, AsReported}

-- the path (0) can be read back from a row
origin_small : (k : ℕ) → k < length {A = ℕ} (0 ∷ []) → get_or {A = ℕ} (0 ∷ []) k 0 < 64
origin_small zero h = omega arith
origin_small (suc k) h = absurd (omega arith)

module _ (t : List ℕ) (accepted : refusal t ≡ none) (v : ℕ) where
  -- a settled vertex's row holds its stage, its rank and its path
  pub row_settled : (p : Path)
      → v < 64
      → final (paths_of t) (present t) v ≡ some p
      → row_of t v ≡ row_bytes (stage_of (paths_of t) (present t) v) (rank_in (paths_of t) v p) p
  unfolding row
  row_settled p h e =
      let here = settled_present (paths_of t) (present t) (shaped t accepted).origin
      (stage_count (paths_of t) (present t)) v p e in
      row_part t v h ∙ rw (here, e, row)

  -- the path of a settled vertex can be read back from its row
  path_fits : (k : ℕ) (p : Path)
      → settled (paths_of t) (present t) k v ≡ some p
      → (length p ≤ 13) × ((k : ℕ) → k < length p → get_or p k 0 < 64)
  path_fits k p e =
      by_equal v 0
      (λ z. rw (origin_path (paths_of t) (present t) k v p z e) (omega arith, origin_small))
      (λ z. ⊎_elim (λ n. rw n (omega arith, λ j h. absurd (omega arith))) (λ r. (r.short, r.vertices))
      (settled_permitted (paths_of t) (present t) (shaped t accepted) k v p z e))

  -- so it is as reported
  pub reported : (p : Path) → v < 64 → final (paths_of t) (present t) v ≡ some p → AsReported t v p
  unfolding row_bytes path_shown
  reported p h e =
      let r = row_settled p h e in
      let f = path_fits (stage_count (paths_of t) (present t)) p e in
      record {
        rank = sym (ap (λ (x : List ℕ). get_or x 1 0) r);
        hops = sym (ap (λ (x : List ℕ). get_or x 2 0) r);
        path = sym (ap path_shown r ∙ vertices_padded p f.0 f.1);
      }
