-- Laws of what the run's lines show: the record of a rank by cases, and the vertices one by one.
use Rattle.std.specs.Prelude.{◌≡◌, refl, ◌≢◌, Bool, true, false, List, [], ◌++◌, get_or, ℤ, pos}
use Rattle.std.proofs.Math.Path.{sym}
use Rattle.std.proofs.Common.{◌∙◌}
use Prim.Native.Nat.{ℕ, zero, suc, ◌+◌, ◌-◌, ◌<◌, min}
use native.Mathlib.Omega.{arith}
use Rattle.lists.specs.Fill.{tabulate}
use Rattle.lists.specs.FillLaws.{tabulate_at}
use Rattle.rules.specs.Table.{Path, path_at, records, slots_of, present}
use Rattle.rules.specs.RunText.{vertex_line}
use Rattle.laws.specs.RunTextLaws.{vertices_present, vertices_absent}
use Rattle.run_lines.specs.Shown.{ranked_record, shown_line, shown_lines}

-- the record of a rank

module _ (slots : List ℕ) where
  pub ranked_none : (rank : ℕ) → rank ≡ 0 → 65535 ≡ ranked_record slots rank
  unfolding ranked_record
  ranked_none rank e = rw e

  pub ranked_some : (rank : ℕ) → rank ≢ 0 → get_or slots (rank - 1) 65535 ≡ ranked_record slots rank
  unfolding ranked_record
  ranked_some zero f = absurd (f refl)
  ranked_some (suc k) f = let z : suc k - 1 ≡ k = omega arith in rw z

-- vertex v behind those up to k, which are all before it, are those up to n, which is v

module _ (t choices : List ℕ) (sums : List ℤ) {named : List Bool} (k v n : ℕ)
    (marked : named ≡ tabulate (present t) 64) (after : v ≡ k + 1) (last : n ≡ v) (h : v < 64) where
  named_at : (d : Bool) → get_or named v d ≡ present t v
  named_at d = rw marked (tabulate_at (present t) 64 v d h)

  pub shown_absent : (d : Bool)
      → get_or named v d ≡ false
      → shown_lines t choices sums k ≡ shown_lines t choices sums n
  shown_absent d e =
      rw (last, after)
      (vertices_absent (present t) (shown_line t choices sums) k (rw after at (sym (named_at d) ∙ e)))

  pub shown_present : (d : Bool) {slots : List (List ℕ)} {row : List ℕ} {rank i : ℕ} {sum : ℤ} {path : Path}
      → get_or named v d ≡ true
      → slots ≡ slots_of t (min (records t) 1008)
      → row ≡ get_or slots v []
      → rank ≡ get_or choices v 0
      → i ≡ ranked_record row rank
      → sum ≡ get_or sums v (pos 0)
      → path ≡ path_at t i
      → shown_lines t choices sums k ++ vertex_line v sum rank path ≡ shown_lines t choices sums n
  unfolding shown_line
  shown_present d {slots} {row} {rank} {i} {sum} {path} e s r b q m p =
      rw (last, after)
      (vertices_present (present t) (shown_line t choices sums) k (vertex_line (k + 1) sum rank path)
      (rw after at (sym (named_at d) ∙ e))
      (rw (p, q, m, r, s, b, after)))
