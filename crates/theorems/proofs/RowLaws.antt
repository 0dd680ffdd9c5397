-- What a row's stage says of the settled set.
use Rattle.std.specs.Prelude.{ℕ, ◌≡◌}
use Rattle.std.proofs.Math.Path.{sym, ap}
use Rattle.std.proofs.Common.{◌∙◌, arith}
use mathlib.Core.List.{List}
use Rattle.std.proofs.Math.Option.{none, some}
use Rattle.std.proofs.Math.ListN.{get_or}
use Rattle.lists.specs.Tests.{by_test, by_option}
use Rattle.rules.specs.Table.{Path, paths_of, present}
use Rattle.rules.specs.Greedy.{settled, stage_of}
use Rattle.rules.specs.Report.{row_bytes, row}
use Rattle.rules.specs.Refusals.{refusal}
use Rattle.laws.specs.GreedyLaws.{stage_settles}
use Rattle.laws.specs.ReportLaws.{row_part}
use Rattle.laws.specs.RingLaws.{final}
use Rattle.theorems.specs.Claims.{row_of, SettledAt, AsReported}
use Rattle.theorems.specs.RowLaws.{row_settled, reported}

module _ (t : List ℕ) (accepted : refusal t ≡ none) (v : ℕ) where
  -- a vertex whose row says stage k was settled after k stages with what its row reports
  pub row_tells : (k : ℕ)
      → SettledAt t v k
      → (p : Path) × ((settled (paths_of t) (present t) k v ≡ some p) × AsReported t v p)
  unfolding row row_bytes
  row_tells k s =
      let part = row_part t v s.vertex in
      by_option (final (paths_of t) (present t) v)
      (λ e. absurd (by_test (present t v)
      (λ q. let mark : get_or (row_of t v) 0 0 ≡ 255 = ap (λ (x : List ℕ). get_or x 0 0) part ∙ rw (q, e, row) in
      omega (arith, s.stage, s.is_stage))
      (λ q. let mark : get_or (row_of t v) 0 0 ≡ 254 = ap (λ (x : List ℕ). get_or x 0 0) part ∙ rw (q, row) in
      omega (arith, s.stage, s.is_stage))))
      (λ p e. let same : stage_of (paths_of t) (present t) v ≡ k = sym
      (ap (λ (x : List ℕ). get_or x 0 0) (row_settled t accepted v p s.vertex e)) ∙ s.stage in
      (p, (rw same at (stage_settles (paths_of t) (present t) v p e), reported t accepted v p s.vertex e)))
