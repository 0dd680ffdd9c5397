-- Demand 3, its last sentence: every stable assignment agrees with the report on settled routers.
use Rattle.std.specs.Prelude.{ℕ, ◌≡◌, List}
use Rattle.std.proofs.Common.{sym, subst}
use Rattle.std.proofs.Math.Option.{none}
use Rattle.rules.specs.Table.{Path, paths_of, present}
use Rattle.rules.specs.Stable.{Stable}
use Rattle.rules.specs.Refusals.{refusal}
use Rattle.laws.specs.ShapeLaws.{shaped}
use Rattle.theorems.specs.Claims.{SettledAt, AsReported}
use Rattle.theorems.proofs.RowLaws.{row_tells}
use Rattle.theorems.specs.AgreementLaws.{stable_agrees}

module _ (t : List ℕ) (accepted : refusal t ≡ none) where
  -- Every stable assignment gives a router whose row says a stage what its row reports: that path, or none.
  pub stable_reported : (assigned : ℕ → Path)
      → Stable (paths_of t) (present t) assigned
      → (v k : ℕ)
      → SettledAt t v k
      → AsReported t v (assigned v)
  stable_reported assigned stable v k row =
      let told = row_tells t accepted v k row in
      subst (AsReported t v) (sym (stable_agrees (paths_of t) (present t) (shaped t accepted) assigned stable k v
      told.0 told.1.0)) told.1.1
