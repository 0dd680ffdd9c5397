-- A law for the published examples: what passes the test of an assignment is stable.
use Prim.Native.Nat.{ℕ, suc, pred, ◌<◌}
use Rattle.std.specs.Prelude.{◌≡◌, refl, false}
use Rattle.std.proofs.Math.Path.{subst}
use Rattle.std.proofs.Math.Bool.{not}
use mathlib.Core.List.{List}
use native.Mathlib.Omega.{arith}
use Rattle.std.proofs.lemmas.Bool.{not-false}
use Rattle.lists.specs.Search.{same}
use Rattle.lists.specs.SearchLaws.{none_below}
use Rattle.lists.specs.ListLaws.{same_eq}
use Rattle.rules.specs.Table.{Path, paths_of, present}
use Rattle.rules.specs.Stable.{Stable, best_given}
use Rattle.theorems.proofs.RestingPoints.{stable_rests}
use Rattle.theorems.specs.Published.{assigned}
use Rattle.theorems.specs.PublishedLaws.{StableState, Routers, present_most, unstable}

module _ (t : List ℕ) (n : ℕ) (routers : Routers t n) where
  -- an assignment that passes the test is stable, and the state that stores it rests
  pub tested_stable : (ps : List Path) → unstable t n (assigned ps) ≡ false → StableState t ps
  unfolding unstable assigned
  tested_stable ps e =
      let a = assigned ps in
      let tested : (k : ℕ) → k < n → a (suc k) ≡ best_given (paths_of t) a (suc k) =
      λ k h. same_eq _ _ (not-false _ (none_below (λ j. not (same (a (suc j)) (best_given (paths_of t) a (suc j)))) n e k h))
      in
      let stable : Stable (paths_of t) (present t) a =
      record {
        destination = refl;
        others = λ v z here. let s : suc (pred v) ≡ v = omega arith in
            subst (λ w. a w ≡ best_given (paths_of t) a w) s (tested (pred v) (omega (arith, present_most t n routers v here)));
      }
      in
      record { stable = stable; rests = stable_rests t routers.accepted a stable }
