-- An array that `array::from_fn` makes of a closure that leaves what it captures is the table of what the closure answers.
use Rattle.std.specs.Prelude.{◌≡◌, ℕ, zero, suc, ◌+◌, ◌<◌, ◌≤◌, List, get_or}
use Rattle.std.proofs.Common.{arith, ◌∙◌, sym, subst}
use Rattle.std.proofs.Math.Path.{refl}
use Rattle.std.specs.Array.{IsFromFnResult, IsFromFnResultFrom}
use denote.Param.Members.{Mut, Called}
use Rattle.lists.specs.Tests.{by_equal}
use Rattle.lists.specs.Fill.{tabulate}
use Rattle.lists.specs.FillLaws.{is_tabulate}

module _ {F A : Type 0} (g : Mut F (ℕ × Unit {0}) A) (f : F) (h : ℕ → A) where
  module _ (bound : ℕ) (pure : (i : ℕ) (y : A) (q : F) → i < bound → Called g f (i, tt) y q → (q ≡ f) × (y ≡ h i)) (d : A) (ys : List A) where
    -- the elements from i on, of which n are left
    from_each : (n i : ℕ) (p : F) → i + n ≤ bound → p ≡ f → IsFromFnResultFrom g p ys i n → (k : ℕ) → i ≤ k → k < i + n → get_or ys k d ≡ h k
    from_each zero i p b e all k low high = absurd (omega arith)
    from_each (suc n) i p b e (q, y, here, made, rest) k low high =
        let one = pure i y q (omega arith) (subst (λ s. Called g s (i, tt) y q) e made) in
        by_equal k i
        (λ same. subst (λ j. get_or ys j d ≡ h j) (sym same) (here.1 d ∙ one.1))
        (λ other. from_each n (i + 1) q (omega arith) one.0 rest k (omega arith) (omega arith))

    -- where the closure's answers are known at the numbers below the bound
    pub tabulated_below : IsFromFnResult g f ys bound → ys ≡ tabulate h bound
    tabulated_below all =
        is_tabulate h d bound ys all.long (λ i l. from_each bound 0 f (omega arith) refl all.each i (omega arith) (omega arith))

  -- where they are known at every number
  pub tabulated : ((i : ℕ) (y : A) (q : F) → Called g f (i, tt) y q → (q ≡ f) × (y ≡ h i))
      → (d : A) (ys : List A) (n : ℕ)
      → IsFromFnResult g f ys n
      → ys ≡ tabulate h n
  tabulated pure d ys n all = tabulated_below n (λ i y q l k. pure i y q k) d ys all
