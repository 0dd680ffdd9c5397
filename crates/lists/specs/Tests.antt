-- Laws of tests: what a test says that holds or fails, and a test, two numbers or an option taken by cases.
use Rattle.std.specs.Prelude.{◌≡◌, refl, ◌≢◌, ◌⊎◌, Bool, true, false, ◌&&◌, ◌||◌, ℕ, ◌<◌, ◌≤◌, ltb, eqb}
use Rattle.std.proofs.Common.{sym, ◌∙◌, inl, inr, arith}
use Rattle.std.proofs.Math.Option.{Option, none, some}
use borrow.Author.Tests.{eqb-true, eqb-false, eq-eqb, ne_eqb, ltb-true, ltb-false, lt-ltb, le-ltb}
use Rattle.lists.specs.Search.{outside}

-- what holds where two different cases are called equal: `cc` then says that 0 is 1
pub impossible : {C : Type 0} → ◌≡◌ {A = ℕ} 0 1 → C
impossible z = absurd (omega (arith, z))

pub true≢ : {b : Bool} → b ≡ true → b ≡ false → ⊥
true≢ {b} p q = impossible cc

-- by cases: a test holds or fails, two numbers are equal or not, one is below the other or not

module _ {C : Type 0} where
  pub by_test : (b : Bool) → (b ≡ true → C) → (b ≡ false → C) → C
  by_test true f g = f refl
  by_test false f g = g refl

  pub by_equal : (a b : ℕ) → (a ≡ b → C) → (a ≢ b → C) → C
  by_equal a b f g = by_test (eqb a b) (λ q. f (eqb-true a b q)) (λ q. g (eqb-false a b q))

  pub by_less : (a b : ℕ) → (a < b → C) → (b ≤ a → C) → C
  by_less a b f g = by_test (ltb a b) (λ q. f (ltb-true a b q)) (λ q. g (ltb-false a b q))

-- one of two tests, or both

pub or_none : (a b : Bool) → a || b ≡ false → (a ≡ false) × (b ≡ false)
or_none true b e = absurd (true≢ {b = true} refl e)
or_none false b e = (refl, e)

pub or_cases : (a b : Bool) → a || b ≡ true → (a ≡ true) ⊎ (b ≡ true)
or_cases true b e = inl refl
or_cases false b e = inr e

pub or_left : (a b : Bool) → a ≡ true → a || b ≡ true
or_left a b e = rw e

pub or_right : (a b : Bool) → b ≡ true → a || b ≡ true
or_right true b e = refl
or_right false b e = e

pub neither : (a b : Bool) → a ≡ false → b ≡ false → a || b ≡ false
neither a b p q = rw (p, q)

pub and_parts : (a b : Bool) → a && b ≡ true → (a ≡ true) × (b ≡ true)
and_parts true b e = (refl, e)
and_parts false b e = absurd (true≢ {b = false} e refl)

pub both : (a b : Bool) → a ≡ true → b ≡ true → a && b ≡ true
both a b p q = rw (p, q)

-- a part of a conjunction that its last part brings with it can be put in

pub and_first : (a b c : Bool) → (c ≡ true → a ≡ true) → b && c ≡ (a && b) && c
and_first a b true f = rw (f refl)
and_first true b false f = refl
and_first false true false f = refl
and_first false false false f = refl

pub and_second : (a b c : Bool) → (c ≡ true → b ≡ true) → a && c ≡ (a && b) && c
and_second false b c f = refl
and_second true b true f = rw (f refl)
and_second true true false f = refl
and_second true false false f = refl

-- two comparisons that hold together are one
pub eqb_same : (a b c d : ℕ) → (a ≡ b → c ≡ d) → (c ≡ d → a ≡ b) → eqb a b ≡ eqb c d
eqb_same a b c d f g =
    by_equal c d (λ e. eq-eqb a b (g e) ∙ sym (eq-eqb c d e)) (λ n. ne_eqb a b (λ e. n (f e)) ∙ sym (ne_eqb c d n))

-- a number that is not outside low to high lies between them, and the other way round

module _ (low high n : ℕ) where
  pub inside : outside low high n ≡ false → (low ≤ n) × (n ≤ high)
  unfolding outside
  inside e =
      let h = or_none (ltb n low) (ltb high n) e in
      (ltb-false n low h.0, ltb-false high n h.1)

  pub is_inside : low ≤ n → n ≤ high → outside low high n ≡ false
  unfolding outside
  is_inside p q = neither (ltb n low) (ltb high n) (le-ltb n low p) (le-ltb high n q)

  pub below_out : n < low → outside low high n ≡ true
  unfolding outside
  below_out p = or_left (ltb n low) (ltb high n) (lt-ltb n low p)

  pub above_out : high < n → outside low high n ≡ true
  unfolding outside
  above_out p = or_right (ltb n low) (ltb high n) (lt-ltb high n p)

-- an option by cases, and that its two cases differ

module _ {A : Type 0} where
  pub by_option : {C : Type 0} (o : Option A) → (o ≡ none → C) → ((a : A) → o ≡ some a → C) → C
  by_option none f g = f refl
  by_option (some a) f g = g a refl

  pub none≢some : {o : Option A} {a : A} → o ≡ none → o ≡ some a → ⊥
  none≢some {o} {a} d e = impossible cc
