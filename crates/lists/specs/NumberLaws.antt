-- Laws of numbers: by cases, two numbers told by one, and differences.
use Rattle.std.specs.Prelude.{◌≡◌, refl, ℕ, zero, suc, ◌+◌, ◌-◌, ◌*◌, ◌/◌, ◌%◌, ◌<◌, ◌≤◌, ltb, ℤ, pos, negsuc, ◌+ℤ◌, ◌-ℤ◌, neg_ℤ, nat_abs}
use Rattle.std.proofs.Common.{sym, ap, ◌∙◌, arith, ltb-true, lt-ltb, le-ltb}
use Rattle.std.proofs.Math.IntN.{+ℤ_assoc, +ℤ_comm, +ℤ_invr, +ℤ_idl}
use Rattle.lists.specs.Tests.{by_test}

-- a number is 0 or one more than another
pub by_number : {C : Type 0} (n : ℕ) → (n ≡ 0 → C) → ((k : ℕ) → n ≡ suc k → C) → C
by_number zero f g = f refl
by_number (suc k) f g = g k refl

-- two numbers, the second below 64, are told by 64 times the first plus the second
pub told_apart : (a b c d : ℕ) → b < 64 → d < 64 → 64 * a + b ≡ 64 * c + d → (a ≡ c) × (b ≡ d)
told_apart a b c d h l e = omega arith

-- the first of the two
pub told_first : (a b : ℕ) → b < 64 → (64 * a + b) / 64 ≡ a
told_first a b h = omega arith

-- the second of the two
pub told_second : (a b : ℕ) → b < 64 → (64 * a + b) % 64 ≡ b
told_second a b h = omega arith

-- the difference of two numbers is no larger than both
pub difference_most : (a b n : ℕ) → a ≤ n → b ≤ n → nat_abs (pos a -ℤ pos b) ≤ n
difference_most a zero n h l = omega arith
difference_most a (suc b) n h l =
    by_test (ltb a (suc b)) (λ q. rw q (omega (arith, ltb-true a (suc b) q))) (λ q. rw q (omega arith))

-- the difference of a larger number and a smaller one, and the other way round
pub difference_above : (b a : ℕ) → a < b → pos b -ℤ pos a ≡ pos (suc (b - a - 1))
difference_above b zero h = ap pos (omega arith)
difference_above b (suc a) h = rw (le-ltb b (suc a) (omega arith)) (ap pos (omega arith))

pub difference_below : (b a : ℕ) → b < a → pos b -ℤ pos a ≡ negsuc (a - b - 1)
difference_below b zero h = absurd (omega arith)
difference_below b (suc a) h = rw (lt-ltb b (suc a) h) (ap negsuc (omega arith))

-- one more difference takes a sum of differences on from its last number to the next
pub telescope : (c s t u : ℤ) → c +ℤ t -ℤ s +ℤ (u -ℤ t) ≡ c +ℤ u -ℤ s
telescope c s t u = simp +ℤ_assoc (ap (λ x. c +ℤ x) (cancel (neg_ℤ s)))
  where
    cancel : (n : ℤ) → t +ℤ (n +ℤ (u -ℤ t)) ≡ u +ℤ n
    cancel n =
        ap (λ x. t +ℤ x) (sym (+ℤ_assoc n u (neg_ℤ t)) ∙ +ℤ_comm (n +ℤ u) (neg_ℤ t)) ∙ sym (+ℤ_assoc t (neg_ℤ t) (n +ℤ u))
        ∙ ap (λ x. x +ℤ (n +ℤ u)) (+ℤ_invr t) ∙ +ℤ_idl (n +ℤ u) ∙ +ℤ_comm n u
