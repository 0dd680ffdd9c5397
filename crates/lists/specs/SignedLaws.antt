-- Laws of a signed number of 32 bits that is taken apart by its sign, so that no cast meets a number below 0.
use Rattle.std.specs.Prelude.{◌≡◌, refl, true, false, ℕ, suc, ◌+◌, ◌-◌, ℤ, pos, negsuc, nat_abs, ◌-ℤ◌, T, ltb}
use Rattle.std.proofs.Common.{sym, ap, ◌∙◌, arith, add-one, le-ltb, to_z-of_z}
use Rattle.std.specs.Int.Signed.{le_z, non_neg}
use Rattle.std.proofs.Math.Dec.{leb-zero}
use Rattle.std.specs.Int.{Width, w32}
use mir.Val.{bits, hbits, Fits, SFits, to_z, of_z}
use Rattle.std.proofs.Math.Facts.{Fits-nat_abs}
use Rattle.lists.specs.Tests.{true≢}

-- a number is 0 or above, or below 0

plain : (z : ℤ) → le_z (pos 0) z ≡ true → T (non_neg z)
plain (pos a) h = tt
plain (negsuc a) h = absurd (true≢ h refl)

below : (z : ℤ) → le_z (pos 0) z ≡ false → (a : ℕ) × (z ≡ negsuc a)
below (pos a) h = absurd (true≢ (leb-zero a) h)
below (negsuc a) h = (a, refl)

-- one below 0 taken from -1
rest_below : (a : ℕ) → negsuc 0 -ℤ negsuc a ≡ pos a
rest_below a = let z : suc a - 1 ≡ a = omega arith in rw (le-ltb (suc a) 1 (omega arith)) (ap pos z)

-- a number n of 32 bits, read back from its bits
abbrev pub back : ℤ → ℤ
back z = to_z w32 (of_z w32 z)

module _ (n : ℤ) (fits : SFits w32 n) where
  -- not below 0, its size fits a width of 32 bits or more
  pub size_plain : (w : Width)
      → T (ltb (hbits w32) (bits w))
      → le_z (pos 0) (back n) ≡ true
      → T (non_neg (back n)) × Fits w (nat_abs (back n))
  size_plain w t h = (plain (back n) h, rw (to_z-of_z fits) (Fits-nat_abs t fits))

  module _ (h : le_z (pos 0) (back n) ≡ false) where
    pub under : (a : ℕ) × (n ≡ negsuc a)
    under = below n (rw (to_z-of_z fits) at h)

    left_is : negsuc 0 -ℤ back n ≡ pos under.0
    left_is = ap (λ (z : ℤ). negsuc 0 -ℤ z) (to_z-of_z fits ∙ under.1) ∙ rest_below under.0

    left_small : SFits w32 (pos under.0)
    left_small = record { sfits = (rw under.1 at fits).sfits }

    pub left_back : back (negsuc 0 -ℤ back n) ≡ pos under.0
    left_back = ap back left_is ∙ to_z-of_z left_small

    -- what is left of -1 is a number of 32 bits
    pub left_fits : SFits w32 (negsuc 0 -ℤ back n)
    left_fits = rw left_is left_small

    -- and not below 0
    pub left_plain : (w : Width) → T (ltb (hbits w32) (bits w))
        → T (non_neg (back (negsuc 0 -ℤ back n))) × Fits w (nat_abs (back (negsuc 0 -ℤ back n)))
    left_plain w t = rw left_back (tt, Fits-nat_abs t left_small)

    -- one more is the size
    pub size_below : nat_abs (back (negsuc 0 -ℤ back n)) + 1 ≡ nat_abs n
    size_below = ap (λ (z : ℤ). nat_abs z + 1) left_back ∙ add-one under.0 ∙ sym (ap nat_abs under.1)

    pub size_fits : (w : Width) → T (ltb (hbits w32) (bits w)) → Fits w (nat_abs (back (negsuc 0 -ℤ back n)) + 1)
    size_fits w t = rw size_below (Fits-nat_abs t fits)
