-- Laws of the letters of a signed number, by the sign, with the size m of the number that is read back from its bits.
use Rattle.std.specs.Prelude.{◌≡◌, true, false, ◌++◌, ℕ, ℤ, pos, negsuc, nat_abs}
use Rattle.std.proofs.Math.Path.{refl}
use Rattle.std.proofs.Common.{arith, SFits, to_z-of_z}
use Rattle.std.specs.Int.Signed.{lt_z}
use Rattle.std.specs.Int.{w32}
use borrow.Author.Tests.{ltb-true}
use Rattle.lists.specs.Tests.{true≢}
use Rattle.lists.specs.SignedLaws.{back}
use Rattle.rules.specs.Text.{codes, decimal}
use Rattle.rules.specs.RunText.{signed}

module _ (n : ℤ) (m : ℕ) (fits : SFits w32 n) (e : m ≡ nat_abs (back n)) where
  pub signed_plain : lt_z (back n) (pos 0) ≡ false → decimal m ≡ signed n
  unfolding signed
  signed_plain h = rw (e, to_z-of_z fits) (go n (rw (to_z-of_z fits) at h))
    where
      go : (z : ℤ) → lt_z z (pos 0) ≡ false → decimal (nat_abs z) ≡ signed z
      go (pos a) h = refl
      go (negsuc a) h = absurd (true≢ refl h)

  pub signed_below : lt_z (back n) (pos 0) ≡ true → codes "-" ++ decimal m ≡ signed n
  unfolding signed
  signed_below h = rw (e, to_z-of_z fits) (go n (rw (to_z-of_z fits) at h))
    where
      go : (z : ℤ) → lt_z z (pos 0) ≡ true → codes "-" ++ decimal (nat_abs z) ≡ signed z
      go (pos a) h = absurd (omega (arith, ltb-true))
      go (negsuc a) h = refl
