-- Laws of what one step counts: nothing where the rank stays, otherwise an up, a down or neither, and the step's number.
use Rattle.std.specs.Prelude.{◌≡◌, ◌≢◌, Bool, true, false, ℕ, zero, suc, ◌+◌, ◌-◌, ◌<◌, ◌≤◌, min, ℤ, negsuc, nat_abs, ◌+ℤ◌, ◌-ℤ◌}
use Rattle.std.proofs.Math.Path.{refl}
use Rattle.std.proofs.Common.{ap, SFits, to_z, of_z, to_z-of_z, eq-eqb, ne_eqb}
use native.Mathlib.Omega.{arith}
use Rattle.std.proofs.Math.IntN.{pos, +ℤ_comm, +ℤ_invr}
use Rattle.std.specs.Int.{w32}
use Rattle.lists.specs.NumberLaws.{difference_most, difference_above, difference_below}
use Rattle.rules.specs.Machine.{standing_of}
use Rattle.laws.specs.MachineLaws.{standing_of_most}
use Rattle.rules.specs.Run.{more, is_up, is_down}
use Rattle.tally.specs.Counting.{moved, more_to, last_of, CountedStep}

-- a number of the size of two standings fits 32 bits
within : (z : ℤ) → nat_abs z ≤ 32 → SFits w32 z
within (pos n) h = record { sfits = omega arith }
within (negsuc n) h = record { sfits = omega arith }

-- so one of the size of a standing does
pub small_fits : (z : ℤ) → nat_abs z ≤ 16 → SFits w32 z
small_fits z h = within z (omega (arith, h))

-- and the sum of two
pub sum_fits : (a b : ℤ) → nat_abs a ≤ 16 → nat_abs b ≤ 16 → SFits w32 (a +ℤ b)
sum_fits (pos a) (pos b) h l = within (pos a +ℤ pos b) (omega arith)
sum_fits (pos a) (negsuc b) h l = within (pos a +ℤ negsuc b) (difference_most a (suc b) 32 (omega arith) (omega arith))
sum_fits (negsuc a) (pos b) h l =
    rw (+ℤ_comm (negsuc a) (pos b)) (within (pos b +ℤ negsuc a) (difference_most b (suc a) 32 (omega arith) (omega arith)))
sum_fits (negsuc a) (negsuc b) h l = within (negsuc a +ℤ negsuc b) (omega arith)

-- a small number is read back from its bits
pub small_told : (z d : ℤ) → nat_abs d ≤ 16 → z ≡ d → to_z w32 (of_z w32 z) ≡ d
small_told z d h e = rw e (to_z-of_z {w = w32} (small_fits d h))

-- standings
pub standing_zero : (r : ℕ) → r ≡ 0 → 0 ≡ standing_of r
unfolding standing_of
standing_zero r e = rw e

pub standing_more : (r : ℕ) → r ≢ 0 → 17 - r ≡ standing_of r
unfolding standing_of
standing_more zero f = absurd (f refl)
standing_more (suc r) f = omega arith

-- a movement is small
pub moved_small : (old new : ℕ) → nat_abs (moved old new) ≤ 16
unfolding moved
moved_small old new = difference_most (standing_of new) (standing_of old) 16 (standing_of_most new) (standing_of_most old)

-- and is that of the standings
module _ (old new a b : ℕ) (e : a ≡ standing_of new) (f : b ≡ standing_of old) where
  difference : to_z w32 a -ℤ to_z w32 b ≡ moved old new
  unfolding moved
  difference =
      rw (
        small_told (pos a) (pos (standing_of new)) (standing_of_most new) (ap pos e),
        small_told (pos b) (pos (standing_of old)) (standing_of_most old) (ap pos f),
      )

  pub move_fits : SFits w32 (to_z w32 a -ℤ to_z w32 b)
  move_fits = rw difference (small_fits (moved old new) (moved_small old new))

  pub move_told : to_z w32 (of_z w32 (to_z w32 a -ℤ to_z w32 b)) ≡ moved old new
  move_told = small_told (to_z w32 a -ℤ to_z w32 b) _ (moved_small old new) difference

-- a movement above 0 is an up and no down, one below 0 a down and no up, none is neither
module _ (old new a b : ℕ) (e : a ≡ standing_of old) (f : b ≡ standing_of new) where
  up : a < b → (is_up (moved old new) ≡ true) × (is_down (moved old new) ≡ false)
  unfolding is_up is_down moved
  up h = rw (difference_above (standing_of new) (standing_of old) (omega arith)) (refl, refl)

  down : b < a → (is_up (moved old new) ≡ false) × (is_down (moved old new) ≡ true)
  unfolding is_up is_down moved
  down h = rw (difference_below (standing_of new) (standing_of old) (omega arith)) (refl, refl)

  level : a ≡ b → (is_up (moved old new) ≡ false) × (is_down (moved old new) ≡ false)
  unfolding is_up is_down moved
  level h =
      let z : standing_of old ≡ standing_of new = omega arith in
      rw (z, +ℤ_invr (pos (standing_of new))) (refl, refl)

-- the answers of the code

module _ (old new n ups downs last : ℕ) where
  -- the rank stays
  pub counted_same : old ≡ new → CountedStep old new n ups downs last ups downs last
  unfolding more_to last_of
  counted_same e =
      let r = level old new (standing_of old) (standing_of new) refl refl (ap standing_of e) in
      record { up = rw r.0; down = rw r.1; change = rw (eq-eqb old new e, last_of) }

  module _ (other : old ≢ new) (a b : ℕ) (e : a ≡ standing_of old) (f : b ≡ standing_of new) where
    -- the standing rises
    pub counted_up : a < b → (more : ℕ) → more ≡ min (ups + 1) 4294967295 → CountedStep old new n ups downs last more downs n
    unfolding more_to last_of
    counted_up h more q =
        let r = up old new a b e f h in
        record { up = rw r.0 (omega (arith, q)); down = rw r.1; change = rw (ne_eqb old new other, last_of) }

    -- it falls
    pub counted_down : b < a → (more : ℕ) → more ≡ min (downs + 1) 4294967295 → CountedStep old new n ups downs last ups more n
    unfolding more_to last_of
    counted_down h more q =
        let r = down old new a b e f h in
        record { up = rw r.0; down = rw r.1 (omega (arith, q)); change = rw (ne_eqb old new other, last_of) }

    -- or neither
    pub counted_level : a ≡ b → CountedStep old new n ups downs last ups downs n
    unfolding more_to last_of
    counted_level h =
        let r = level old new a b e f h in
        record { up = rw r.0; down = rw r.1; change = rw (ne_eqb old new other, last_of) }

-- where the count is not the greatest number it is one more
pub more_to_lem : (most : ℕ) (b : Bool) (n : ℕ) → n < most → more_to most b n ≡ more b n
unfolding more_to more
more_to_lem most true n h = omega arith
more_to_lem most false n h = refl
