-- What one step counts, from the listener's ranks before and after it.
use Rattle.std.specs.Prelude.{ℕ, suc, min, ◌≡◌, Bool, true, false, ℤ, pos, ◌-ℤ◌, eqb}
use Rattle.rules.specs.Machine.{standing_of}
use Rattle.rules.specs.Run.{is_up, is_down}

-- the movement
unfoldable pub moved : ℕ → ℕ → ℤ
moved old new = pos (standing_of new) -ℤ pos (standing_of old)

-- one more where the test holds, as far as the greatest number goes
unfoldable pub more_to : ℕ → Bool → ℕ → ℕ
more_to most true n = min (suc n) most
more_to most false n = n

-- the number of the last step that changed a choice, where this one has the number n
unfoldable pub last_of : ℕ → ℕ → ℕ → ℕ → ℕ
last_of old new n last = elim (eqb old new) [ true ↦ last | false ↦ n ]

-- the counts before and after a step
pub record CountedStep (old new number ups downs last ups_now downs_now last_now : ℕ) : Type 0 where
  pub up : ups_now ≡ more_to 4294967295 (is_up (moved old new)) ups
  pub down : downs_now ≡ more_to 4294967295 (is_down (moved old new)) downs
  pub change : last_now ≡ last_of old new number last
