-- What it means that a schedule contains so many rounds: stretches, each begun after the one before has ended, gaps allowed, in each of
-- which every listening pair is activated.
use Prim.{Unit}
use Rattle.std.specs.Prelude.{ℕ, zero, suc, ◌≡◌, true, List, ◌++◌, map}
use Rattle.lists.specs.Search.{elem}
use Rattle.rules.specs.Machine.{Pair, offset_of}

-- every number of the one list stands in the other
abbrev pub AllIn : List ℕ → List ℕ → Type 0
AllIn a b = (k : ℕ) → elem k a ≡ true → elem k b ≡ true

-- "every listening pair has been activated", with the offsets of the listening pairs at hand
abbrev pub Covers : List ℕ → List Pair → Type 0
Covers pairs stretch = AllIn pairs (map offset_of stretch)

-- A schedule with a round in it, before which the schedule is as told.
pub record LastRound (pairs : List ℕ) (Earlier : List Pair → Type 0) (s : List Pair) : Type 0 where
  pub before : List Pair
  pub stretch : List Pair
  pub after : List Pair
  pub parts : s ≡ before ++ stretch ++ after
  pub covered : Covers pairs stretch
  pub earlier : Earlier before

-- the schedule contains n rounds, the last of them taken off first
unfoldable pub Contains : List ℕ → ℕ → List Pair → Type 0
Contains pairs zero s = Unit {0}
Contains pairs (suc n) s = LastRound pairs (Contains pairs n) s
