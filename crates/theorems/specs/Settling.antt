-- Demand 3: what the check reports as settled settles, from every leftover state and under every order of updates. The
-- theorems stand in proofs/.
use Rattle.std.specs.Prelude.{ℕ, List}
use Rattle.rules.specs.Report.{report}
use Rattle.rules.specs.Rounds.{Contains}
use Rattle.theorems.specs.Claims.{Call, heard_after, pairs_of, Given, Stays}

-- What is claimed of calls that together contain so many rounds, for stage k and L hops (`(report t).hops` is L), where
-- a round activates each of the pairs of `pairs t` at least once. Both are left open so that other rounds, and fewer of
-- them, can be refuted (SettlingExamples).
abbrev pub Settling : (List ℕ → List ℕ) → (ℕ → ℕ → ℕ) → Type 0
Settling pairs enough =
    (t heard : List ℕ) (v k : ℕ) (calls : List Call)
    → Given t heard v k calls
    → Contains (pairs t) (enough k (report t).hops) (pairs_of calls)
    → Stays t (heard_after t heard calls) v
