-- Demand 3, by the rounds that the runs answer.
use Rattle.std.specs.Prelude.{ℕ, ◌*◌, ◌≤◌, List}
use Rattle.rules.specs.Report.{report}
use Rattle.laws.specs.RoundLaws.{contains_fewer}
use Rattle.theorems.specs.Claims.{Call, heard_after, pairs_of, rounds_answered, listening_pairs, Given, Stays}
use Rattle.theorems.proofs.Settling.{settling, answered_contained}

-- Where the rounds that the runs answer reach k times L, what the check reports as settled settles.
pub settling_answered : (t heard : List ℕ) (v k : ℕ) (calls : List Call)
    → Given t heard v k calls
    → k * (report t).hops ≤ rounds_answered t heard calls
    → Stays t (heard_after t heard calls) v
settling_answered t heard v k calls g enough =
    settling t heard v k calls g
    (contains_fewer (listening_pairs t) (k * (report t).hops) (rounds_answered t heard calls) (pairs_of calls) enough
    (answered_contained t heard calls g.each))
