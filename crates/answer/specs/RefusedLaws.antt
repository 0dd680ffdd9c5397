-- Laws of refusals: one is told by its number and place, and no number is 0.
use Rattle.std.specs.Prelude.{◌≡◌, ◌≢◌}
use Rattle.std.proofs.Common.{arith}
use Rattle.std.proofs.Math.Option.{some}
use Rattle.answer.specs.declared.Rule.{Rule}
use Rattle.answer.specs.declared.Rule.TheVariants.{OtherLength, LongTable, RaggedTable, Hops, Vertex, Filler, Twice, Last, Owner, Rank, SamePath, HeardState, Schedule, NoListener}
use Rattle.answer.specs.declared.Refusal.{Refusal}
use Rattle.answer.specs.Refused.{number_of, told}

-- different refusals say different things
pub told_tells : (r s : Refusal) → some (told r) ≡ some (told s) → r ≡ s
told_tells r s e =
    let t : told r ≡ told s = cc in
    λ i. record { number = (t i).number; place = (t i).place }

-- 0 is the number of no rule
pub number_told : (rule : Rule) → number_of rule ≢ 0
number_told OtherLength = omega arith
number_told LongTable = omega arith
number_told RaggedTable = omega arith
number_told Hops = omega arith
number_told Vertex = omega arith
number_told Filler = omega arith
number_told Twice = omega arith
number_told Last = omega arith
number_told Owner = omega arith
number_told Rank = omega arith
number_told SamePath = omega arith
number_told HeardState = omega arith
number_told Schedule = omega arith
number_told NoListener = omega arith
