-- What a refusal says in the numbers and values of the rules page.
use Rattle.std.specs.Prelude.{ℕ, Result, Ok, Err}
use Rattle.std.proofs.Math.Option.{Option, none, some}
use Rattle.rules.specs.Refusals as rules
use Rattle.answer.specs.declared.Rule.{Rule}
use Rattle.answer.specs.declared.Rule.TheVariants.{OtherLength, LongTable, RaggedTable, Hops, Vertex, Filler, Twice, Last, Owner, Rank, SamePath, HeardState, Schedule, NoListener}
use Rattle.answer.specs.declared.Refusal.{Refusal}

-- "Refusal numbers, in order of checking"
abbrev pub number_of : Rule → ℕ
number_of OtherLength = 1
number_of LongTable = 2
number_of RaggedTable = 3
number_of Hops = 4
number_of Vertex = 5
number_of Filler = 6
number_of Twice = 7
number_of Last = 8
number_of Owner = 9
number_of Rank = 10
number_of SamePath = 11
number_of HeardState = 12
number_of Schedule = 13
number_of NoListener = 14

-- "A refusal is a number and a place."
abbrev pub told : Refusal → rules.Refusal
told r = record { number = r.number; place = r.place }

-- whether an answer is a refusal, and with which number and place
abbrev pub refused_in : {A : Type 0} → Result A Refusal → Option rules.Refusal
refused_in (Ok a) = none
refused_in (Err r) = some (told r)
