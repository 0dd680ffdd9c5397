-- The first rule that a record breaks, as its number.
use Rattle.std.specs.Prelude.{ℕ, Result, Ok, Err}
use Rattle.answer.specs.declared.Rule.{Rule}
use Rattle.answer.specs.Refused.{number_of}

-- the number of the rule that is broken, 0 where none is
abbrev pub fault_in : {A : Type 0} → Result A Rule → ℕ
fault_in (Ok a) = 0
fault_in (Err rule) = number_of rule
