-- `choice::Slots::choice_byte` meets its contract: the destination chooses (0), every other vertex what is found.
-- Assumes nothing.
use Rattle.std.proofs.Common.{◌∙◌, add-one, arith}
use Rattle.choice.specs.ChoosingLaws.{chosen_small, byte_destination, byte_chosen}
use Rattle.choice.proofs.Slots.choice_byte.Goals as goal

pub returns-then-v-eq0 : goal.returns-then-v-eq0
returns-then-v-eq0 c = byte_destination _ _ _ _ c.if-v-eq0.true

pub overflow_add-result : goal.overflow_add-result
overflow_add-result c = omega (arith, chosen_small _ _ _ _ _ c.in-Some.ensures)

pub returns-in-Some : goal.returns-in-Some
returns-in-Some c = add-one _ ∙ c.in-Some.ensures ∙ byte_chosen _ _ _ _ c.if-v-eq0.false

pub returns-in-None : goal.returns-in-None
returns-in-None c = c.in-None.ensures ∙ byte_chosen _ _ _ _ c.if-v-eq0.false
