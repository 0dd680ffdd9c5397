-- `step_entry::step_for_c` meets its contract: a wrong buffer, the movement, or the library's refusal.
-- Assumes nothing.
use native.Mathlib.Omega.{arith}
use Rattle.step_entry.specs.StepCallLaws.{step_not_lent, step_accepted, step_refused, step_small}
use Rattle.step_entry.proofs.step_for_c.Goals as goal

pub returns-then-numbers-ne-NUMBERS_LENGTH : goal.returns-then-numbers-ne-NUMBERS_LENGTH
returns-then-numbers-ne-NUMBERS_LENGTH c = step_not_lent _ _ _ c.args.numbers.now c.if-numbers-ne-NUMBERS_LENGTH.true

pub returns-in-Ok : goal.returns-in-Ok
returns-in-Ok c =
    step_accepted _ _ _ c.args.numbers.now c.if-numbers-ne-NUMBERS_LENGTH.false _ _ c.step.ensures _ c.in-Ok.is _ _
    c.complement.ensures c.write_numbers.ensures

pub overflow_cast-refusal : goal.overflow_cast-refusal
overflow_cast-refusal c =
    let small = step_small _ _ _ c.args.numbers.now c.if-numbers-ne-NUMBERS_LENGTH.false _ _ c.step.ensures _ c.in-Err.is in
    omega (arith, small)

pub returns-in-Err : goal.returns-in-Err
returns-in-Err c =
    step_refused _ _ _ c.args.numbers.now c.if-numbers-ne-NUMBERS_LENGTH.false _ _ c.step.ensures _ c.in-Err.is _
    c.code_of.ensures
