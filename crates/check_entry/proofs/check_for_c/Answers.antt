-- `check_entry::check_for_c` meets its contract: a wrong buffer, each verdict, and the numbers that go with it.
-- Assumes nothing.
use native.Mathlib.Omega.{arith}
use mathlib.Core.Path.{refl}
use Rattle.check_entry.specs.CheckCallLaws.{check_not_lent, check_complete, check_stuck, check_refused, check_small}
use Rattle.check_entry.proofs.check_for_c.Goals as goal

pub returns-then-numbers-ne-NUMBERS_LENGTH : goal.returns-then-numbers-ne-NUMBERS_LENGTH
returns-then-numbers-ne-NUMBERS_LENGTH c = check_not_lent _ _ _ c.args.numbers.now c.if-numbers-ne-NUMBERS_LENGTH.true

pub returns-in-Complete : goal.returns-in-Complete
returns-in-Complete c =
    check_complete _ _ _ c.args.numbers.now c.if-numbers-ne-NUMBERS_LENGTH.false _ _ _ c.check-answer.ensures 0 _ c.write_check.ensures refl
    c.in-Complete.is

pub returns-in-Stuck : goal.returns-in-Stuck
returns-in-Stuck c =
    check_stuck _ _ _ c.args.numbers.now c.if-numbers-ne-NUMBERS_LENGTH.false _ _ _ c.check-answer.ensures _ _ c.write_check-in-Stuck.ensures
    c.in-Stuck.is

pub overflow_cast-place : goal.overflow_cast-place
overflow_cast-place c =
    let small = check_small _ _ _ c.args.numbers.now c.if-numbers-ne-NUMBERS_LENGTH.false _ _ _ c.check-answer.ensures _ _ c.in-Refused.is in
    omega (arith, small)

pub returns-in-Refused : goal.returns-in-Refused
returns-in-Refused c =
    check_refused _ _ _ c.args.numbers.now c.if-numbers-ne-NUMBERS_LENGTH.false _ _ _ c.check-answer.ensures _ _ c.in-Refused.is _
    c.code_of.ensures
