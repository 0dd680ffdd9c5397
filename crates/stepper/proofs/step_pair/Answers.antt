-- `stepper::step_pair` meets its contract: each way through it has its refusal, or the step.
-- Assumes nothing.
use Rattle.std.proofs.Common.{sym}
use Rattle.std.proofs.lemmas.Result.{err_from_is_err_and}
use Rattle.laws.specs.AnswerLaws.{step_refused_length, step_refused_table}
use Rattle.stepper.specs.StepLaws.{stepped_refused}
use Rattle.stepper.proofs.step_pair.Goals as goal

pub returns-then-heard-ne-HEARD_LENGTH : goal.returns-then-heard-ne-HEARD_LENGTH
returns-then-heard-ne-HEARD_LENGTH c =
    rw c.at.ensures (stepped_refused _ _ _ (record { number = 1; place = 0 }) (step_refused_length _ c.args.heard.now _ c.if-heard-ne-HEARD_LENGTH.true))

pub returns-in_err-accepted : goal.returns-in_err-accepted
returns-in_err-accepted c =
    let p = err_from_is_err_and c.from_residual.result c.from_residual.ensures.1 in
    rw (p.1, p.2)
    (stepped_refused _ _ _ _ (step_refused_table _ _ _ c.if-heard-ne-HEARD_LENGTH.false _ (sym c.in_err-accepted.ensures.refusal)))
