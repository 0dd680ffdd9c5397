-- `run_admission::admit_run` meets its contract: each way through it has its refusal, or is that of an accepted table.
-- Assumes nothing.
use Rattle.std.proofs.Common.{sym}
use Rattle.std.proofs.lemmas.Result.{err_from_is_err_and}
use Rattle.laws.specs.AnswerLaws.{run_refused_length, run_refused_sums, run_refused_table}
use Rattle.run_admission.specs.RunAdmittedLaws.{admitted_not}
use Rattle.run_admission.proofs.admit_run.Goals as goal
use Rattle.run_admission.proofs.admit_run.Goals.{then-heard-ne-HEARD_LENGTH-via-then-heard-ne-HEARD_LENGTH, then-heard-ne-HEARD_LENGTH-via-else-heard-ne-HEARD_LENGTH+then-sums-ne-SUMS_LENGTH}

pub returns-then-heard-ne-HEARD_LENGTH : goal.returns-then-heard-ne-HEARD_LENGTH
returns-then-heard-ne-HEARD_LENGTH c =
    rw c.at.ensures
    (admitted_not (record { number = 1; place = 0 })
    (elim c.then-heard-ne-HEARD_LENGTH.branch [
      | then-heard-ne-HEARD_LENGTH-via-then-heard-ne-HEARD_LENGTH w ↦
          run_refused_length _ c.args.heard.now _ _ w.if-heard-ne-HEARD_LENGTH.true
      | then-heard-ne-HEARD_LENGTH-via-else-heard-ne-HEARD_LENGTH+then-sums-ne-SUMS_LENGTH w ↦
          run_refused_sums _ _ _ c.args.sums.now w.if-sums-ne-SUMS_LENGTH.true
    ]))

pub returns-in_err-accepted : goal.returns-in_err-accepted
returns-in_err-accepted c =
    let p = err_from_is_err_and c.from_residual.result c.from_residual.ensures.1 in
    rw (p.1, p.2)
    (admitted_not _
    (run_refused_table _ _ _ _ c.if-heard-ne-HEARD_LENGTH.false c.if-sums-ne-SUMS_LENGTH.false _ (sym c.in_err-accepted.ensures.refusal)))

pub returns : goal.returns
returns c = rw c.in_ok-accepted.ensures.bytes at (c.admit_accepted.ensures c.args.sums.now c.if-sums-ne-SUMS_LENGTH.false)
