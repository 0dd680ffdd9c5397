-- `runner::run_schedule` meets its contract: it is refused as it is judged, or worked.
-- Assumes nothing.
use Rattle.std.proofs.Common.{sym}
use Rattle.std.proofs.lemmas.Result.{err_from_is_err_and}
use Rattle.runner.specs.RanLaws.{ran_accepted, ran_refused}
use Rattle.runner.proofs.run_schedule.Goals as goal

pub returns-in_err-admitted : goal.returns-in_err-admitted
returns-in_err-admitted c =
    let p = err_from_is_err_and c.from_residual.result c.from_residual.ensures.1 in
    rw (p.1, p.2) (ran_refused _ _ _ _ _ (sym c.in_err-admitted.ensures.judged))

pub work-requires : goal.work-requires
work-requires c =
    let a = c.in_ok-admitted.ensures in
    (a.ready, a.long_sums (sym a.judged))

pub returns : goal.returns
returns c =
    ran_accepted _ _ _ _ _ _ _ (sym c.in_ok-admitted.ensures.judged) c.work.ensures
