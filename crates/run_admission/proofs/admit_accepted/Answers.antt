-- `run_admission::admit_accepted` meets its contract: each way through it has its refusal, or what the run relies on.
-- Assumes nothing.
use Rattle.admission.specs.JudgedLaws.{surveyed}
use Rattle.run_admission.specs.RunAdmittedLaws.{odd_bad, long_bad, heard_refused, length_refused, pair_refused, all_admitted}
use Rattle.run_admission.proofs.admit_accepted.Goals as goal
use Rattle.run_admission.proofs.admit_accepted.Goals.{then-size-ne0-via-then-size-ne0, then-size-ne0-via-else-size-ne0+then-size-gt-LONGEST_SCHEDULE}

pub returns-in-Some : goal.returns-in-Some
returns-in-Some c sums m =
    let y = surveyed c.args.table.accepted c.requires c.next_hops-nexts.ensures c.bad_offset.ensures in
    rw c.at.ensures (heard_refused y _ sums m _ c.in-Some.is)

pub returns-then-size-ne0 : goal.returns-then-size-ne0
returns-then-size-ne0 c sums m =
    let y = surveyed c.args.table.accepted c.requires c.next_hops-nexts.ensures c.bad_offset.ensures in
    rw c.at-then-size-ne0.ensures
    (length_refused y _ sums m c.in_default.is
    (elim c.then-size-ne0.branch [
      | then-size-ne0-via-then-size-ne0 w ↦ odd_bad _ w.if-size-ne0.true
      | then-size-ne0-via-else-size-ne0+then-size-gt-LONGEST_SCHEDULE w ↦ long_bad _ w.if-size-gt-LONGEST_SCHEDULE.true
    ]))

pub returns-in-Ok : goal.returns-in-Ok
returns-in-Ok c sums m =
    let y = surveyed c.args.table.accepted c.requires c.next_hops-nexts.ensures c.bad_offset.ensures in
    all_admitted y _ sums m c.in_default.is c.if-size-ne0.false c.if-size-gt-LONGEST_SCHEDULE.false c.walk_schedule.ensures _ c.in-Ok.is

pub returns-in-Err : goal.returns-in-Err
returns-in-Err c sums m =
    let y = surveyed c.args.table.accepted c.requires c.next_hops-nexts.ensures c.bad_offset.ensures in
    rw c.at-in-Err.ensures
    (pair_refused y _ sums m c.in_default.is c.if-size-ne0.false c.if-size-gt-LONGEST_SCHEDULE.false c.walk_schedule.ensures _ c.in-Err.is)
