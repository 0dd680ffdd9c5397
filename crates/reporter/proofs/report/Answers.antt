-- `reporter::report` meets its contract: a buffer of another length is refused, and what is written is what marks and records show.
-- Assumes nothing.
use Rattle.std.proofs.Common.{sym, ◌∙◌, arith, length}
use Rattle.ring.specs.Ring.{Ringed}
use Rattle.reporter.specs.Showing.{next_numbers, stuck_marks}
use Rattle.reporter.specs.Reported.{reported_refused, reported_shown, ring_none}
use Rattle.reporter.proofs.report.Goals as goal
use Rattle.reporter.proofs.report.Goals.{then-stuck-eq0, else-stuck-eq0}

pub returns-in-Err : goal.returns-in-Err
returns-in-Err c = reported_refused _ _ (sym c.in-Err.ensures) c.refused.ensures

pub returns : goal.returns
returns c =
    let marks = c.args.marks in
    let ringed : Ringed (stuck_marks marks) (next_numbers c.args.table.now (stuck_marks marks) c.args.shown) (length c.args.ring.now) c.if-stuck-eq0.count c.if-stuck-eq0.ring
    = elim c.if-stuck-eq0.branch [
      | then-stuck-eq0 w ↦ rw (w.ring-is, w.count-is) (ring_none _ _ (sym c.count_between-stuck.ensures ∙ w.if-stuck-eq0.true) w.clear.ensures)
      | else-stuck-eq0 w ↦ rw (w.ring-is, w.count-is) w.write_ring-count.ensures
    ] in
    reported_shown _ _ _ _ c.args.rows.now c.args.ring.now (sym c.in_default.ensures) (omega arith) (omega arith)
    c.write_rows.ensures ringed c.verdict_of.ensures c.count_between.ensures c.count_between-stuck.ensures
    c.longest_hops.ensures
