-- `row_lines::put_rows` meets its contract: the lines of the vertices below v are laid.
-- Assumes nothing.
use Rattle.std.proofs.Common.{◌≡◌, ℕ, suc, zero, ◌+◌, ◌-◌, ◌≤◌, ◌++◌, List, ap, arith}
use Rattle.rules.specs.Table.{record_at}
use Rattle.rules.specs.Text.{row_line, row_lines}
use Rattle.laws.specs.TextLaws.{rows_none, rows_more}
use Rattle.text_writing.specs.WritesLaws.{writes_then, writes_nothing, writes_as}
use Rattle.row_lines.proofs.put_rows.Goals as goal

pub loop-v-init : goal.loop-v-init
loop-v-init c = writes_as (writes_nothing _) (rows_none _)

next_row : (rows row : List ℕ) (v : ℕ)
    → 1 ≤ v
    → row ≡ record_at rows v
    → row_lines rows (v - 1) ++ row_line v row ≡ row_lines rows (v + 1 - 1)
next_row rows row zero h e = absurd (omega arith)
next_row rows row (suc k) h e =
    let z : suc k - 1 ≡ k = omega arith in
    let y : suc k + 1 - 1 ≡ k + 1 = omega arith in
    let x : suc k ≡ k + 1 = omega arith in
    rw (z, y, x) (rows_more rows row k (rw x at e))

pub loop-v-preserved : goal.loop-v-preserved
loop-v-preserved c =
    writes_as (writes_then c.loop-v.invariant c.put_row.ensures)
    (next_row _ _ _ c.loop-v.auto.v c.record_at.ensures)

pub returns : goal.returns
returns c =
    let e : c.loop-v.v - 1 ≡ 63 = omega arith in
    writes_as c.loop-v.invariant (ap (row_lines _) e)
