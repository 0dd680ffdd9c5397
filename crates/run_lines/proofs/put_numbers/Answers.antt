-- `run_lines::put_numbers` meets its contract: six pieces behind each other.
-- Assumes nothing.
use Rattle.rules.specs.Text.{codes, labelled}
use Rattle.rules.specs.RunText.{run_line}
use Rattle.answer.specs.Moves.{run_numbers_in}
use Rattle.text_writing.specs.WritesLaws.{writes_then}
use Rattle.run_lines.proofs.put_numbers.Goals as goal

pub returns : goal.returns
unfolding codes labelled run_line run_numbers_in
returns c =
    let moves = writes_then (writes_then c.labelled.ensures c.labelled-2.ensures) c.labelled-3.ensures in
    let all = writes_then (writes_then moves c.labelled-4.ensures) c.labelled-5.ensures in
    writes_then all c.put.ensures
