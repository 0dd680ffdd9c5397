-- `check_lines::put_verdict` meets its contract: seven pieces behind each other.
-- Assumes nothing.
use Rattle.rules.specs.Text.{codes, labelled, verdict_line}
use Rattle.answer.specs.Meaning.{numbers}
use Rattle.text_writing.specs.WritesLaws.{writes_then}
use Rattle.check_lines.proofs.put_verdict.Goals as goal

pub returns : goal.returns
unfolding codes labelled verdict_line numbers
returns c =
    let words = writes_then c.put.ensures c.put-2.ensures in
    let both = writes_then (writes_then words c.labelled.ensures) c.labelled-2.ensures in
    let all = writes_then (writes_then both c.labelled-3.ensures) c.labelled-4.ensures in
    writes_then all c.put-3.ensures
