-- `published_lines::title_text` meets its contract: three pieces behind each other.
-- Assumes nothing.
use Rattle.std.proofs.Common.{rules}
use Rattle.rules.specs.Text.{codes}
use Rattle.text_writing.specs.WritesLaws.{writes_then}
use Rattle.published_lines.proofs.title_text.Goals as goal

pub returns : goal.returns
unfolding codes
returns c =
    let all = writes_then (writes_then c.put.ensures c.spaced.ensures) c.put-2.ensures in
    search rules
