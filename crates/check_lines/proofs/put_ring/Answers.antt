-- `check_lines::put_ring` meets its contract: three pieces behind each other.
-- Assumes nothing.
use Rattle.std.proofs.Common.{◌≡◌, ap, arith, take}
use Rattle.std.proofs.lemmas.Grind.{common_steps}
use Rattle.rules.specs.Text.{codes, spaced, ring_line}
use Rattle.text_writing.specs.WritesLaws.{writes_then, writes_as}
use Rattle.check_lines.proofs.put_ring.Goals as goal

pub returns : goal.returns
unfolding codes ring_line
returns c =
    let part : c.unwrap_or.result.now ≡ take c.args.size c.args.ring.now = grind (arith, common_steps) in
    writes_then (writes_then c.put.ensures (writes_as c.spaced.ensures (ap spaced part))) c.put-2.ensures
