-- `probe::probe_present` meets its contract: the mark is the reader's, and past the last mark there is none.
-- Assumes nothing.
use Rattle.std.proofs.Common.{◌∙◌}
use Rattle.probe.specs.ProbeLaws.{mark_in, mark_past}
use Rattle.probe.proofs.probe_present.Goals as goal

pub returns-then-v-ge-VERTICES : goal.returns-then-v-ge-VERTICES
returns-then-v-ge-VERTICES c = mark_past _ 64 _ c.if-v-ge-VERTICES.true

pub returns : goal.returns
returns c = c.from.ensures ∙ mark_in _ 64 _ _ _ c.present_in.ensures c.value_or.ensures
