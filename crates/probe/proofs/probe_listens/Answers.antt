-- `probe::probe_listens` meets its contract: who listens is asked of the slots, and past the last pair nobody does.
-- Assumes nothing.
use mathlib.Core.Path.{◌∙◌}
use Rattle.probe.specs.ProbeLaws.{listens_told, mark_past}
use Rattle.probe.proofs.probe_listens.Goals as goal

pub returns-then-pair-ge-PAIRS : goal.returns-then-pair-ge-PAIRS
returns-then-pair-ge-PAIRS c = mark_past _ 4096 _ c.if-pair-ge-PAIRS.true

pub returns : goal.returns
returns c =
    c.from.ensures ∙ listens_told _ _ _ c.next_hops-nexts.ensures _ c.is_listening.ensures c.if-pair-ge-PAIRS.false
