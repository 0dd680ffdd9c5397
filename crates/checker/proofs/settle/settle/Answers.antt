-- `checker::settle::settle` meets its contract: the marks and records are those after so many stages.
-- Assumes nothing.
use mathlib.Core.Path.{refl, sym, ap, ◌∙◌}
use native.Mathlib.Omega.{arith}
use Rattle.std.specs.Cmp.Lexicographic.{same_text, other_text}
use Rattle.lists.specs.Search.{same}
use Rattle.lists.specs.ListLaws.{same_refl, differ}
use Rattle.laws.specs.GreedyLaws.{stages_most}
use Rattle.checker.specs.LastStageLaws.{settle_start, settle_more, settle_end}
use Rattle.checker.proofs.settle.settle.Goals as goal

pub loop-slots-init : goal.loop-slots-init
loop-slots-init c =
    record {
      counted = omega arith;
      few = stages_most _ _;
      stands = settle_start c.args.table.accepted c.present_in.ensures c.start_marks.ensures;
    }

pub returns-then-eq : goal.returns-then-eq
returns-then-eq c =
    let i = c.loop-slots.invariant in
    let alike = ap (same c.loop-slots.now.marks) (same_text _ _ c.if-eq.ensures) in
    settle_end c.args.table.accepted i.stands c.slots_of-slots.ensures i.counted c.stage-next.ensures refl
    (sym alike ∙ same_refl c.loop-slots.now.marks)

pub loop-slots-preserved : goal.loop-slots-preserved
loop-slots-preserved c =
    let i = c.loop-slots.invariant in
    let more =
    settle_more c.args.table.accepted i.stands c.slots_of-slots.ensures i.counted c.stage-next.ensures refl
    (differ _ _ (other_text _ _ c.if-eq.ensures))
    in
    record { counted = more.0; few = i.few; stands = more.1 }
