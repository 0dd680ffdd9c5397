-- `choice::Slots::choose` meets its contract: no slot before k is empty, and nothing that one asks for was heard.
-- Assumes nothing.
use native.Mathlib.Omega.{arith}
use Rattle.choice.specs.ChoosingLaws.{searched_none, choose_empty, choose_end, choose_hit, choose_next}
use Rattle.choice.proofs.Slots.choose.Goals as goal

pub loop-k-init : goal.loop-k-init
loop-k-init c = (omega arith, searched_none _ _ _ _)

pub loop-k-preserved : goal.loop-k-preserved
loop-k-preserved c =
    let i = c.loop-k.invariant in
    (omega arith, choose_next _ _ _ _ _ i.1 (omega arith) c.if-u.false _ c.is_heard.ensures c.if-is_heard.false)

pub returns-then-k-eq-SLOTS : goal.returns-then-k-eq-SLOTS
returns-then-k-eq-SLOTS c = choose_end _ _ _ _ _ c.loop-k.invariant.1 c.if-k-eq-SLOTS.true

pub returns-then-u : goal.returns-then-u
returns-then-u c = choose_empty _ _ _ _ _ c.loop-k.invariant.1 (omega arith) c.if-u.true

pub returns-then-is_heard : goal.returns-then-is_heard
returns-then-is_heard c =
    let i = c.loop-k.invariant in
    choose_hit _ _ _ _ _ i.1 (omega arith) c.if-u.false _ c.is_heard.ensures c.if-is_heard.true
