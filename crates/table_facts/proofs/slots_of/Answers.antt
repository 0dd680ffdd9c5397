-- `table_facts::slots_of` meets its contract: each record of a vertex takes its next slot.
-- Assumes nothing.
use mathlib.Core.Path.{◌≡◌, refl}
use Prim.Native.Nat.{min}
use native.Mathlib.Omega.{arith}
use Rattle.rules.specs.Table.{records}
use Rattle.laws.specs.PassLaws.{slots_skip, slots_full, slots_store, slots_none}
use Rattle.table_facts.proofs.slots_of.Goals as goal

pub loop-i-init : goal.loop-i-init
unfolding records
loop-i-init c = (c.min-count.ensures, slots_none _)

pub loop-i-preserved-then-v-ge-VERTICES : goal.loop-i-preserved-then-v-ge-VERTICES
loop-i-preserved-then-v-ge-VERTICES c =
    (c.loop-i.invariant.0, slots_skip c.loop-i.invariant.1 (omega arith))

pub loop-i-preserved-then-k-ge-SLOTS : goal.loop-i-preserved-then-k-ge-SLOTS
loop-i-preserved-then-k-ge-SLOTS c =
    let at-loop = c.loop-i in (
      at-loop.invariant.0,
      slots_full at-loop.invariant.1 c.owner_at-v.ensures c.if-v-ge-VERTICES.false c.if-k-ge-SLOTS.true,
    )

pub loop-i-preserved : goal.loop-i-preserved
loop-i-preserved c =
    let at-loop = c.loop-i in (
      at-loop.invariant.0,
      slots_store at-loop.invariant.1 c.owner_at-v.ensures c.if-v-ge-VERTICES.false refl c.if-k-ge-SLOTS.false,
    )

pub returns : goal.returns
returns c =
    let e : c.loop-i.i ≡ min (records c.args.table.now) 1008 = omega arith in
    rw (← e) c.loop-i.invariant.1.filled
