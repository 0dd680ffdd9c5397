-- `table_facts::longest_hops` meets its contract: the greatest hops of the records below i.
-- Assumes nothing.
use mathlib.Core.Path.{◌≡◌, refl, sym}
use native.Mathlib.Omega.{arith}
use Rattle.lists.specs.SearchLaws.{max_none}
use Rattle.rules.specs.Table.{records, longest}
use Rattle.laws.specs.PassLaws.{hops_more}
use Rattle.std.proofs.Common.{rules}
use Rattle.table_facts.proofs.longest_hops.Goals as goal

pub loop-i-init : goal.loop-i-init
unfolding records
loop-i-init c = (refl, sym (max_none _))

pub loop-i-preserved : goal.loop-i-preserved
loop-i-preserved c =
    (c.loop-i.invariant.0, hops_more _ _ c.loop-i.invariant.1 c.hops_at.ensures (search rules))

pub returns : goal.returns
unfolding longest
returns c =
    let e : c.loop-i.i ≡ records c.args.table.now = omega arith in
    rw (← e) c.loop-i.invariant.1
