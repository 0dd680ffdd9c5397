-- `run_lines::put_vertices` meets its contract: the lines of the present vertices below v are laid.
-- Assumes nothing.
use Prim.Native.Nat.{◌-◌}
use mathlib.Core.Path.{◌≡◌, refl, ap, ◌∙◌}
use native.Mathlib.Omega.{arith}
use mir.Syntax.{w32}
use mir.Facts.{to_z-of_z}
use Rattle.laws.specs.RunTextLaws.{vertices_none}
use Rattle.text_writing.specs.WritesLaws.{writes_then, writes_nothing, writes_as}
use Rattle.run_lines.specs.Shown.{shown_lines}
use Rattle.run_lines.specs.ShownLaws.{shown_absent, shown_present}
use Rattle.run_lines.proofs.put_vertices.Goals as goal

pub loop-v-init : goal.loop-v-init
loop-v-init c = writes_as (writes_nothing _) (vertices_none _ _)

pub loop-v-preserved-then-not-named-v : goal.loop-v-preserved-then-not-named-v
loop-v-preserved-then-not-named-v c =
    writes_as c.loop-v.invariant
    (shown_absent _ _ _ _ _ _ c.present_in-named.ensures (omega arith) (omega arith) (omega arith) _ c.if-not-named-v.true)

pub loop-v-preserved : goal.loop-v-preserved
loop-v-preserved c =
    writes_as (writes_then c.loop-v.invariant c.put_vertex.ensures)
    (shown_present _ _ _ _ _ _ c.present_in-named.ensures (omega arith) (omega arith) (omega arith) _
    c.if-not-named-v.false c.slots_of-slots.ensures refl c.value_or-rank.ensures
    c.ranked_record.ensures
    (to_z-of_z {w = w32} (record { sfits = c.value_or-sum.type_inv }) ∙ c.value_or-sum.ensures)
    c.path_at-path.ensures)

pub returns : goal.returns
returns c =
    let e : c.loop-v.v - 1 ≡ 63 = omega arith in
    writes_as c.loop-v.invariant (ap (shown_lines _ _ _) e)
