-- `reader::read` meets its contract: the first record with a fault is the answer, and the lengths are tested before.
-- Assumes nothing.
use mathlib.Core.Path.{sym}
use native.Mathlib.Omega.{arith}
use Rattle.rules.specs.Table.{records}
use Rattle.laws.specs.TableLaws.{orderly_none, orderly_more, no_fault, bad_here, good_here, none_bad, all_to_find, refused_long, refused_ragged, refused_record, not_refused}
use Rattle.answer.specs.RefusedLaws.{number_told}
use Rattle.reader.proofs.read.Goals as goal

pub returns-then-length-gt-MOST_BYTES-clause-refusal :
    goal.returns-then-length-gt-MOST_BYTES-clause-refusal
returns-then-length-gt-MOST_BYTES-clause-refusal c =
    rw c.at.ensures (sym (refused_long _ c.if-length-gt-MOST_BYTES.true))

pub returns-then-length-ne0-clause-refusal : goal.returns-then-length-ne0-clause-refusal
returns-then-length-ne0-clause-refusal c =
    rw c.at-then-length-ne0.ensures (sym (refused_ragged _ c.if-length-gt-MOST_BYTES.false c.if-length-ne0.true))

pub loop-i-init : goal.loop-i-init
loop-i-init c = record { orderly = orderly_none _; still = all_to_find _ }

pub invariant_of-entry : goal.invariant_of-entry
unfolding records
invariant_of-entry c = record { there = omega arith }

pub fault-requires : goal.fault-requires
fault-requires c = c.loop-i.invariant.orderly

pub returns-in-Err-clause-refusal : goal.returns-in-Err-clause-refusal
unfolding records
returns-in-Err-clause-refusal c =
    let f = c.in-Err.ensures in
    let bad = bad_here _ c.loop-i.i c.loop-i.invariant.still _ f (number_told c.in-Err.rule) (omega arith) in
    rw (c.at-in-Err.ensures, f)
    (sym (refused_record _ c.if-length-gt-MOST_BYTES.false c.if-length-ne0.false c.loop-i.i bad))

pub loop-i-preserved : goal.loop-i-preserved
unfolding records
loop-i-preserved c =
    let f = sym c.in_default.ensures in
    let k = no_fault _ _ f in
    record {
      orderly = orderly_more _ _ c.loop-i.invariant.orderly k.owner k.rank;
      still = good_here _ c.loop-i.i c.loop-i.invariant.still f (omega arith);
    }

pub invariant_of-result : goal.invariant_of-result
unfolding records
invariant_of-result c =
    record {
      accepted = not_refused _ c.if-length-gt-MOST_BYTES.false c.if-length-ne0.false
          (none_bad _ c.loop-i.i c.loop-i.invariant.still (omega arith));
    }
