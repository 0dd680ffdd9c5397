-- `run_entry::run_for_c` meets its contract: a wrong buffer, the sums and numbers of the run, or the library's refusal.
-- Assumes nothing.
use native.Mathlib.Omega.{arith}
use Rattle.run_entry.specs.RunCallLaws.{run_not_summed, run_not_lent, run_accepted, run_refused, run_small}
use Rattle.run_entry.proofs.run_for_c.Goals as goal
use Rattle.run_entry.proofs.run_for_c.Goals.{then-sums-ne-SUMS_LENGTH-via-then-sums-ne-SUMS_LENGTH, then-sums-ne-SUMS_LENGTH-via-else-sums-ne-SUMS_LENGTH+then-numbers-ne-NUMBERS_LENGTH}

pub returns-then-sums-ne-SUMS_LENGTH : goal.returns-then-sums-ne-SUMS_LENGTH
returns-then-sums-ne-SUMS_LENGTH c =
    elim c.then-sums-ne-SUMS_LENGTH.branch [
      | then-sums-ne-SUMS_LENGTH-via-then-sums-ne-SUMS_LENGTH w ↦ run_not_summed _ _ _ c.args.sums.now _ w.if-sums-ne-SUMS_LENGTH.true
      | then-sums-ne-SUMS_LENGTH-via-else-sums-ne-SUMS_LENGTH+then-numbers-ne-NUMBERS_LENGTH w ↦
          run_not_lent _ _ _ _ c.args.numbers.now w.if-numbers-ne-NUMBERS_LENGTH.true
    ]

pub returns-in-Ok : goal.returns-in-Ok
returns-in-Ok c =
    run_accepted _ _ _ c.args.sums.now c.args.numbers.now c.if-sums-ne-SUMS_LENGTH.false c.if-numbers-ne-NUMBERS_LENGTH.false _ _ _ c.run.ensures
    _ c.in-Ok.is _ _ c.write_sums.ensures c.write_run.ensures

pub overflow_cast-refusal : goal.overflow_cast-refusal
overflow_cast-refusal c =
    let small = run_small _ _ _ c.args.sums.now c.args.numbers.now c.if-sums-ne-SUMS_LENGTH.false c.if-numbers-ne-NUMBERS_LENGTH.false _ _ _ c.run.ensures _
    c.in-Err.is in
    omega (arith, small)

pub returns-in-Err : goal.returns-in-Err
returns-in-Err c =
    run_refused _ _ _ c.args.sums.now c.args.numbers.now c.if-sums-ne-SUMS_LENGTH.false c.if-numbers-ne-NUMBERS_LENGTH.false _ _ _ c.run.ensures _
    c.in-Err.is _ c.code_of.ensures
