use Rattle.rules.specs.Table.{paths_of}
use Rattle.run_admission.specs.PairWalk.{PairsLeft}
use Rattle.run_admission.specs.RunAdmitted.{Ready}
use Rattle.stepper.specs.Working.{Asks}
use Rattle.runner.specs.Going.{Going}
use Rattle.runner.proofs.work.work.Given as goal

abbrev pub invariant-loop-i : goal.invariant-loop-i
invariant-loop-i l =
    let pairs = l.i-iterator.iter in
    let i = l.i-iterator.count in
    record {
      pairs : PairsLeft l.schedule pairs.rest.now pairs.size i;
      ready : Ready l.table l.fn.heard l.schedule l.admitted.nexts l.admitted.rounds;
      asks : Asks (paths_of l.table) l.asked;
      going : Going l.table l.fn.heard l.schedule i l.heard l.choices l.sums l.counts.ups l.counts.downs l.counts.last;
    }
