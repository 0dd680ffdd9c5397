use Rattle.run_admission.specs.PairWalk.{PairsLeft}
use Rattle.run_admission.specs.ScheduleWalk.{Walking}
use Rattle.run_admission.proofs.schedule.walk_schedule.Given as goal

abbrev pub invariant-loop-i : goal.invariant-loop-i
invariant-loop-i l =
    let pairs = l.i-iterator.iter in
    let i = l.i-iterator.count in
    record {
      pairs : PairsLeft l.schedule pairs.rest.now pairs.size i;
      walking : Walking l.nexts l.schedule l.rounds.all i l.stamps l.rounds.closed l.rounds.missing;
    }
