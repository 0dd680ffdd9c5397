-- `run_admission::schedule::walk_schedule` meets its contract: before i all listen, and the stamps are the run's.
-- Assumes nothing.
use Rattle.run_admission.specs.PairWalkLaws.{pairs_all, pair_within, listener_is, speaker_is, pairs_next, pairs_done}
use Rattle.run_admission.specs.ScheduleWalkLaws.{walk_start, walk_bad, walk_next, walk_end}
use Rattle.run_admission.proofs.schedule.walk_schedule.Goals as goal

pub loop-i-init : goal.loop-i-init
loop-i-init c =
    rw (c.into_iter-i-iterator.ensures.into_iter_gives, c.enumerate-i-items.ensures.source, c.enumerate-i-items.ensures.count)
    (record {
      pairs = pairs_all c.chunks_exact.ensures.rest c.chunks_exact.ensures.size;
      walking = walk_start _ _ _ c.count_pairs-all.ensures;
    })

pub returns-in_default : goal.returns-in_default
returns-in_default c =
    let i = c.loop-i.invariant in
    let s = c.in-Some.ensures.steps in
    let e = s.0.1.0 in
    let two = s.0.1.1 in
    let number = rw (listener_is i.pairs _ _ e two, speaker_is i.pairs _ _ e two) at c.number_of.ensures in
    rw s.1 (walk_bad i.walking (pair_within i.pairs _ _ e two) number c.in_default.is)

pub loop-i-preserved : goal.loop-i-preserved
loop-i-preserved c =
    let i = c.loop-i.invariant in
    let s = c.in-Some.ensures.steps in
    let e = s.0.1.0 in
    let two = s.0.1.1 in
    let number = rw (listener_is i.pairs _ _ e two, speaker_is i.pairs _ _ e two) at c.number_of.ensures in
    rw (s.2, c.activate.ensures.all)
    (record {
      pairs = pairs_next i.pairs _ _ e two s.0.0;
      walking = walk_next i.walking (pair_within i.pairs _ _ e two) number c.in-Some-number_of.is c.activate.ensures.counted;
    })

pub returns : goal.returns
returns c = let i = c.loop-i.invariant in walk_end i.walking (pairs_done i.pairs c.in-None.ensures.steps.0.1.0)
