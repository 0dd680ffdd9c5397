-- `runner::work::work` meets its contract: after i pairs all stands as in the rules' run over the first i pairs.
-- Assumes nothing.
use Rattle.std.proofs.Common.{ap, ◌∙◌, arith, replicate, pos}
use Rattle.run_admission.specs.PairWalkLaws.{pairs_all, pair_within, listener_is, speaker_is, pairs_next, pairs_done}
use Rattle.stepper.specs.StepLaws.{asks_told}
use Rattle.runner.specs.GoingLaws.{going_start, going_takes, going_more, going_end}
use Rattle.runner.proofs.work.work.Goals as goal

pub loop-i-init : goal.loop-i-init
loop-i-init c =
    let p = c.requires.0 in
    let a = asks_told _ p.accepted _ c.asked_bytes-asked.ensures in
    let n = c.default-counts.ensures in
    let z = c.fill.ensures.after (λ y e. e) ∙ ap (λ m. replicate m (pos 0)) c.requires.1 in
    rw (c.into_iter-i-iterator.ensures.into_iter_gives, c.enumerate-i-items.ensures.source, c.enumerate-i-items.ensures.count)
    (record {
      pairs = pairs_all c.chunks_exact.ensures.rest c.chunks_exact.ensures.size;
      ready = p;
      asks = a;
      going = rw (n.0, n.1.0, n.1.1) (going_start p a _ _ c.choice_bytes-choices.ensures z);
    })

pub hear_pair-counts-requires : goal.hear_pair-counts-requires
hear_pair-counts-requires c =
    let i = c.loop-i.invariant in
    let s = c.in-Some.ensures.steps in
    let e = s.0.1.0 in
    let two = s.0.1.1 in
    rw (listener_is i.pairs _ _ e two, speaker_is i.pairs _ _ e two) (going_takes i.ready i.asks i.going (pair_within i.pairs _ _ e two))

pub loop-i-preserved : goal.loop-i-preserved
loop-i-preserved c =
    let i = c.loop-i.invariant in
    let s = c.in-Some.ensures.steps in
    let e = s.0.1.0 in
    let two = s.0.1.1 in
    let taken = rw (s.1, listener_is i.pairs _ _ e two, speaker_is i.pairs _ _ e two) at c.hear_pair-counts.ensures in
    rw s.2
    (record {
      pairs = pairs_next i.pairs _ _ e two s.0.0;
      ready = i.ready;
      asks = i.asks;
      going = going_more i.ready i.asks i.going (pair_within i.pairs _ _ e two) taken;
    })

pub returns : goal.returns
returns c =
    let i = c.loop-i.invariant in
    let done = pairs_done i.pairs c.in-None.ensures.steps.0.1.0 in
    rw c.from.ensures (going_end i.ready i.asks i.going (omega (arith, done)))
