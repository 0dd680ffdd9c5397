-- Laws of the rules' run on its way: the start, one pair more, and the end.
use Rattle.std.specs.Prelude.{◌≡◌, List, ℕ, ◌+◌, ◌*◌, ◌/◌, ◌<◌, ◌≤◌, length, get_or, take}
use Rattle.std.proofs.Math.Path.{ap}
use Rattle.std.proofs.Common.{◌∙◌, arith, take_all}
use Rattle.std.proofs.Math.Seq.{length-take-le}
use Rattle.lists.specs.FoldLaws.{fold_nil, fold_more}
use Rattle.rules.specs.Table.{Path, paths_of}
use Rattle.rules.specs.Machine.{Pair}
use Rattle.rules.specs.Run.{pairs_in, listening_offsets, begun, activated, run}
use Rattle.laws.specs.RunLaws.{run_steps}
use Rattle.laws.specs.ScheduleLaws.{pairs_length, pairs_at}
use Rattle.run_admission.specs.Tallied.{tally_at}

-- the pair with the number i
abbrev pub pair_at : List ℕ → ℕ → Pair
pair_at schedule i = record { listener = get_or schedule (2 * i) 0; speaker = get_or schedule (2 * i + 1) 0 }

module _ (t start schedule : List ℕ) where
  abbrev paths : ℕ → List Path
  paths = paths_of t

  abbrev pairs : List Pair
  pairs = pairs_in schedule

  -- before the first pair nothing is counted yet
  pub tally_start : tally_at t start schedule 0 ≡ begun start
  unfolding tally_at run
  tally_start = fold_nil (activated paths (listening_offsets paths)) (begun start)

  module _ (i : ℕ) (h : i < length schedule / 2) where
    pub pair_within : i < length pairs
    pair_within = omega (arith, pairs_length schedule)

    -- the rules take one step more
    pub tally_on : tally_at t start schedule (i + 1) ≡ activated paths (listening_offsets paths) (tally_at t start schedule i) (pair_at schedule i)
    unfolding tally_at run
    tally_on =
        fold_more (activated paths (listening_offsets paths)) (begun start) pairs i (pair_at schedule i) pair_within
        ∙ ap (activated paths (listening_offsets paths) (run paths start (take i pairs))) (pairs_at schedule i (pair_at schedule i) h)

    pub tally_count : (tally_at t start schedule i).steps ≡ i
    unfolding tally_at
    tally_count = run_steps paths start (take i pairs) ∙ length-take-le i pairs (omega (arith, pair_within))

  -- after the last pair the run has ended
  pub tally_end : (i : ℕ) → length schedule / 2 ≤ i → tally_at t start schedule i ≡ run paths start pairs
  unfolding tally_at
  tally_end i h = ap (run paths start) (take_all i pairs (omega (arith, pairs_length schedule)))
