use Rattle.std.specs.Prelude.{refl}
use Rattle.lists.specs.Search.{outside, first_from, any_below, those_below, any_in, first_in, elem, twice, same}
use Rattle.lists.specs.Fill.{blocks}
use Rattle.lists.specs.Fold.{fold_left}
use Rattle.rules.specs.Table.{record_at, records, rank_of, hops_of, path_of, owner_of, owned, paths_below, paths_of, next_hop, rest, first, listens, listens_at}
use Rattle.rules.specs.Stable.{extends, best_given}
use Rattle.rules.specs.Report.{place_in, rank_in}
use Rattle.rules.specs.Machine.{offset_of, standing_of, bad_at, speaks, byte_for, path_for, bad_byte, heard_fault, last_heard, choice, step, standing, movement}
use Rattle.rules.specs.Run.{pairs_in, is_up, is_down, more, offsets_of, listening_offsets, closes, begun, activated, run}
use Rattle.rules.specs.Refusals.{refused_if, refused_at, ◌or_else◌, hops_bad, vertex_bad, unused_of, filler_bad, twice_bad, last_bad, owner_bad, rank_due, rank_bad, path_bad, in_record, rule, record_rules, first_broken, fault, faulty, first_bad, too_long, ragged, bad_record, refusal}
use Rattle.rules.specs.Answers.{other_length, schedule_bad, first_bad_pair, step_refusal, run_refusal, unless, step_movement, heard_after_step, run_numbers, heard_after_run, sums_after_run}
use Rattle.rules.specs.TriedExamples.{table_bytes, raw_record, record_bytes, block_bytes, movements, ran_of, unless_refused, outcome, Works}
use Rattle.rules.proofs.CheckExamples.{worked_check}
use Rattle.rules.specs.RunExamples.{run_examples}

-- computed where the list before works, so that a changed definition is refused at the first that notices
pub worked_run : Works run_examples
unfolding outside first_from any_below those_below any_in first_in elem twice same blocks fold_left record_at records rank_of
    hops_of path_of owner_of owned paths_below paths_of next_hop rest first listens listens_at extends best_given place_in
    rank_in offset_of standing_of bad_at speaks byte_for path_for bad_byte heard_fault last_heard choice step standing movement
    pairs_in is_up is_down more offsets_of listening_offsets closes begun activated run refused_if refused_at ◌or_else◌
    hops_bad vertex_bad unused_of filler_bad twice_bad last_bad owner_bad rank_due rank_bad path_bad in_record rule record_rules
    first_broken fault faulty first_bad too_long ragged bad_record refusal other_length schedule_bad first_bad_pair
    step_refusal run_refusal unless step_movement heard_after_step run_numbers heard_after_run sums_after_run raw_record
    record_bytes block_bytes table_bytes movements ran_of unless_refused outcome run_examples
worked_run = let before = worked_check in record { works = refl }
