use Rattle.std.specs.Prelude.{refl}
use Rattle.lists.specs.Search.{outside, first_from, any_below, count_below, those_below, any_in, first_in, elem, twice, same, max_below}
use Rattle.lists.specs.Fill.{tabulate, blocks, padded}
use Rattle.lists.specs.Fold.{fold_left}
use Rattle.rules.specs.Table.{record_at, records, rank_of, hops_of, path_of, owner_of, owned, paths_below, paths_of, present, longest, next_hop, rest, first, listens, listens_at}
use Rattle.rules.specs.Greedy.{is_settled, compatible, at_start, judged, stuck_in, best, stage, settled_list, settled, enters, is_quiet, stages_from, stages_until, stage_count, stage_of, follows, from_vertex, before_vertex, closed_part, lowest_of, turned, ring_from}
use Rattle.rules.specs.Stable.{extends, best_given}
use Rattle.rules.specs.Report.{place_in, rank_in, row_bytes, row, report}
use Rattle.rules.specs.Machine.{offset_of, standing_of, bad_at, speaks, byte_for, path_for, bad_byte, heard_fault, last_heard, choice, step, standing, movement}
use Rattle.rules.specs.Run.{pairs_in, is_up, is_down, more, offsets_of, listening_offsets, closes, begun, activated, run}
use Rattle.rules.specs.Refusals.{refused_if, refused_at, ◌or_else◌, hops_bad, vertex_bad, unused_of, filler_bad, twice_bad, last_bad, owner_bad, rank_due, rank_bad, path_bad, in_record, rule, record_rules, first_broken, fault, faulty, first_bad, too_long, ragged, bad_record, refusal}
use Rattle.rules.specs.Answers.{other_length, schedule_bad, first_bad_pair, check_refusal, step_refusal, run_refusal, unless, verdict_of, verdict, check_verdict, check_numbers, rows_after, ring_after, run_numbers}
use Rattle.rules.specs.Entries.{code_of, four_bytes, word_bytes, number_bytes, twos_complement, sum_bytes, check_refusal_for_c, step_refusal_for_c, run_refusal_for_c, rows_for_c, ring_for_c, check_numbers_for_c, heard_step_for_c, step_numbers_for_c, heard_run_for_c, sums_for_c, run_numbers_for_c}
use Rattle.rules.specs.TriedExamples.{record_bytes, table_bytes, shown, absent, raw_record, block_bytes, outcome, Works}
use Rattle.rules.proofs.RunExamples.{worked_run}
use Rattle.rules.specs.EntryExamples.{entry_examples}

-- computed where the list before works, so that a changed definition is refused at the first that notices
pub worked_entry : Works entry_examples
unfolding outside first_from any_below count_below those_below any_in first_in elem twice same max_below tabulate blocks
    padded fold_left record_at records rank_of hops_of path_of owner_of owned paths_below paths_of present longest next_hop
    rest first listens listens_at is_settled compatible at_start judged stuck_in best stage settled_list settled enters
    is_quiet stages_from stages_until stage_count stage_of follows from_vertex before_vertex closed_part lowest_of turned
    ring_from extends best_given place_in rank_in row_bytes row report offset_of standing_of bad_at speaks byte_for path_for
    bad_byte heard_fault last_heard choice step standing movement pairs_in is_up is_down more offsets_of listening_offsets
    closes begun activated run refused_if refused_at ◌or_else◌ hops_bad vertex_bad unused_of filler_bad twice_bad last_bad
    owner_bad rank_due rank_bad path_bad in_record rule record_rules first_broken fault faulty first_bad too_long ragged
    bad_record refusal other_length schedule_bad first_bad_pair check_refusal step_refusal run_refusal unless verdict_of
    verdict check_verdict check_numbers rows_after ring_after run_numbers code_of four_bytes word_bytes number_bytes
    twos_complement sum_bytes check_refusal_for_c step_refusal_for_c run_refusal_for_c rows_for_c ring_for_c check_numbers_for_c
    heard_step_for_c step_numbers_for_c heard_run_for_c sums_for_c run_numbers_for_c raw_record record_bytes block_bytes table_bytes
    shown absent outcome entry_examples
worked_entry = let before = worked_run in record { works = refl }
