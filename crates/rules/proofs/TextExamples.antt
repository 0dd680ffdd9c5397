use Rattle.std.specs.Prelude.{refl}
use Rattle.lists.specs.Search.{outside, first_from, any_below, count_below, those_below, any_in, first_in, elem, twice, same, max_below}
use Rattle.lists.specs.Fill.{tabulate, blocks, padded}
use Rattle.lists.specs.Fold.{fold_left}
use Rattle.rules.specs.Table.{record_at, records, rank_of, hops_of, path_of, owner_of, owned, paths_below, paths_of, present, longest, next_hop, rest, first, listens, listens_at}
use Rattle.rules.specs.Greedy.{is_settled, compatible, at_start, judged, stuck_in, best, stage, settled_list, settled, enters, is_quiet, stages_from, stages_until, stage_count, stage_of, follows, from_vertex, before_vertex, closed_part, lowest_of, turned, ring_from}
use Rattle.rules.specs.Stable.{extends, best_given}
use Rattle.rules.specs.Report.{place_in, rank_in, row_bytes, row, row_at, report}
use Rattle.rules.specs.Machine.{offset_of, standing_of, bad_at, speaks, byte_for, path_for, bad_byte, heard_fault, last_heard, choice, step, standing, movement}
use Rattle.rules.specs.Run.{pairs_in, is_up, is_down, more, offsets_of, listening_offsets, closes, begun, activated, run}
use Rattle.rules.specs.Refusals.{refused_if, refused_at, ◌or_else◌, hops_bad, vertex_bad, unused_of, filler_bad, twice_bad, last_bad, owner_bad, rank_due, rank_bad, path_bad, in_record, rule, record_rules, first_broken, fault, faulty, first_bad, too_long, ragged, bad_record, refusal}
use Rattle.rules.specs.Answers.{other_length, schedule_bad, first_bad_pair, run_refusal, verdict_of, verdict}
use Rattle.rules.specs.Text.{codes, digits_in, decimal, labelled, spaced, route_words, place_words, refused_line, verdict_line, stage_words, row_path, row_line, row_lines, ring_line, text_of, check_text}
use Rattle.rules.specs.RunText.{signed, run_line, vertex_line, vertex_lines, run_text_of, ran_line, run_text, ran_text}
use Rattle.rules.specs.TriedExamples.{record_bytes, table_bytes, raw_record, block_bytes, outcome, Works}
use Rattle.rules.proofs.EntryExamples.{worked_entry}
use Rattle.rules.specs.TextExamples.{text_examples}

-- computed where the list before works, so that a changed definition is refused at the first that notices
pub worked_text : Works text_examples
unfolding outside first_from any_below count_below those_below any_in first_in elem twice same max_below tabulate blocks
    padded fold_left record_at records rank_of hops_of path_of owner_of owned paths_below paths_of present longest next_hop
    rest first listens listens_at is_settled compatible at_start judged stuck_in best stage settled_list settled enters
    is_quiet stages_from stages_until stage_count stage_of follows from_vertex before_vertex closed_part lowest_of turned
    ring_from extends best_given place_in rank_in row_bytes row row_at report offset_of standing_of bad_at speaks byte_for
    path_for bad_byte heard_fault last_heard choice step standing movement pairs_in is_up is_down more offsets_of
    listening_offsets closes begun activated run refused_if refused_at ◌or_else◌ hops_bad vertex_bad unused_of filler_bad
    twice_bad last_bad owner_bad rank_due rank_bad path_bad in_record rule record_rules first_broken fault faulty first_bad
    too_long ragged bad_record refusal other_length schedule_bad first_bad_pair run_refusal verdict_of verdict codes digits_in
    decimal labelled spaced route_words place_words refused_line verdict_line stage_words row_path row_line row_lines ring_line
    text_of check_text signed run_line vertex_line vertex_lines run_text_of ran_line run_text ran_text raw_record record_bytes
    block_bytes table_bytes outcome text_examples
worked_text = let before = worked_entry in record { works = refl }
