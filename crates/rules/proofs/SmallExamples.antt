use Rattle.std.specs.Prelude.{refl}
use Rattle.lists.specs.Search.{outside, first_from, any_below, those_below, any_in, first_in, elem, twice, same, max_below, count_below}
use Rattle.lists.specs.Fill.{tabulate, blocks, padded}
use Rattle.lists.specs.Fold.{fold_left}
use Rattle.rules.specs.Table.{slots_of, next_hop, record_at, records, rank_of, hops_of, path_of, owner_of, owned, paths_below, paths_of, present, rest, first, listens, listens_at, longest}
use Rattle.rules.specs.Greedy.{stage_of, lowest_of, ring_from, is_settled, compatible, at_start, judged, best, stage, stages_from, stages_until, from_vertex, before_vertex, closed_part, turned, settled_list, settled, is_quiet, enters, stuck_in, stage_count, follows}
use Rattle.rules.specs.Stable.{extends, best_given}
use Rattle.rules.specs.Report.{row_bytes, row_at, vertices, path_shown, place_in, rank_in, row, report}
use Rattle.rules.specs.Machine.{last_heard, offset_of, standing_of, bad_at, speaks, byte_for, path_for, bad_byte, heard_fault, choice, choice_bytes, step, standing, movement}
use Rattle.rules.specs.Run.{listening_offsets, run, pairs_in, is_up, is_down, more, offsets_of, closes, begun, activated}
use Rattle.rules.specs.Refusals.{refused_if, refused_at, ◌or_else◌, hops_bad, vertex_bad, unused_of, filler_bad, twice_bad, last_bad, owner_bad, rank_due, rank_bad, path_bad, in_record, rule, record_rules, first_broken, fault, faulty, first_bad, too_long, ragged, bad_record, refusal}
use Rattle.rules.specs.Answers.{choices_in, run_refusal, other_length, schedule_bad, first_bad_pair, unless, verdict}
use Rattle.rules.specs.Text.{codes, decimal, place_words, verdict_line, row_lines, digits_in, labelled, spaced, route_words, stage_words, row_path, row_line, text_of, refused_line, ring_line}
use Rattle.rules.specs.RunText.{signed, run_line, ran_line, vertex_line}
use Rattle.rules.specs.Entries.{code_of, four_bytes, sum_bytes, word_bytes, twos_complement}
use Rattle.rules.specs.TriedExamples.{table_bytes, shown, absent, raw_record, record_bytes, block_bytes, outcome, Works}
use Rattle.rules.proofs.TextExamples.{worked_text}
use Rattle.rules.specs.SmallExamples.{flat, rising, small_examples}

-- computed where the list before works, so that a changed definition is refused at the first that notices
pub worked_small : Works small_examples
unfolding outside first_from any_below count_below those_below any_in first_in elem twice same max_below tabulate blocks
    padded fold_left record_at records rank_of hops_of path_of owner_of owned paths_below paths_of slots_of present longest
    next_hop rest first listens listens_at is_settled compatible at_start judged stuck_in best stage settled_list settled
    enters is_quiet stages_from stages_until stage_count stage_of follows from_vertex before_vertex closed_part lowest_of
    turned ring_from extends best_given place_in rank_in row_bytes row row_at vertices path_shown report offset_of standing_of
    bad_at speaks byte_for path_for bad_byte heard_fault last_heard choice choice_bytes step standing movement pairs_in is_up
    is_down more offsets_of listening_offsets closes begun activated run refused_if refused_at ◌or_else◌ hops_bad vertex_bad
    unused_of filler_bad twice_bad last_bad owner_bad rank_due rank_bad path_bad in_record rule record_rules first_broken fault
    faulty first_bad too_long ragged bad_record refusal other_length schedule_bad first_bad_pair run_refusal unless verdict
    choices_in codes digits_in decimal labelled spaced route_words place_words refused_line verdict_line stage_words row_path
    row_line row_lines ring_line text_of signed run_line vertex_line ran_line code_of four_bytes word_bytes twos_complement
    sum_bytes raw_record record_bytes block_bytes table_bytes shown absent outcome flat rising small_examples
worked_small = let before = worked_text in record { works = refl }
