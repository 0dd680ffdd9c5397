use Rattle.std.specs.Prelude.{refl}
use Rattle.lists.specs.Search.{outside, first_from, any_below, count_below, those_below, any_in, elem, twice, same, max_below}
use Rattle.lists.specs.Fill.{tabulate, blocks, padded}
use Rattle.rules.specs.Table.{record_at, records, rank_of, hops_of, path_of, owner_of, owned, paths_below, paths_of, present, longest, next_hop, first}
use Rattle.rules.specs.Greedy.{is_settled, compatible, at_start, judged, stuck_in, best, stage, settled_list, settled, enters, is_quiet, stages_from, stages_until, stage_count, stage_of, follows, from_vertex, before_vertex, closed_part, lowest_of, turned, ring_from}
use Rattle.rules.specs.Report.{place_in, rank_in, row_bytes, row, report}
use Rattle.rules.specs.Refusals.{refused_if, ◌or_else◌, hops_bad, vertex_bad, unused_of, filler_bad, twice_bad, last_bad, owner_bad, rank_due, rank_bad, path_bad, in_record, rule, record_rules, first_broken, fault, faulty, first_bad, too_long, ragged, bad_record, refusal}
use Rattle.rules.specs.Answers.{verdict_of}
use Rattle.rules.specs.TriedExamples.{table_bytes, shown, absent, raw_record, record_bytes, block_bytes, checked_of, unless_refused, outcome, Works}
use Rattle.rules.proofs.RefusalExamples.{worked_refusal}
use Rattle.rules.specs.CheckExamples.{check_examples}

-- computed where the list before works, so that a changed definition is refused at the first that notices
pub worked_check : Works check_examples
unfolding outside first_from any_below count_below those_below any_in elem twice same max_below tabulate blocks padded
    record_at records rank_of hops_of path_of owner_of owned paths_below paths_of present longest next_hop first is_settled
    compatible at_start judged stuck_in best stage settled_list settled enters is_quiet stages_from stages_until stage_count
    stage_of follows from_vertex before_vertex closed_part lowest_of turned ring_from place_in rank_in row_bytes row report
    refused_if ◌or_else◌ hops_bad vertex_bad unused_of filler_bad twice_bad last_bad owner_bad rank_due rank_bad path_bad in_record
    rule record_rules first_broken fault faulty first_bad too_long ragged bad_record refusal verdict_of raw_record
    record_bytes block_bytes table_bytes shown absent checked_of unless_refused outcome check_examples
worked_check = let before = worked_refusal in record { works = refl }
