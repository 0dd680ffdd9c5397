-- The published examples of paper 001, as theorems about the rules.
use Rattle.std.specs.Prelude.{ℕ, ◌≡◌, refl, ◌⊎◌, List, [], ◌∷◌, map, get_or, length}
use Rattle.std.proofs.Common.{sym, ap, ◌∙◌, subst, inl, inr, ⊎_elim, arith}
use Rattle.lists.specs.Search.{outside, first_from, any_below, count_below, those_below, any_in, first_in, elem, same, max_below, twice}
use Rattle.lists.specs.NumberLaws.{by_number}
use Rattle.lists.specs.Tests.{by_test}
use Rattle.lists.specs.Fill.{tabulate, blocks, padded}
use Rattle.lists.specs.Fold.{fold_left}
use Rattle.rules.specs.Table.{Path, record_at, records, rank_of, hops_of, path_of, owner_of, owned, paths_below, paths_of, present, longest, next_hop, rest, first, listens, listens_at}
use Rattle.rules.specs.Refusals.{◌or_else◌, hops_bad, vertex_bad, unused_of, filler_bad, twice_bad, last_bad, owner_bad, rank_due, rank_bad, path_bad, in_record, rule, record_rules, first_broken, fault, faulty, first_bad, too_long, ragged, refusal, refused_if, refused_at, bad_record}
use Rattle.rules.specs.Greedy.{is_settled, compatible, at_start, best, judged, stage, settled_list, settled, enters, is_quiet, stages_from, stages_until, stage_count, stage_of, stuck_in, follows, from_vertex, before_vertex, closed_part, lowest_of, turned, ring_from}
use Rattle.rules.specs.Stable.{Stable, extends, best_given}
use Rattle.rules.specs.Report.{place_in, rank_in, row_bytes, row, report}
use Rattle.rules.specs.Machine.{offset_of, speaks, byte_for, path_for, bad_at, bad_byte, heard_fault, last_heard, choice, step}
use Rattle.rules.specs.Run.{pairs_in}
use Rattle.rules.specs.Answers.{verdict_of}
use Rattle.laws.specs.PathLaws.{first_head, first_tail}
use Rattle.laws.specs.MachineLaws.{choice_other, heard_in}
use Rattle.rules.specs.TriedExamples.{checked_of, unless_refused, outcome, raw_record, record_bytes, block_bytes, table_bytes, shown, absent}
use Rattle.theorems.specs.Claims.{Call, AllAccepted, heard_after, pairs_of, Rests, stored_byte}
use Rattle.theorems.proofs.CallLaws.{all_after, all_range}
use Rattle.theorems.proofs.RestingPoints.{rests_resting, resting_stable}
use Rattle.theorems.specs.PublishedLaws.{other_stored, stored_rests, never_crossed, StableState, Routers, unstable, every_draw, same_paths, Only, stable_named}
use Rattle.theorems.proofs.PublishedLaws.{tested_stable}
use Rattle.theorems.specs.Published.{disagree, bad_gadget, bleedin_edge, di_safe_gree, disagree_bytes, bad_gadget_bytes, bleedin_edge_bytes, di_safe_gree_bytes, assigned, routers_paths, disagree_first, disagree_second, bleedin_stable, di_safe_gree_stable, table2, table4_begin, table4_moment, table4_end, table4, disagree_two_first, disagree_one_first, bad_gadget_round, bad_gadget_rounds, edge_four_first, edge_two_first, bleedin_round, di_safe_gree_rows, at_once, one_by_one, after_rows, selected_in, selected_after, nothing_heard, direct_heard, row_three, row_nine}
use Rattle.theorems.specs.PublishedExamples.{checks, Computed, Followed, RowThreeHeard}

pub published_checked : map (λ e. outcome e.input) checks ≡ map (λ e. e.expected) checks
unfolding refused_if refused_at ◌or_else◌ outside first_from any_below
    count_below those_below any_in first_in elem same max_below tabulate blocks padded record_at records rank_of
    hops_of path_of owner_of owned paths_below paths_of present longest next_hop rest first listens listens_at hops_bad vertex_bad
    unused_of filler_bad twice twice_bad last_bad owner_bad rank_due rank_bad path_bad in_record rule record_rules first_broken
    fault faulty first_bad bad_record too_long ragged refusal is_settled compatible at_start best judged stage settled_list settled
    enters is_quiet stages_from stages_until stage_count stage_of stuck_in follows from_vertex before_vertex closed_part lowest_of
    turned ring_from
    place_in rank_in row_bytes row report verdict_of raw_record record_bytes block_bytes table_bytes shown absent checked_of
    unless_refused outcome
    disagree bad_gadget bleedin_edge di_safe_gree disagree_bytes bad_gadget_bytes bleedin_edge_bytes di_safe_gree_bytes checks
published_checked = refl

-- what is found by computing
pub computed : Computed
unfolding outside any_below any_in first_in elem same max_below twice tabulate padded first_from fold_left those_below
    refused_if refused_at ◌or_else◌ record_at records rank_of hops_of path_of owner_of owned paths_below paths_of present next_hop
    rest first listens listens_at
    hops_bad vertex_bad unused_of filler_bad twice_bad last_bad owner_bad rank_due rank_bad path_bad in_record rule record_rules first_broken
    fault faulty first_bad bad_record too_long ragged refusal extends best_given place_in speaks byte_for path_for bad_at
    bad_byte heard_fault
    raw_record record_bytes block_bytes table_bytes disagree bad_gadget bleedin_edge di_safe_gree disagree_bytes bad_gadget_bytes
    bleedin_edge_bytes di_safe_gree_bytes
    assigned disagree_first disagree_second bleedin_stable di_safe_gree_stable nothing_heard direct_heard row_three row_nine
    unstable every_draw same_paths
computed =
    record {
      disagree_routers = record { accepted = refl; others = refl; all = refl };
      bad_gadget_routers = record { accepted = refl; others = refl; all = refl };
      bleedin_routers = record { accepted = refl; others = refl; all = refl };
      di_safe_gree_routers = record { accepted = refl; others = refl; all = refl };
      first_passes = refl;
      second_passes = refl;
      bleedin_passes = refl;
      di_safe_gree_passes = refl;
      disagree_draws = refl;
      bad_gadget_draws = refl;
      bleedin_draws = refl;
      di_safe_gree_draws = refl;
      row_three_long = refl;
      row_three_fine = refl;
      row_three_heard = (refl, refl);
      zeros_long = refl;
      zeros_heard = refl;
      two_paths = refl;
      four_paths = refl;
      rank_three = refl;
      rank_four = refl;
      byte_two = refl;
      byte_one = refl;
      byte_other = refl;
    }

-- what is found by computing of the rows
pub followed : Followed
unfolding outside any_below those_below any_in first_in elem same tabulate fold_left padded record_at records rank_of
    hops_of path_of owner_of owned paths_below paths_of next_hop rest first listens listens_at extends best_given place_in
    offset_of speaks byte_for path_for
    last_heard choice step pairs_in raw_record record_bytes block_bytes table_bytes stored_byte other_stored
    disagree bad_gadget bleedin_edge di_safe_gree disagree_bytes bad_gadget_bytes bleedin_edge_bytes di_safe_gree_bytes
    assigned routers_paths disagree_first disagree_second bleedin_stable di_safe_gree_stable table2 table4_begin table4_moment
    table4_end table4
    disagree_two_first disagree_one_first bad_gadget_round bad_gadget_rounds edge_four_first edge_two_first bleedin_round di_safe_gree_rows
    at_once one_by_one after_rows selected_in selected_after nothing_heard direct_heard row_three row_nine
followed =
    record {
      disagree_moments = refl;
      disagree_for_ever = refl;
      disagree_by_two = refl;
      disagree_by_one = refl;
      disagree_ends_first = record { long = refl; same = refl };
      disagree_ends_second = record { long = refl; same = refl };
      bad_gadget_turns = refl;
      bad_gadget_again = refl;
      edge_moments = refl;
      edge_again = refl;
      edge_row_nine = refl;
      edge_for_ever = refl;
      edge_begin = refl;
      edge_by_four = refl;
      edge_by_two = refl;
      edge_row_three = refl;
      edge_end = refl;
      edge_round = refl;
      edge_rests = record { long = refl; same = refl };
      di_safe_gree_goes = refl;
      di_safe_gree_rests = record { long = refl; same = refl };
    }

-- The two stable states of Table 3, the one of Table 5 and the solution of Table 6: stable in the rules' sense, and no
-- step changes the heard state that stores them ..
pub disagree_first_lem : StableState disagree_bytes disagree_first
disagree_first_lem = tested_stable disagree_bytes 2 computed.disagree_routers disagree_first computed.first_passes

pub disagree_second_lem : StableState disagree_bytes disagree_second
disagree_second_lem = tested_stable disagree_bytes 2 computed.disagree_routers disagree_second computed.second_passes

pub bleedin_edge_stable : StableState bleedin_edge_bytes bleedin_stable
bleedin_edge_stable =
    tested_stable bleedin_edge_bytes 4 computed.bleedin_routers bleedin_stable computed.bleedin_passes

pub di_safe_gree_stable_lem : StableState di_safe_gree_bytes di_safe_gree_stable
di_safe_gree_stable_lem =
    tested_stable di_safe_gree_bytes 3 computed.di_safe_gree_routers di_safe_gree_stable computed.di_safe_gree_passes

-- .. and there is no other stable assignment: DISAGREE has the two, ..
pub disagree_only : (a : ℕ → Path)
    → Stable (paths_of disagree_bytes) (present disagree_bytes) a
    → (routers_paths 2 a ≡ disagree_first) ⊎ (routers_paths 2 a ≡ disagree_second)
disagree_only a stable =
    let named = disagree_first ∷ disagree_second ∷ [] in
    let found = stable_named disagree_bytes 2 computed.disagree_routers a stable named computed.disagree_draws in
    let at : (k : ℕ) → found.0 ≡ k → routers_paths 2 a ≡ get_or named k [] = λ k z. rw z at found.2 in
    by_number found.0 (λ z. inl (at 0 z)) (λ k z. inr (at 1 (omega (arith, found.1, z))))

-- .. BAD GADGET has none, so no heard state rests, ..
pub bad_gadget_none : (a : ℕ → Path) → Stable (paths_of bad_gadget_bytes) (present bad_gadget_bytes) a → ⊥
bad_gadget_none a stable =
    let found = stable_named bad_gadget_bytes 3 computed.bad_gadget_routers a stable [] computed.bad_gadget_draws in
    omega (arith, found.1)

pub bad_gadget_restless : (heard : List ℕ) → Rests bad_gadget_bytes heard → ⊥
bad_gadget_restless heard rests =
    let accepted = computed.bad_gadget_routers.accepted in
    bad_gadget_none (choice (paths_of bad_gadget_bytes) heard)
    (resting_stable bad_gadget_bytes accepted heard (rests_resting bad_gadget_bytes accepted heard rests))

-- .. and BLEEDIN-EDGE and DI-SAFE-GREE have one each.
only_one : (t : List ℕ) (n : ℕ) (ps : List Path)
    → Routers t n
    → Only t n (ps ∷ [])
    → (a : ℕ → Path)
    → Stable (paths_of t) (present t) a
    → routers_paths n a ≡ ps
only_one t n ps routers draws a stable =
    let found = stable_named t n routers a stable (ps ∷ []) draws in
    let z : found.0 ≡ 0 = omega (arith, found.1) in
    rw z at found.2

pub bleedin_edge_only : (a : ℕ → Path)
    → Stable (paths_of bleedin_edge_bytes) (present bleedin_edge_bytes) a
    → routers_paths 4 a ≡ bleedin_stable
bleedin_edge_only = only_one bleedin_edge_bytes 4 bleedin_stable computed.bleedin_routers computed.bleedin_draws

pub di_safe_gree_only : (a : ℕ → Path)
    → Stable (paths_of di_safe_gree_bytes) (present di_safe_gree_bytes) a
    → routers_paths 3 a ≡ di_safe_gree_stable
di_safe_gree_only =
    only_one di_safe_gree_bytes 3 di_safe_gree_stable computed.di_safe_gree_routers computed.di_safe_gree_draws

-- What the rows come to one by one: these states rest.

pub disagree_two_first_lem : Rests disagree_bytes (after_rows (one_by_one (paths_of disagree_bytes)) nothing_heard disagree_two_first)
disagree_two_first_lem = stored_rests disagree_bytes _ disagree_first disagree_first_lem followed.disagree_ends_first

pub disagree_one_first_lem : Rests disagree_bytes (after_rows (one_by_one (paths_of disagree_bytes)) nothing_heard disagree_one_first)
disagree_one_first_lem = stored_rests disagree_bytes _ disagree_second disagree_second_lem followed.disagree_ends_second

pub bleedin_edge_rests : Rests bleedin_edge_bytes (after_rows (one_by_one (paths_of bleedin_edge_bytes)) nothing_heard (bleedin_round ∷ []))
bleedin_edge_rests = stored_rests bleedin_edge_bytes _ bleedin_stable bleedin_edge_stable followed.edge_rests

pub di_safe_gree_rests_lem : Rests di_safe_gree_bytes (after_rows (one_by_one (paths_of di_safe_gree_bytes)) nothing_heard di_safe_gree_rows)
di_safe_gree_rests_lem = stored_rests di_safe_gree_bytes _ di_safe_gree_stable di_safe_gree_stable_lem followed.di_safe_gree_rests

-- Row 3 of Table 4 needs its moment. Where 2 has heard (4 0) it has a better path than (2 3 0), the one that 4 must
-- hear in row 3 ..
two_chooses : (given : ℕ → Path) → given 4 ≡ 4 ∷ 0 ∷ [] → best_given (paths_of bleedin_edge_bytes) given 2 ≡ 2 ∷ 4 ∷ 0 ∷ []
unfolding best_given extends rest next_hop same
two_chooses given e =
    rw computed.two_paths
    (first_tail (extends given) (2 ∷ 4 ∷ 3 ∷ 0 ∷ []) _ (ap (same (4 ∷ 3 ∷ 0 ∷ [])) e)
    ∙ first_head (extends given) (2 ∷ 4 ∷ 0 ∷ []) _ (ap (same (4 ∷ 0 ∷ [])) e))

-- .. and where 4 has heard (2 3 0) it has a better path than (4 0), the one that 2 must hear.
four_chooses : (given : ℕ → Path)
    → given 2 ≡ 2 ∷ 3 ∷ 0 ∷ []
    → (best_given (paths_of bleedin_edge_bytes) given 4 ≡ 4 ∷ 3 ∷ 0 ∷ []) ⊎ (best_given (paths_of bleedin_edge_bytes) given 4 ≡ 4 ∷ 2 ∷ 3 ∷ 0 ∷ [])
unfolding best_given extends rest next_hop same
four_chooses given e =
    rw computed.four_paths
    (by_test (extends given (4 ∷ 3 ∷ 0 ∷ []))
    (λ q. inl (first_head (extends given) (4 ∷ 3 ∷ 0 ∷ []) _ q))
    (λ q. inr (first_tail (extends given) (4 ∷ 3 ∷ 0 ∷ []) _ q
    ∙ first_head (extends given) (4 ∷ 2 ∷ 3 ∷ 0 ∷ []) _ (ap (same (2 ∷ 3 ∷ 0 ∷ [])) e))))

-- So from a state in which 2 and 4 have not both heard what they have heard in row 3, no calls lead to one in which they have ..
pub moment_needed : (heard : List ℕ) (calls : List Call)
    → length heard ≡ 4096
    → AllAccepted bleedin_edge_bytes heard calls
    → RowThreeHeard (heard_after bleedin_edge_bytes heard calls)
    → RowThreeHeard heard
moment_needed heard calls long a now =
    let t = bleedin_edge_bytes in
    let paths = paths_of t in
    never_crossed paths 2 4 3 4 (omega arith) (omega arith) (λ z. omega arith)
    (λ h e f. let chosen = choice_other paths h 2 (λ z. omega arith)
    ∙ two_chooses (last_heard paths h 2) (heard_in paths h 2 4 (omega arith) ∙ ap (path_for paths 4) e ∙ computed.rank_three) in
    omega (arith, sym f ∙ ap (byte_for paths 2) chosen ∙ computed.byte_two))
    (λ h e f. let heard_two = heard_in paths h 4 2 (omega arith) ∙ ap (path_for paths 2) e ∙ computed.rank_four in
    let other = choice_other paths h 4 (λ z. omega arith) in
    ⊎_elim (λ q. omega (arith, sym f ∙ ap (byte_for paths 4) (other ∙ q) ∙ computed.byte_one))
    (λ q. omega (arith, sym f ∙ ap (byte_for paths 4) (other ∙ q) ∙ computed.byte_other))
    (four_chooses (last_heard paths h 4) heard_two))
    (pairs_of calls) heard (all_range t computed.bleedin_routers.accepted calls heard a) long
    (subst RowThreeHeard (all_after t calls heard a) now)

-- .. and from zeros none leads to row 3's state.
pub row_three_unreached : (calls : List Call)
    → AllAccepted bleedin_edge_bytes nothing_heard calls
    → heard_after bleedin_edge_bytes nothing_heard calls ≡ row_three
    → ⊥
row_three_unreached calls a e =
    let before = moment_needed nothing_heard calls computed.zeros_long a (rw e computed.row_three_heard) in
    omega (arith, before.0, computed.zeros_heard)
