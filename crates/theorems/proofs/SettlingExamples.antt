-- The theorem at work on table 7 of the rules page, from zeros and from a leftover state; and that fewer rounds, or
-- rounds of fewer pairs, are not enough.
use Prim.{tt}
use Rattle.std.specs.Prelude.{ℕ, zero, suc, ◌<◌, ◌-◌, ◌*◌, ◌≤◌, ◌≡◌, refl, List, [], ◌∷◌, map, get_or, length, drop}
use Rattle.std.proofs.Common.{sym, ap, ◌∙◌, subst, arith}
use Rattle.std.proofs.Math.Option.{none}
use Rattle.lists.specs.Search.{outside, first_from, any_below, count_below, those_below, any_in, first_in, elem, same, max_below, twice}
use Rattle.lists.specs.Tests.{true≢}
use Rattle.lists.specs.ListLaws.{elem_nil}
use Rattle.lists.specs.Fill.{tabulate, blocks, padded}
use Rattle.lists.specs.Fold.{fold_left}
use Rattle.rules.specs.Table.{Path, record_at, records, rank_of, hops_of, path_of, owner_of, owned, paths_below, paths_of, present, longest, next_hop, rest, first, listens, listens_at}
use Rattle.rules.specs.Refusals.{◌or_else◌, hops_bad, vertex_bad, unused_of, filler_bad, twice_bad, last_bad, owner_bad, rank_due, rank_bad, path_bad, in_record, rule, record_rules, first_broken, fault, faulty, first_bad, too_long, ragged, refusal, refused_if, refused_at, bad_record}
use Rattle.rules.specs.Greedy.{is_settled, compatible, at_start, best, judged, stage, settled_list, settled, enters, is_quiet, stages_from, stages_until, stage_count, stage_of, stuck_in, follows, from_vertex, before_vertex, closed_part, lowest_of, turned, ring_from}
use Rattle.rules.specs.Stable.{Stable, extends, best_given}
use Rattle.rules.specs.Report.{place_in, rank_in, row_bytes, row, row_at, vertices, path_shown, report}
use Rattle.rules.specs.Machine.{offset_of, speaks, byte_for, path_for, bad_at, bad_byte, heard_fault, last_heard, choice, step, standing_of, standing, movement}
use Rattle.rules.specs.Run.{pairs_in, is_up, is_down, more, offsets_of, listening_offsets, closes, begun, activated, run}
use Rattle.rules.specs.Rounds.{Contains}
use Rattle.rules.specs.Answers.{verdict_of, other_length, schedule_bad, first_bad_pair, step_refusal, run_refusal, run_numbers, heard_after_step, heard_after_run, unless}
use Rattle.rules.specs.TriedExamples.{raw_record, record_bytes, block_bytes, table_bytes}
use Rattle.laws.specs.RoundLaws.{closes_all, rounds_contained, contains_none, contains_more, contains_fewer}
use Rattle.theorems.specs.Claims.{Call, call_refusal, heard_after_call, pairs_of_call, rounds_of_call, AllAccepted, heard_after, pairs_of, rounds_answered, listening_pairs, row_of, Stays}
use Rattle.theorems.specs.Settling.{Settling}
use Rattle.theorems.proofs.Settling.{settling}
use Rattle.theorems.specs.StableAssignments.{reported_paths, complete_stable}
use Rattle.theorems.specs.SettlingExamples.{table2_bytes, table7_bytes, zeros, leftover, slow_round, times, a_run, six_rounds, two_rounds, three_pairs, three_twice, Example, Computed}

-- an example by its parts
example : {t heard : List ℕ} {v k : ℕ} {calls : List Call} {rounds hops : ℕ} {shown : Path}
    → v < 64
    → k ≤ 63
    → refusal t ≡ none
    → get_or (row_of t v) 0 0 ≡ k
    → length heard ≡ 4096
    → heard_fault (paths_of t) heard ≡ none
    → AllAccepted t heard calls
    → (run (paths_of t) heard (pairs_of calls)).rounds ≡ rounds
    → (report t).hops ≡ hops
    → path_shown (row_of t v) ≡ shown
    → Example t heard v k calls rounds hops shown
example small most accepted stage long fine each counted longest path =
    record {
      given = record {
        table = accepted;
        row = record { vertex = small; stage = stage; is_stage = most };
        state = record { long = long; fine = fine };
        each = each;
      };
      counted = counted;
      longest = longest;
      path = path;
    }

-- everything that is found by computing
pub computed : Computed
unfolding refused_if refused_at ◌or_else◌ other_length schedule_bad first_bad_pair step_refusal run_refusal heard_after_step
    heard_after_run unless outside first_from any_below
    count_below those_below any_in first_in elem same max_below tabulate blocks padded fold_left record_at records rank_of
    hops_of path_of owner_of owned paths_below paths_of present longest next_hop rest first listens listens_at hops_bad vertex_bad
    unused_of filler_bad twice twice_bad last_bad owner_bad rank_due rank_bad path_bad in_record rule record_rules first_broken
    fault faulty first_bad bad_record too_long ragged refusal is_settled compatible at_start best judged stage settled_list settled
    enters is_quiet stages_from stages_until stage_count stage_of stuck_in follows from_vertex before_vertex closed_part lowest_of
    turned ring_from
    extends best_given place_in rank_in row_bytes row report row_at offset_of speaks byte_for path_for bad_at bad_byte heard_fault
    last_heard
    choice step standing_of standing movement pairs_in is_up is_down more offsets_of listening_offsets closes begun activated run
    raw_record record_bytes block_bytes table_bytes call_refusal heard_after_call pairs_of_call AllAccepted pairs_of zeros
    leftover slow_round times a_run six_rounds two_rounds three_pairs three_twice
    table2_bytes table7_bytes vertices path_shown heard_after rounds_answered rounds_of_call run_numbers verdict_of
computed =
    record {
      of_zeros = example (omega arith) (omega arith) refl refl refl refl (refl, (refl, (refl, tt))) refl refl refl;
      of_leftover = example (omega arith) (omega arith) refl refl refl refl (refl, (refl, (refl, tt))) refl refl refl;
      leftover_choice = refl;
      settled_choice = refl;
      answered = refl;
      all_settled = refl;
      of_two = example (omega arith) (omega arith) refl refl refl refl (refl, tt) refl refl refl;
      two_choice = refl;
      of_three = example (omega arith) (omega arith) refl refl refl refl (refl, tt) refl refl refl;
      three_choice = refl;
      three_parts = refl;
      three_covered = refl;
      of_none = example (omega arith) (omega arith) refl refl refl refl tt refl refl refl;
      none_choice = refl;
      one_pair = refl;
    }

-- the rounds that one run over the whole counts are rounds that it contains
contained : {t heard : List ℕ} {v k : ℕ} {calls : List Call} {rounds hops : ℕ} {shown : Path}
    → Example t heard v k calls rounds hops shown
    → Contains (listening_pairs t) rounds (pairs_of calls)
contained {t} {heard} {v} {k} {calls} x =
    subst (λ n. Contains (listening_pairs t) n (pairs_of calls)) x.counted (rounds_contained (paths_of t) heard (pairs_of calls))

settles : {t heard : List ℕ} {v k : ℕ} {calls : List Call} {hops : ℕ} {shown : Path}
    → Example t heard v k calls (k * hops) hops shown
    → Stays t (heard_after t heard calls) v
settles {t} {heard} {v} {k} {calls} x =
    settling t heard v k calls x.given
    (subst (λ n. Contains (listening_pairs t) (k * n) (pairs_of calls)) (sym x.longest) (contained x))

-- From zeros, after six rounds, router 3 of table 7 has what its row reports, for good ..
pub from_zeros : Stays table7_bytes (heard_after table7_bytes zeros six_rounds) 3
from_zeros = settles computed.of_zeros

-- .. and from the leftover as well.
pub from_leftover : Stays table7_bytes (heard_after table7_bytes leftover six_rounds) 3
from_leftover = settles computed.of_leftover

-- What table 7's rows report is a stable assignment, so it is the only one (complete_only).
pub table7_stable : Stable (paths_of table7_bytes) (present table7_bytes) (reported_paths table7_bytes)
table7_stable = complete_stable table7_bytes computed.of_zeros.given.table computed.all_settled

-- an example in which the choice is not what the row shows refutes the claim
refuted : (pairs : List ℕ → List ℕ) (enough : ℕ → ℕ → ℕ) {t heard : List ℕ} {v k : ℕ} {calls : List Call} {rounds hops : ℕ} {shown : Path}
    → Example t heard v k calls rounds hops shown
    → (chosen : Path)
    → choice (paths_of t) (heard_after t heard calls) v ≡ chosen
    → (length chosen ≡ length shown → ⊥)
    → Contains (pairs t) (enough k hops) (pairs_of calls)
    → Settling pairs enough
    → ⊥
refuted pairs enough {t} {heard} {v} {k} {calls} x chosen e differ rounds claim =
    let stays = claim t heard v k calls x.given
    (subst (λ n. Contains (pairs t) (enough k n) (pairs_of calls)) (sym x.longest) rounds) in
    differ (ap length (sym e ∙ stays.now.path ∙ x.path))

-- No number of rounds that is 0 for stage 1 and one hop is enough: table 2 ..
pub no_rounds_short : (enough : ℕ → ℕ → ℕ) → enough 1 1 ≡ 0 → Settling listening_pairs enough → ⊥
no_rounds_short enough e =
    refuted listening_pairs enough computed.of_none [] computed.none_choice (λ q. omega arith)
    (subst (λ n. Contains (listening_pairs table2_bytes) n (pairs_of [])) (sym e)
    (contains_none (listening_pairs table2_bytes) (pairs_of [])))

-- .. so neither is k times (L minus 1), nor (k minus 1) times L ..
pub fewer_hops_short : Settling listening_pairs (λ k hops. k * (hops - 1)) → ⊥
fewer_hops_short = no_rounds_short (λ k hops. k * (hops - 1)) refl

pub fewer_stages_short : Settling listening_pairs (λ k hops. (k - 1) * hops) → ⊥
fewer_stages_short = no_rounds_short (λ k hops. (k - 1) * hops) refl

-- .. nor any number that is at most 2 for stage 3 and two hops: table 7.
pub two_rounds_short : (enough : ℕ → ℕ → ℕ) → enough 3 2 ≤ 2 → Settling listening_pairs enough → ⊥
two_rounds_short enough h =
    refuted listening_pairs enough computed.of_two (3 ∷ 2 ∷ 0 ∷ []) computed.two_choice (λ q. omega arith)
    (contains_fewer (listening_pairs table7_bytes) (enough 3 2) 2 (pairs_of two_rounds) h (contained computed.of_two))

-- Rounds that leave out one listening pair are not enough: table 7 without (1, 0) ..
pub three_pairs_short : Settling (λ t. drop 1 (listening_pairs t)) (λ k hops. k * hops) → ⊥
three_pairs_short =
    let pairs = drop 1 (listening_pairs table7_bytes) in
    let round = pairs_in three_pairs in
    let covers = closes_all pairs (map offset_of round) computed.three_covered in
    refuted (λ t. drop 1 (listening_pairs t)) (λ k hops. k * hops) computed.of_three [] computed.three_choice
    (λ q. omega arith)
    (rw computed.three_parts (contains_more pairs 1 round round
    (contains_more pairs 0 [] round (contains_none pairs []) covers) covers))

-- of no pairs every schedule contains as many rounds as one likes
rounds_of_nothing : (n : ℕ) → Contains [] n (pairs_of [])
unfolding pairs_of
rounds_of_nothing zero = contains_none [] []
rounds_of_nothing (suc n) = contains_more [] n [] [] (rounds_of_nothing n) (λ k e. absurd (true≢ e (elem_nil k)))

-- .. and however many they are: table 2.
pub some_pairs_short : (enough : ℕ → ℕ → ℕ) → Settling (λ t. drop 1 (listening_pairs t)) enough → ⊥
some_pairs_short enough =
    refuted (λ t. drop 1 (listening_pairs t)) enough computed.of_none [] computed.none_choice (λ q. omega arith)
    (rw computed.one_pair (rounds_of_nothing (enough 1 1)))
