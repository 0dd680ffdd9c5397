-- A collector that makes single steps alone: they are accepted, and no run answers a round. What they settle stands in proofs/.
use Prim.{tt}
use Rattle.std.specs.Prelude.{ℕ, suc, ◌<◌, ◌≤◌, ◌≡◌, refl, true, List, [], ◌∷◌, map, length, get_or, replicate}
use Rattle.std.proofs.Common.{arith, ap}
use Rattle.std.proofs.Math.Option.{none}
use Rattle.lists.specs.Search.{those_below, any_in, first_in}
use Rattle.rules.specs.Table.{record_at, records, rank_of, hops_of, path_of, owner_of, owned, paths_below, paths_of, next_hop, listens}
use Rattle.rules.specs.Report.{row_at}
use Rattle.rules.specs.Machine.{Pair}
use Rattle.rules.specs.Run.{pairs_in}
use Rattle.rules.specs.Rounds.{Contains}
use Rattle.rules.specs.Refusals.{refusal}
use Rattle.rules.specs.Answers.{first_bad_pair, heard_after_step}
use Rattle.rules.specs.Entries.{heard_step_for_c}
use Rattle.rules.specs.TriedExamples.{raw_record, record_bytes, block_bytes, table_bytes}
use Rattle.laws.specs.EntryLaws.{number_at}
use Rattle.laws.specs.AnswerLaws.{step_accepted}
use Rattle.laws.specs.RunLaws.{no_pair, all_listen}
use Rattle.theorems.specs.Claims.{Call, of_step, call_refusal, heard_after_call, AllAccepted, heard_after, pairs_of_call, pairs_of, Valid, Stays}
use Rattle.theorems.proofs.CallLaws.{all_valid}
use Rattle.theorems.specs.SettlingExamples.{table7_bytes, leftover, slow_round, times, a_run, six_rounds}
use Rattle.collector_theorems.specs.Collected.{Seen, rounds_in, rounds_seen, pairs_sent, seen_of, heard_left, Collected}

-- In every valid heard state the steps of a schedule without a bad pair are accepted, one after the other.
pub steps_accepted : (t heard : List ℕ) (s : List Pair)
    → refusal t ≡ none
    → Valid t heard
    → first_bad_pair (paths_of t) s ≡ none
    → AllAccepted t heard (map of_step s)
unfolding AllAccepted call_refusal heard_after heard_after_call
steps_accepted t heard s accepted valid e = each s heard valid (all_listen (paths_of t) s no_pair e)
  where
    each : (s : List Pair) (heard : List ℕ)
        → Valid t heard
        → ((k : ℕ) → k < length s → listens (paths_of t) (get_or s k no_pair).listener (get_or s k no_pair).speaker ≡ true)
        → AllAccepted t heard (map of_step s)
    each [] heard valid f = tt
    each (p ∷ s) heard valid f =
        let one = step_accepted t heard p valid.long accepted valid.fine (f 0 (omega arith)) in (
          one,
          each s (heard_after_step t heard p) (all_valid t accepted (of_step p ∷ []) heard valid (one, tt)) (λ k h. f (suc k) (omega arith)),
        )

pub steps_pairs : (s : List Pair) → pairs_of (map of_step s) ≡ s
unfolding pairs_of pairs_of_call
steps_pairs [] = refl
steps_pairs (p ∷ s) = ap (λ (l : List Pair). p ∷ l) (steps_pairs s)

-- They answer no round.
pub steps_answer_none : (t heard : List ℕ) (s : List Pair) → rounds_seen (seen_of t heard (map of_step s)) ≡ 0
unfolding seen_of rounds_seen rounds_in
steps_answer_none t heard [] = refl
steps_answer_none t heard (p ∷ s) = omega (arith, steps_answer_none t (heard_step_for_c t heard p (replicate 32 0)) s)

-- six rounds of table 7, each of their 24 pairs by a call of its own, and what the collector sees of that from the leftover
unfoldable pub by_steps : List Call
by_steps = map of_step (pairs_of six_rounds)

unfoldable pub seen_by_steps : List Seen
seen_by_steps = seen_of table7_bytes leftover by_steps

-- all of them are listening pairs
pub all_right : first_bad_pair (paths_of table7_bytes) (pairs_of six_rounds) ≡ none
unfolding first_bad_pair first_in any_in those_below record_at records rank_of hops_of path_of owner_of owned paths_below paths_of next_hop listens raw_record record_bytes block_bytes table_bytes
    table7_bytes pairs_in pairs_of pairs_of_call slow_round times a_run six_rounds
all_right = refl

-- What is claimed for C of pairs sent that contain so many rounds of some pairs: both are left open, as in Settling, so that other rounds and
-- fewer of them can be refuted.
abbrev pub Collecting : (List ℕ → List ℕ) → (ℕ → ℕ → ℕ) → Type 0
Collecting pairs enough =
    (t rows ring numbers rows_now ring_now numbers_now heard : List ℕ) (rs : List Seen)
    → Collected t rows ring numbers rows_now ring_now numbers_now heard rs
    → (v : ℕ)
    → v < 64
    → get_or (row_at rows_now v) 0 0 ≤ 63
    → Contains (pairs t) (enough (get_or (row_at rows_now v) 0 0) (number_at numbers_now 4)) (pairs_sent rs)
    → Stays t (heard_left heard rs) v
