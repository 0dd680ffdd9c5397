-- What the collector holds after a check and some runs and steps, by the contracts of the entries for C alone: demand 3 over the
-- bytes that it was given, with the rounds that its pairs contain.
use Rattle.std.specs.Prelude.{ℕ, suc, ◌+◌, ◌*◌, ◌<◌, ◌≤◌, ◌≡◌, length, replicate, pos}
use Rattle.std.proofs.Common.{arith, sym, ◌∙◌, subst}
use Rattle.std.proofs.Math.Path.{refl, ap}
use mathlib.Core.List.{List, [], ◌∷◌, ◌++◌, map}
use Rattle.std.proofs.Math.Option.{none}
use Rattle.std.proofs.Math.ListN.{get_or}
use Rattle.rules.specs.Table.{paths_of}
use Rattle.rules.specs.Report.{row_at, path_shown, report}
use Rattle.rules.specs.Machine.{Pair}
use Rattle.rules.specs.Run.{pairs_in}
use Rattle.rules.specs.Refusals.{refusal}
use Rattle.rules.specs.Answers.{unless, run_numbers, heard_after_run, heard_after_step}
use Rattle.rules.specs.Entries.{word_bytes, number_bytes, rows_for_c, ring_for_c, check_numbers_for_c, heard_step_for_c, heard_run_for_c, run_numbers_for_c}
use Rattle.rules.specs.Rounds.{Contains}
use Rattle.laws.specs.EntryLaws.{number_at, number_told, code_none, check_same, step_same, step_zero, step_none, run_same, run_zero, run_none, run_any_sums}
use Rattle.laws.specs.AnswerLaws.{lent_right}
use Rattle.laws.specs.RefusalLaws.{rounds_few}
use Rattle.laws.specs.RoundLaws.{contains_fewer}
use Rattle.step_entry.specs.StepCalled.{StepCalled}
use Rattle.run_entry.specs.RunCalled.{RunCalled}
use Rattle.theorems.specs.Claims.{Call, of_run, of_step, call_refusal, heard_after_call, rounds_of_call, AllAccepted, heard_after, pairs_of_call, pairs_of, rounds_answered, listening_pairs, Valid, row_of, Given, Stays}
use Rattle.theorems.specs.LastingLaws.{after}
use Rattle.theorems.proofs.CallLaws.{all_after}
use Rattle.theorems.proofs.Settling.{settling, settling_heard, answered_contained}
use Rattle.collector_theorems.specs.Collected.{Seen, ran, stepped, AllCalled, heard_now_of, heard_left, rounds_in, rounds_seen, pairs_sent_by, pairs_sent, call_of, seen_of, Collected, accepted, same_rows, same_hops, enough as enough_of, Chooses as Chooses_of, IsHeard as IsHeard_of}

-- they have the pairs that it sent
sent_same : (rs : List Seen) → pairs_of (map call_of rs) ≡ pairs_sent rs
unfolding call_of pairs_of pairs_of_call pairs_sent pairs_sent_by
sent_same [] = refl
sent_same (ran s sums numbers heard_now sums_now numbers_now ∷ rs) = ap (λ (l : List Pair). pairs_in s ++ l) (sent_same rs)
sent_same (stepped p numbers heard_now numbers_now ∷ rs) = ap (λ (l : List Pair). p ∷ l) (sent_same rs)

module _ (t : List ℕ) where
  -- What an entry's contract says of it as a call.
  record AsCall (heard : List ℕ) (r : Seen) : Type 0 where
    accepted : call_refusal t heard (call_of r) ≡ none
    after : heard_after_call t heard (call_of r) ≡ heard_now_of r
    rounds : rounds_in r ≡ rounds_of_call t heard (call_of r)

  as_run : (heard s sums numbers heard_now sums_now numbers_now : List ℕ)
      → RunCalled t heard s sums numbers 0 heard_now sums_now numbers_now
      → AsCall heard (ran s sums numbers heard_now sums_now numbers_now)
  unfolding call_of call_refusal heard_after_call heard_now_of rounds_of_call rounds_in heard_run_for_c heard_after_run run_numbers_for_c number_bytes unless
  as_run heard s sums numbers heard_now sums_now numbers_now called =
      let e = run_zero t heard s sums numbers (sym called.code) in
      let f = run_none t heard s sums numbers e in
      let told : numbers_now ≡ word_bytes 8 (run_numbers t heard s (replicate 64 (pos 0))) = called.numbers ∙ rw e in
      record {
        accepted = f;
        after = rw f (sym (called.heard ∙ rw e));
        rounds = ap (λ (l : List ℕ). number_at l 4) told
            ∙ number_told 8 (run_numbers t heard s (replicate 64 (pos 0))) 4 (omega arith) (omega (arith, rounds_few t heard s (replicate 64 (pos 0)) f));
      }

  as_step : (heard : List ℕ) (p : Pair) (numbers heard_now numbers_now : List ℕ)
      → StepCalled t heard p numbers 0 heard_now numbers_now
      → AsCall heard (stepped p numbers heard_now numbers_now)
  unfolding call_of call_refusal heard_after_call heard_now_of rounds_of_call rounds_in heard_step_for_c heard_after_step unless
  as_step heard p numbers heard_now numbers_now called =
      let e = step_zero t heard p numbers (sym called.code) in
      let f = step_none t heard p numbers e in
      record { accepted = f; after = rw f (sym (called.heard ∙ rw e)); rounds = refl }

  -- What the contracts say of all of them.
  pub record AsCalls (heard : List ℕ) (rs : List Seen) : Type 0 where
    pub accepted : AllAccepted t heard (map call_of rs)
    pub left : heard_after t heard (map call_of rs) ≡ heard_left heard rs
    pub rounds : rounds_seen rs ≡ rounds_answered t heard (map call_of rs)

  more : (heard : List ℕ) (r : Seen) (rs : List Seen) → AsCall heard r → AsCalls (heard_now_of r) rs → AsCalls heard (r ∷ rs)
  unfolding AllAccepted heard_after heard_left rounds_answered rounds_seen
  more heard r rs one rest =
      record {
        accepted = (one.accepted, rw one.after rest.accepted);
        left = ap (λ (h : List ℕ). heard_after t h (map call_of rs)) one.after ∙ rest.left;
        rounds = omega (arith, one.rounds, rest.rounds, ap (λ (h : List ℕ). rounds_answered t h (map call_of rs)) one.after);
      }

  pub as_calls : (heard : List ℕ) (rs : List Seen) → AllCalled t heard rs → AsCalls heard rs
  unfolding AllCalled AllAccepted heard_after heard_left rounds_answered rounds_seen heard_now_of
  as_calls heard [] a = record { accepted = a; left = refl; rounds = refl }
  as_calls heard (ran s sums numbers heard_now sums_now numbers_now ∷ rs) a =
      more heard _ rs (as_run heard s sums numbers heard_now sums_now numbers_now a.0) (as_calls heard_now rs a.1)
  as_calls heard (stepped p numbers heard_now numbers_now ∷ rs) a =
      more heard _ rs (as_step heard p numbers heard_now numbers_now a.0) (as_calls heard_now rs a.1)

  -- The rounds that the runs answered are rounds of the pairs that it sent.
  pub seen_contained : (heard : List ℕ) (rs : List Seen) → AllCalled t heard rs → Contains (listening_pairs t) (rounds_seen rs) (pairs_sent rs)
  seen_contained heard rs a =
      let all = as_calls heard rs a in
      rw (all.rounds, ← (sent_same rs)) (answered_contained t heard (map call_of rs) all.accepted)

-- what the collector sees of accepted calls are calls on the heard state that the one before has left
pub all_seen : (t heard : List ℕ) (calls : List Call) → AllAccepted t heard calls → AllCalled t heard (seen_of t heard calls)
unfolding AllAccepted AllCalled seen_of call_refusal heard_after_call heard_after_run heard_after_step heard_run_for_c heard_step_for_c unless
all_seen t heard [] a = a
all_seen t heard (of_run s sums ∷ cs) a =
    let f = run_same t heard s (replicate 256 0) (replicate 32 0) refl refl ∙ run_any_sums t heard s sums (replicate 64 (pos 0)) refl a.0 in
    let same : heard_run_for_c t heard s (replicate 256 0) (replicate 32 0) ≡ heard_after_run t heard s sums = rw (f, a.0) in (
      record { code = sym (code_none _ f); heard = refl; sums = refl; numbers = refl },
      all_seen t (heard_run_for_c t heard s (replicate 256 0) (replicate 32 0)) cs (subst (λ (h : List ℕ). AllAccepted t h cs) (sym same) a.1),
    )
all_seen t heard (of_step p ∷ cs) a =
    let f = step_same t heard p (replicate 32 0) refl ∙ a.0 in
    let same : heard_step_for_c t heard p (replicate 32 0) ≡ heard_after_step t heard p = rw (f, a.0) in (
      record { code = sym (code_none _ f); heard = refl; numbers = refl },
      all_seen t (heard_step_for_c t heard p (replicate 32 0)) cs (subst (λ (h : List ℕ). AllAccepted t h cs) (sym same) a.1),
    )

-- and it is the same pairs
pub seen_pairs : (t heard : List ℕ) (calls : List Call) → pairs_sent (seen_of t heard calls) ≡ pairs_of calls
unfolding seen_of pairs_sent pairs_sent_by pairs_of pairs_of_call
seen_pairs t heard [] = refl
seen_pairs t heard (of_run s sums ∷ cs) = ap (λ (l : List Pair). pairs_in s ++ l) (seen_pairs t (heard_run_for_c t heard s (replicate 256 0) (replicate 32 0)) cs)
seen_pairs t heard (of_step p ∷ cs) = ap (λ (l : List Pair). p ∷ l) (seen_pairs t (heard_step_for_c t heard p (replicate 32 0)) cs)

-- and they leave the same heard state
pub seen_left : (t heard : List ℕ) (calls : List Call) → AllAccepted t heard calls → heard_left heard (seen_of t heard calls) ≡ heard_after t heard calls
seen_left t heard calls a =
    let rs = seen_of t heard calls in
    let all = as_calls t heard rs (all_seen t heard calls a) in
    sym all.left ∙ all_after t (map call_of rs) heard all.accepted
    ∙ ap (after (paths_of t) heard) (sent_same rs ∙ seen_pairs t heard calls) ∙ sym (all_after t calls heard a)

-- it holds so much of every accepted table, every valid heard state and every history of accepted calls
pub collectable : (t heard : List ℕ) (calls : List Call)
    → refusal t ≡ none
    → Valid t heard
    → AllAccepted t heard calls
    → (rows ring numbers : List ℕ)
    → length rows ≡ 1024
    → length ring ≡ 64
    → length numbers ≡ 32
    → Collected t rows ring numbers (rows_for_c t rows ring numbers) (ring_for_c t rows ring numbers) (check_numbers_for_c t rows ring numbers) heard (seen_of t heard calls)
collectable t heard calls accepted valid each rows ring numbers d e f =
    let none_left = check_same t rows ring numbers f ∙ lent_right t rows ring d e ∙ accepted in
    record {
      check = record { code = sym (code_none _ none_left); rows = refl; ring = refl; numbers = refl };
      state = valid;
      calls = all_seen t heard calls each;
    }

module _ (t rows ring numbers rows_now ring_now numbers_now heard : List ℕ) (rs : List Seen)
    (held : Collected t rows ring numbers rows_now ring_now numbers_now heard rs) where
  rows_same : rows_now ≡ (report t).rows
  rows_same = same_rows t rows ring numbers rows_now ring_now numbers_now heard rs held

  hops_same : number_at numbers_now 4 ≡ (report t).hops
  hops_same = same_hops t rows ring numbers rows_now ring_now numbers_now heard rs held

  -- a router, whose row reports a stage

  module _ (v : ℕ) (vertex : v < 64) (is_stage : get_or (row_at rows_now v) 0 0 ≤ 63) where
    abbrev enough : ℕ
    enough = enough_of t rows ring numbers rows_now ring_now numbers_now heard rs held v vertex is_stage

    abbrev Chooses : Type 0
    Chooses = Chooses_of t rows ring numbers rows_now ring_now numbers_now heard rs held v vertex is_stage

    abbrev IsHeard : Type 0
    IsHeard = IsHeard_of t rows ring numbers rows_now ring_now numbers_now heard rs held v vertex is_stage

    enough_is : enough ≡ get_or (row_of t v) 0 0 * (report t).hops
    enough_is =
        ap (λ (l : List ℕ). get_or (row_at l v) 0 0 * number_at numbers_now 4) rows_same ∙ ap (λ n. get_or (row_of t v) 0 0 * n) hops_same

    -- rounds of the pairs sent are rounds of the calls
    as_sent : {n : ℕ}
        → Contains (listening_pairs t) n (pairs_sent rs)
        → (m : ℕ)
        → m ≤ n
        → Contains (listening_pairs t) m (pairs_of (map call_of rs))
    as_sent {n} rounds m h = contains_fewer (listening_pairs t) m n _ h (rw (← (sent_same rs)) at rounds)

    given : Given t heard v (get_or (row_of t v) 0 0) (map call_of rs)
    given =
        record {
          table = accepted t rows ring numbers rows_now ring_now numbers_now heard rs held;
          row = record { vertex = vertex; stage = refl; is_stage = rw rows_same at is_stage };
          state = held.state;
          each = (as_calls t heard rs held.calls).accepted;
        }

    -- If the pairs that the collector sent contain so many rounds, be it in runs, over cuts between calls or in single steps, the choice is
    -- what the row shows, and stays so.
    pub collected_contained : Contains (listening_pairs t) enough (pairs_sent rs) → Chooses
    collected_contained rounds =
        let all = as_calls t heard rs held.calls in
        let stays = settling t heard v _ (map call_of rs) given (as_sent rounds _ (omega (arith, enough_is))) in
        let here : Stays t (heard_left heard rs) v = rw all.left at stays in
        (here.now.path ∙ ap (λ (rows : List ℕ). path_shown (row_at rows v)) (sym rows_same), here)

    -- With one round more the collector sees it in the heard state.
    pub collected_contained_heard : Contains (listening_pairs t) (suc enough) (pairs_sent rs) → IsHeard
    collected_contained_heard rounds z w l later called =
        let first = as_calls t heard rs held.calls in
        let all = as_calls t (heard_left heard rs) later called in
        let holds = settling_heard t heard v _ (map call_of rs) given (as_sent rounds _ (omega (arith, enough_is))) z w l (map call_of later) in
        ap (λ (x : List ℕ). get_or x (64 * w + v) 0) (sym all.left) ∙ (rw first.left at holds) all.accepted
        ∙ ap (λ (rows : List ℕ). get_or (row_at rows v) 1 0) (sym rows_same)
