-- Laws of accepted calls one after the other: they activate their pairs, keep the heard state valid, and answer rounds
-- that are there.
use Prim.{tt}
use Prim.Native.Nat.{ℕ, suc, ◌+◌, ◌<◌, ◌≤◌}
use Rattle.std.specs.Prelude.{◌≡◌, length, get_or, take}
use Rattle.std.proofs.Math.Path.{refl, sym, ap}
use Rattle.std.proofs.Common.{◌∙◌}
use mathlib.Core.List.{List, [], ◌∷◌}
use Rattle.std.proofs.Math.Option.{none}
use native.Mathlib.Omega.{arith}
use Rattle.std.proofs.Math.Seq.{take-length}
use Rattle.lists.specs.Fold.{fold_left}
use Rattle.lists.specs.FoldLaws.{fold_append, fold_more}
use Rattle.rules.specs.Table.{paths_of, present}
use Rattle.rules.specs.Machine.{step}
use Rattle.rules.specs.Run.{run, pairs_in, listening_offsets}
use Rattle.rules.specs.Rounds.{Contains}
use Rattle.rules.specs.Refusals.{refusal}
use Rattle.rules.specs.Answers.{unless, heard_after_step, run_numbers, heard_after_run}
use Rattle.laws.specs.ShapeLaws.{shaped}
use Rattle.laws.specs.MachineLaws.{listening}
use Rattle.laws.specs.RunLaws.{no_pair, run_heard, run_length, run_valid}
use Rattle.laws.specs.RoundLaws.{rounds_contained, rounds_add, contains_none, contains_add}
use Rattle.laws.specs.AnswerLaws.{step_admitted, run_admitted}
use Rattle.theorems.specs.Claims.{Call, of_run, of_step, call_refusal, heard_after_call, pairs_of_call, rounds_of_call, AllAccepted, heard_after, pairs_of, heard_after_pairs, rounds_answered, Valid}
use Rattle.theorems.specs.LastingLaws.{InRange, range_append, after}
use Rattle.theorems.specs.CallLaws.{range_listening, Does}

-- what an accepted call does
does : (t heard : List ℕ) (c : Call) → call_refusal t heard c ≡ none → Does t heard c
unfolding call_refusal heard_after_call pairs_of_call rounds_of_call heard_after_run heard_after_step run_numbers unless fold_left
does t heard (of_run s sums) e =
    record {
      admitted = run_admitted t heard s sums e;
      after = rw e;
      rounds = rw e (rounds_contained (paths_of t) heard (pairs_in s));
      counted = rw e (omega arith);
    }
does t heard (of_step p) e =
    record {
      admitted = step_admitted t heard p e;
      after = ap (λ r. unless r (step (paths_of t) heard p) heard) e ∙ sym (run_heard (paths_of t) heard (p ∷ []));
      rounds = contains_none (listening_offsets (paths_of t)) (p ∷ []);
      counted = omega arith;
    }

-- accepted calls one after the other

module _ (t : List ℕ) where
  -- the state after them is that after their pairs
  pub all_after : (calls : List Call) (heard : List ℕ)
      → AllAccepted t heard calls
      → heard_after t heard calls ≡ after (paths_of t) heard (pairs_of calls)
  unfolding AllAccepted heard_after pairs_of fold_left
  all_after [] heard a = refl
  all_after (c ∷ cs) heard a =
      all_after cs (heard_after_call t heard c) a.1
      ∙ ap (λ (h : List ℕ). after (paths_of t) h (pairs_of cs))
      ((does t heard c a.0).after ∙ run_heard (paths_of t) heard (pairs_of_call c))
      ∙ sym (fold_append (step (paths_of t)) heard (pairs_of_call c) (pairs_of cs))

  -- the rounds that they answer are rounds of the whole
  pub all_rounds : (calls : List Call) (heard : List ℕ)
      → AllAccepted t heard calls
      → Contains (listening_offsets (paths_of t)) (rounds_answered t heard calls) (pairs_of calls)
  unfolding AllAccepted rounds_answered pairs_of
  all_rounds [] heard a = contains_none (listening_offsets (paths_of t)) []
  all_rounds (c ∷ cs) heard a =
      contains_add (listening_offsets (paths_of t)) (rounds_of_call t heard c)
      (rounds_answered t (heard_after_call t heard c) cs) (pairs_of_call c) (pairs_of cs)
      (does t heard c a.0).rounds (all_rounds cs (heard_after_call t heard c) a.1)

  -- and no more than one run over all their pairs counts
  pub all_counted : (calls : List Call) (heard : List ℕ)
      → AllAccepted t heard calls
      → rounds_answered t heard calls ≤ (run (paths_of t) heard (pairs_of calls)).rounds
  unfolding AllAccepted rounds_answered pairs_of
  all_counted [] heard a = omega arith
  all_counted (c ∷ cs) heard a =
      let next = heard_after_call t heard c in
      omega (
        arith,
        (does t heard c a.0).counted,
        all_counted cs next a.1,
        rounds_add (paths_of t) heard next (pairs_of_call c) (pairs_of cs),
      )

  -- of the states on the way each next one is one step further, ..
  pub pairs_next : (calls : List Call) (heard : List ℕ) (n : ℕ)
      → n < length (pairs_of calls)
      → heard_after_pairs t heard calls (suc n) ≡ step (paths_of t) (heard_after_pairs t heard calls n) (get_or (pairs_of calls) n no_pair)
  unfolding heard_after_pairs
  pairs_next calls heard n h =
      let s = pairs_of calls in
      let z : n + 1 ≡ suc n = omega arith in
      run_heard (paths_of t) heard (take (suc n) s) ∙ rw z at (fold_more (step (paths_of t)) heard s n no_pair h)
      ∙ ap (λ (x : List ℕ). step (paths_of t) x (get_or s n no_pair)) (sym (run_heard (paths_of t) heard (take n s)))

  -- .. and the last is that after all calls
  pub pairs_all : (calls : List Call) (heard : List ℕ)
      → AllAccepted t heard calls
      → heard_after_pairs t heard calls (length (pairs_of calls)) ≡ heard_after t heard calls
  unfolding heard_after_pairs
  pairs_all calls heard a =
      let s = pairs_of calls in
      run_heard (paths_of t) heard (take (length s) s) ∙ ap (after (paths_of t) heard) (take-length s) ∙ sym
      (all_after calls heard a)

module _ (t : List ℕ) (accepted : refusal t ≡ none) where
  -- their pairs are pairs of vertices
  pub all_range : (calls : List Call) (heard : List ℕ) → AllAccepted t heard calls → InRange (pairs_of calls)
  unfolding AllAccepted pairs_of InRange
  all_range [] heard a = tt
  all_range (c ∷ cs) heard a =
      range_append (pairs_of_call c) (pairs_of cs)
      (range_listening (paths_of t) (pairs_of_call c)
      (λ v u l. let r = listening (paths_of t) (present t) (shaped t accepted) v u l in
      record { listener = r.listener_small; speaker = r.speaker_small })
      (does t heard c a.0).admitted.listening)
      (all_range cs (heard_after_call t heard c) a.1)

  -- the state after them is valid where the first one was
  pub all_valid : (calls : List Call) (heard : List ℕ)
      → Valid t heard
      → AllAccepted t heard calls
      → Valid t (heard_after t heard calls)
  unfolding AllAccepted heard_after
  all_valid [] heard valid a = valid
  all_valid (c ∷ cs) heard valid a =
      let d = does t heard c a.0 in
      let s = pairs_of_call c in
      all_valid cs (heard_after_call t heard c)
      (rw d.after (record {
        long = run_length (paths_of t) heard s ∙ valid.long;
        fine = run_valid (paths_of t) (present t) (shaped t accepted) heard s d.admitted.listening valid.fine;
      }))
      a.1
