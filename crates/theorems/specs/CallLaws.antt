-- Laws of accepted calls one after the other: they activate their pairs, keep the heard state valid, and answer rounds
-- that are there. What rests on what an accepted call does stands in proofs/.
use Prim.{tt}
use Prim.Native.Nat.{ℕ, suc, ◌<◌, ◌≤◌}
use Rattle.std.specs.Prelude.{◌≡◌, true, length, get_or}
use mathlib.Core.List.{List, [], ◌∷◌}
use Rattle.std.proofs.Math.Option.{none}
use native.Mathlib.Omega.{arith}
use Rattle.lists.specs.Fold.{fold_left}
use Rattle.rules.specs.Table.{Path, paths_of, listens}
use Rattle.rules.specs.Machine.{Pair}
use Rattle.rules.specs.Run.{run, listening_offsets}
use Rattle.rules.specs.Rounds.{Contains}
use Rattle.rules.specs.Answers.{first_bad_pair}
use Rattle.laws.specs.RunLaws.{no_pair, all_listen, run_heard}
use Rattle.laws.specs.AnswerLaws.{Admitted}
use Rattle.theorems.specs.Claims.{Call, heard_after_call, pairs_of_call, rounds_of_call, heard_after_pairs}
use Rattle.theorems.specs.LastingLaws.{Vertices, InRange}

-- the pairs of a schedule without a bad pair are pairs of vertices
pub range_listening : (paths : ℕ → List Path) (s : List Pair)
    → ((v u : ℕ) → listens paths v u ≡ true → Vertices (record { listener = v; speaker = u }))
    → first_bad_pair paths s ≡ none
    → InRange s
unfolding InRange
range_listening paths s small e =
    all s (λ k h. small (get_or s k no_pair).listener (get_or s k no_pair).speaker (all_listen paths s no_pair e k h))
  where
    all : (s : List Pair) → ((k : ℕ) → k < length s → Vertices (get_or s k no_pair)) → InRange s
    all [] f = tt
    all (p ∷ s) f = (f 0 (omega arith), all s (λ k h. f (suc k) (omega arith)))

-- What an accepted call does.
pub record Does (t heard : List ℕ) (c : Call) : Type 0 where
  pub admitted : Admitted t heard (pairs_of_call c)
  pub after : heard_after_call t heard c ≡ (run (paths_of t) heard (pairs_of_call c)).heard
  pub rounds : Contains (listening_offsets (paths_of t)) (rounds_of_call t heard c) (pairs_of_call c)
  pub counted : rounds_of_call t heard c ≤ (run (paths_of t) heard (pairs_of_call c)).rounds

-- accepted calls one after the other

module _ (t : List ℕ) where
  -- of the states on the way the first is that at the beginning
  pub pairs_none : (calls : List Call) (heard : List ℕ) → heard_after_pairs t heard calls 0 ≡ heard
  unfolding heard_after_pairs fold_left
  pairs_none calls heard = run_heard (paths_of t) heard []
