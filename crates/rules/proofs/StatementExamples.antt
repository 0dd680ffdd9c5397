-- What is no number but a statement: a stable assignment, and rounds that a schedule contains, where it does and where it does not.
use Prim.{tt}
use Rattle.std.specs.Prelude.{ℕ, zero, suc, ◌+◌, ◌≤◌, ◌≡◌, refl, ◌≢◌, Bool, true, false, List, [], ◌∷◌, ◌++◌, map, eqb}
use Rattle.std.proofs.Common.{arith, ap, ◌∙◌, eqb-true, ltb-true}
use Rattle.lists.specs.Search.{any_in, elem, same}
use Rattle.rules.specs.Table.{next_hop, rest, first}
use Rattle.rules.specs.Stable.{Stable, extends, best_given}
use Rattle.rules.specs.Machine.{Pair, offset_of}
use Rattle.rules.specs.Rounds.{Covers, Contains}
use Rattle.rules.specs.TriedExamples.{pair}
use Rattle.rules.specs.StatementExamples.{few, early, through2, pairs, times}

through2_others : (v : ℕ) → v ≢ 0 → early v ≡ true → through2 v ≡ best_given few through2 v
unfolding first rest next_hop same extends best_given
through2_others zero n h = absurd (n refl)
through2_others (suc zero) n h = refl
through2_others (suc (suc zero)) n h = refl
through2_others (suc (suc (suc w))) n h = absurd (omega (arith, ltb-true (suc (suc (suc w))) 3 h))

pub stable_through_2 : Stable few early through2
stable_through_2 = record { destination = refl; others = through2_others }

-- rounds of two pairs, (1,0) and (2,1), among which (3,2) is activated too

by_cases : {C : Type 0} (x : Bool) → (x ≡ true → C) → (x ≡ false → C) → C
by_cases true f g = f refl
by_cases false f g = g refl

not-true : false ≡ true → ⊥
not-true e = let z : ◌≡◌ {A = ℕ} 0 1 = ap (λ (b : Bool). elim b [ true ↦ 1 | false ↦ 0 ]) e in omega arith

covered : (s : List Pair) → elem 64 (map offset_of s) ≡ true → elem 129 (map offset_of s) ≡ true → Covers pairs s
unfolding elem any_in
covered s p q k h =
    by_cases (eqb k 64) (λ e. rw (eqb-true k 64 e) p)
    (λ e. by_cases (eqb k 129) (λ f. rw (eqb-true k 129 f) q) (λ f. absurd (not-true (rw (e, f) at h))))

-- (2,1) (1,0) is a round, and so is (1,0) (1,0) (2,1), whatever stands before, between and after
pub two_rounds_lem :
    Contains pairs 2 (pair 3 2 ∷ pair 2 1 ∷ pair 1 0 ∷ pair 3 2 ∷ pair 1 0 ∷ pair 1 0 ∷ pair 2 1 ∷ pair 3 2 ∷ [])
unfolding Contains offset_of elem any_in
two_rounds_lem =
    record {
      before = pair 3 2 ∷ pair 2 1 ∷ pair 1 0 ∷ pair 3 2 ∷ [];
      stretch = pair 1 0 ∷ pair 1 0 ∷ pair 2 1 ∷ [];
      after = pair 3 2 ∷ [];
      parts = refl;
      covered = covered (pair 1 0 ∷ pair 1 0 ∷ pair 2 1 ∷ []) refl refl;
      earlier =
          record {
            before = pair 3 2 ∷ [];
            stretch = pair 2 1 ∷ pair 1 0 ∷ [];
            after = pair 3 2 ∷ [];
            parts = refl;
            covered = covered (pair 2 1 ∷ pair 1 0 ∷ []) refl refl;
            earlier = tt;
          };
    }

times_append : (k : ℕ) (a b : List Pair) → times k (a ++ b) ≡ times k a + times k b
unfolding times
times_append k [] b = omega arith
times_append k (p ∷ a) b =
    by_cases (eqb k (offset_of p))
    (λ e. rw (e, times) (omega (arith, times_append k a b)))
    (λ e. rw (e, times) (times_append k a b))

times_some : (k : ℕ) (s : List Pair) → elem k (map offset_of s) ≡ true → 1 ≤ times k s
unfolding times elem any_in
times_some k [] e = absurd (not-true e)
times_some k (p ∷ s) e =
    by_cases (eqb k (offset_of p))
    (λ q. rw (q, times) (omega arith))
    (λ q. rw (q, times) (times_some k s (rw q at e)))

rounds_times : (k n : ℕ) (s : List Pair) → elem k pairs ≡ true → Contains pairs n s → n ≤ times k s
unfolding Contains
rounds_times k zero s h c = omega arith
rounds_times k (suc n) s h c =
    let b = c.before in
    let m = c.stretch in
    let e : times k s ≡ times k (b ++ m) + times k c.after = ap (times k) c.parts ∙ times_append k (b ++ m) c.after in
    omega (arith, times_append k b m, times_some k m (c.covered k h), rounds_times k n b h c.earlier)

-- one pair of each round may not serve the other, and none may be left out
pub no_two_rounds : Contains pairs 2 (pair 1 0 ∷ pair 2 1 ∷ pair 1 0 ∷ []) → ⊥
unfolding times offset_of elem any_in
no_two_rounds c =
    let e = rounds_times 129 2 (pair 1 0 ∷ pair 2 1 ∷ pair 1 0 ∷ []) refl c in
    let z : times 129 (pair 1 0 ∷ pair 2 1 ∷ pair 1 0 ∷ []) ≡ 1 = refl in
    omega arith

pub no_round : Contains pairs 1 (pair 1 0 ∷ pair 3 2 ∷ pair 1 0 ∷ []) → ⊥
unfolding times offset_of elem any_in
no_round c =
    let e = rounds_times 129 1 (pair 1 0 ∷ pair 3 2 ∷ pair 1 0 ∷ []) refl c in
    let z : times 129 (pair 1 0 ∷ pair 3 2 ∷ pair 1 0 ∷ []) ≡ 0 = refl in
    omega arith
