-- Laws for the published examples: whether an assignment is stable is a test, all stable assignments are found by
-- trying every list of paths, a heard state that no step at a pair of vertices changes is one in which the machine
-- rests, and two pairs that hear each other cannot both hold what the other does not choose.
use Prim.Native.Nat.{ℕ, zero, suc, ◌<◌, ◌≤◌, ◌+◌, ◌*◌}
use Rattle.std.specs.Prelude.{◌≡◌, refl, ◌≢◌, ◌⊎◌, Bool, true, false, ◌&&◌, ◌||◌, length, eqb, ltb}
use Rattle.std.proofs.Math.Path.{sym, ap, subst}
use Rattle.std.proofs.Common.{◌∙◌, ⊎_elim, eqb-true, lt-ltb}
use Rattle.std.proofs.Math.Bool.{not}
use mathlib.Core.List.{List, [], ◌∷◌, ◌++◌}
use Rattle.std.proofs.Math.Option.{Option, none}
use native.Mathlib.Omega.{arith}
use Rattle.std.proofs.Math.ListN.{get_or}
use Rattle.std.proofs.lemmas.Bool.{not-true, not-false}
use Rattle.lists.specs.Search.{any_below, any_in, first_in, same}
use Rattle.lists.specs.SearchLaws.{none_below, all_fail}
use Rattle.lists.specs.ListLaws.{same_eq, same_refl, none_at, some_at, first_in_none}
use Rattle.lists.specs.FillLaws.{tabulate_none, tabulate_suc, tabulate_at, is_tabulate}
use Rattle.lists.specs.Fold.{fold_left}
use Rattle.lists.specs.NumberLaws.{told_apart, told_first, told_second}
use Rattle.lists.specs.Tests.{by_equal, by_less, by_option, true≢, and_parts, both}
use Rattle.rules.specs.Table.{Path, next_hop, paths_of, present}
use Rattle.rules.specs.Stable.{Stable, extends, best_given}
use Rattle.rules.specs.Machine.{Pair, offset_of, byte_for, choice, step}
use Rattle.rules.specs.Refusals.{refusal}
use Rattle.rules.specs.Answers.{unless, step_refusal, heard_after_step}
use Rattle.laws.specs.ShapeLaws.{shaped}
use Rattle.laws.specs.PathLaws.{Stands, first_among}
use Rattle.laws.specs.RunLaws.{all_listen}
use Rattle.laws.specs.MachineLaws.{best_same, speaker_present, listening, step_length, step_here, step_there}
use Rattle.laws.specs.AnswerLaws.{step_admitted}
use Rattle.theorems.specs.Claims.{Valid, Rests, stored_byte, storing}
use Rattle.theorems.specs.LastingLaws.{Vertices, InRange, after}
use Rattle.theorems.specs.EnteringLaws.{next_listens}
use Rattle.theorems.specs.Published.{assigned, routers_paths, pair_at, changes_at, some_step_changes}

-- An accepted table whose routers are 1 to n.
pub record Routers (t : List ℕ) (n : ℕ) : Type 0 where
  pub accepted : refusal t ≡ none
  pub others : any_below (λ v. present t v && ltb n v) 64 ≡ false
  pub all : any_below (λ k. not (present t (suc k))) n ≡ false

-- whether one of the routers 1 to n is assigned another path than the best that its next hops' paths allow
unfoldable pub unstable : List ℕ → ℕ → (ℕ → Path) → Bool
unstable t n a = any_below (λ k. not (same (a (suc k)) (best_given (paths_of t) a (suc k)))) n

-- whether a test holds of every list of n paths, for the routers 1 to n, that has one of its own paths or none for each
unfoldable pub every_draw : (ℕ → List Path) → ℕ → (List Path → Bool) → Bool
every_draw paths zero test = test []
every_draw paths (suc n) test =
    every_draw paths n (λ ps. not (any_in (λ p. not (test (ps ++ p ∷ []))) ([] ∷ paths (suc n))))

-- if so, it holds of every assignment that gives each of these routers one of its paths or none
every_drawn : (paths : ℕ → List Path) (a : ℕ → Path) (n : ℕ) (test : List Path → Bool)
    → ((k : ℕ) → k < n → (a (suc k) ≡ []) ⊎ Stands (paths (suc k)) (a (suc k)))
    → every_draw paths n test ≡ true
    → test (routers_paths n a) ≡ true
unfolding every_draw routers_paths
every_drawn paths a zero test drawn e = rw (tabulate_none (λ k. a (suc k))) e
every_drawn paths a (suc n) test drawn e =
    let own = [] ∷ paths (suc n) in
    let before = routers_paths n a in
    let all = none_at (λ p. not (test (before ++ p ∷ []))) own []
    (not-true _ (every_drawn paths a n _ (λ k h. drawn k (omega arith)) e))
    in
    let passes : (k : ℕ) → k < length own → get_or own k [] ≡ a (suc n) → test (before ++ a (suc n) ∷ []) ≡ true =
    λ k h q. not-false _ (subst (λ p. not (test (before ++ p ∷ [])) ≡ false) q (all k h))
    in
    rw (tabulate_suc (λ k. a (suc k)) n)
    (⊎_elim (λ q. passes 0 (omega arith) (sym q)) (λ s. passes (suc s.place) (omega (arith, s.under)) s.there)
    (drawn n (omega arith)))

-- whether two lists of paths are the same
unfoldable pub same_paths : List Path → List Path → Bool
same_paths [] [] = true
same_paths [] (q ∷ qs) = false
same_paths (p ∷ ps) [] = false
same_paths (p ∷ ps) (q ∷ qs) = same p q && same_paths ps qs

same_paths_lem : (ps qs : List Path) → same_paths ps qs ≡ true → ps ≡ qs
unfolding same_paths
same_paths_lem [] [] e = refl
same_paths_lem [] (q ∷ qs) e = absurd (true≢ {b = false} e refl)
same_paths_lem (p ∷ ps) [] e = absurd (true≢ {b = false} e refl)
same_paths_lem (p ∷ ps) (q ∷ qs) e =
    let parts = and_parts (same p q) (same_paths ps qs) e in
    rw (same_eq p q parts.0, same_paths_lem ps qs parts.1)

-- A stable state, as the paths of the routers: a stable assignment, and the heard state that stores it rests.
pub record StableState (t : List ℕ) (ps : List Path) : Type 0 where
  pub stable : Stable (paths_of t) (present t) (assigned ps)
  pub rests : Rests t (storing t (assigned ps))

-- every list of the routers' paths is not stable or is named
abbrev pub Only : List ℕ → ℕ → List (List Path) → Type 0
Only t n named = every_draw (paths_of t) n (λ ps. unstable t n (assigned ps) || any_in (same_paths ps) named) ≡ true

module _ (t : List ℕ) (n : ℕ) (routers : Routers t n) where
  -- a present vertex is at most n, and 1 to n are present
  pub present_most : (v : ℕ) → present t v ≡ true → v ≤ n
  present_most v e =
      by_less n v
      (λ h. absurd (true≢ (both (present t v) (ltb n v) e (lt-ltb n v h))
      (none_below (λ u. present t u && ltb n u) 64 routers.others v ((shaped t routers.accepted).range v e))))
      (λ h. h)

  router_present : (k : ℕ) → k < n → present t (suc k) ≡ true
  router_present k h = not-false _ (none_below (λ j. not (present t (suc j))) n routers.all k h)

  -- the paths of a stable assignment pass the test; that what passes it is stable stands in proofs/

  module _ (a : ℕ → Path) (stable : Stable (paths_of t) (present t) a) where
    routers_same : (v : ℕ) → v ≤ n → assigned (routers_paths n a) v ≡ a v
    unfolding assigned routers_paths
    routers_same zero h = sym stable.destination
    routers_same (suc k) h = tabulate_at (λ j. a (suc j)) n k [] h

    stable_passes : unstable t n (assigned (routers_paths n a)) ≡ false
    unfolding unstable
    stable_passes =
        let paths = paths_of t in
        let b = assigned (routers_paths n a) in
        all_fail (λ k. not (same (b (suc k)) (best_given paths b (suc k)))) n
        (λ k h. let e : b (suc k) ≡ best_given paths b (suc k) =
        routers_same (suc k) h ∙ stable.others (suc k) (λ z. omega arith) (router_present k h)
        ∙ best_same paths a b (suc k)
        (λ j l. let u = next_hop (get_or (paths (suc k)) j []) in
        let named = speaker_present paths (present t) (shaped t routers.accepted) (suc k) u
        (next_listens paths (suc k) j l) in
        sym (routers_same u (present_most u named)))
        in
        rw (← e) (ap not (same_refl (b (suc k)))))

    stable_drawn : (k : ℕ) → k < n → (a (suc k) ≡ []) ⊎ Stands (paths_of t (suc k)) (a (suc k))
    unfolding best_given
    stable_drawn k h =
        rw (stable.others (suc k) (λ z. omega arith) (router_present k h))
        (first_among (extends a) (paths_of t (suc k)))

    -- so the paths of every stable assignment are named
    pub stable_named : (named : List (List Path))
        → Only t n named
        → (k : ℕ) × (k < length named) × (routers_paths n a ≡ get_or named k [])
    stable_named named e =
        let drawn = every_drawn (paths_of t) a n _ stable_drawn e in
        let found = some_at (same_paths (routers_paths n a)) named [] (rw stable_passes at drawn) in
        (found.0, found.1, same_paths_lem (routers_paths n a) (get_or named found.0 []) found.2)

-- a state that no step at a pair of vertices changes is changed by no accepted step
untouched : (t heard : List ℕ)
    → some_step_changes t heard ≡ false
    → (p : Pair)
    → step_refusal t heard p ≡ none
    → heard_after_step t heard p ≡ heard
unfolding some_step_changes changes_at pair_at
untouched t heard e p q =
    let admitted = step_admitted t heard p q in
    let l = all_listen (paths_of t) (p ∷ []) p admitted.listening 0 (omega arith) in
    let r = listening (paths_of t) (present t) (shaped t admitted.accepted) p.listener p.speaker l in
    let here = none_below (changes_at t heard) 4096 e (64 * p.listener + p.speaker)
    (omega (arith, r.listener_small, r.speaker_small)) in
    rw (told_first p.listener p.speaker r.speaker_small, told_second p.listener p.speaker r.speaker_small)
    at (same_eq _ _ (not-false _ here))

-- A valid state that no step at a pair of vertices changes is one that no step changes, be it accepted or refused ..
pub untouched_rests : (t heard : List ℕ) → Valid t heard → some_step_changes t heard ≡ false → Rests t heard
unfolding heard_after_step unless
untouched_rests t heard valid e =
    record { valid = valid; unchanged = λ p. by_option (step_refusal t heard p) (untouched t heard e p) (λ r q. rw q) }

-- .. and the other way round.
pub rests_untouched : (t heard : List ℕ) → Rests t heard → some_step_changes t heard ≡ false
unfolding some_step_changes changes_at
rests_untouched t heard rests =
    all_fail (changes_at t heard) 4096 (λ k h. rw (rests.unchanged (pair_at k)) (ap not (same_refl heard)))

-- whether some byte of a heard state is not what the state that stores an assignment has there
unfoldable pub other_stored : List ℕ → (ℕ → Path) → List ℕ → Option ℕ
other_stored t a heard = first_in (λ k b. not (eqb b (stored_byte t a k))) 0 heard

-- a heard state that stores the paths of the routers, as a test
pub record Stores (t : List ℕ) (ps : List Path) (heard : List ℕ) : Type 0 where
  pub long : length heard ≡ 4096
  pub same : other_stored t (assigned ps) heard ≡ none

pub is_storing : (t heard : List ℕ) (ps : List Path) → Stores t ps heard → heard ≡ storing t (assigned ps)
unfolding other_stored storing
is_storing t heard ps stores =
    let a = assigned ps in
    is_tabulate (stored_byte t a) 0 4096 heard stores.long
    (λ k h. let z : 0 + k ≡ k = omega arith in
    let found = first_in_none (λ j b. not (eqb b (stored_byte t a j))) heard 0 0 stores.same k
    (omega (arith, stores.long)) in
    eqb-true (get_or heard k 0) (stored_byte t a k) (not-false _ (rw z at found)))

-- and it rests where the paths are a stable state
pub stored_rests : (t heard : List ℕ) (ps : List Path) → StableState t ps → Stores t ps heard → Rests t heard
stored_rests t heard ps state stores = subst (Rests t) (sym (is_storing t heard ps stores)) state.rests

-- v and u listen to each other, and who has heard the one byte does not choose the other: then no step makes both pairs
-- hold these bytes

module _ (paths : ℕ → List Path) (v u b c : ℕ) (small : v < 64) (smaller : u < 64) (apart : v ≢ u) where
  abbrev pub Crossed : List ℕ → Type 0
  Crossed heard = (get_or heard (64 * v + u) 0 ≡ b) × (get_or heard (64 * u + v) 0 ≡ c)

  module _ (one : (heard : List ℕ) → get_or heard (64 * v + u) 0 ≡ b → byte_for paths v (choice paths heard v) ≡ c → ⊥)
      (other : (heard : List ℕ) → get_or heard (64 * u + v) 0 ≡ c → byte_for paths u (choice paths heard u) ≡ b → ⊥) where
    step_crosses : (heard : List ℕ) (p : Pair)
        → Vertices p
        → length heard ≡ 4096
        → Crossed (step paths heard p)
        → Crossed heard
    unfolding offset_of
    step_crosses heard p r long now =
        let kept : (k : ℕ) → k ≢ offset_of p → get_or heard k 0 ≡ get_or (step paths heard p) k 0 = λ k d. sym
        (step_there paths heard p k d) in
        let new : byte_for paths p.speaker (choice paths heard p.speaker) ≡ get_or (step paths heard p) (offset_of p) 0 =
        sym (step_here paths heard p (omega (arith, r.listener, r.speaker, long)))
        in
        by_equal (64 * v + u) (offset_of p)
        (λ e. let told = told_apart v u p.listener p.speaker smaller r.speaker e in
        absurd (other heard (kept (64 * u + v) (λ d. apart (omega arith)) ∙ now.1)
        (rw told.1 (new ∙ ap (λ (k : ℕ). get_or (step paths heard p) k 0) (sym e) ∙ now.0))))
        (λ d. by_equal (64 * u + v) (offset_of p)
        (λ e. let told = told_apart u v p.listener p.speaker small r.speaker e in
        absurd (one heard (kept (64 * v + u) d ∙ now.0)
        (rw told.1 (new ∙ ap (λ (k : ℕ). get_or (step paths heard p) k 0) (sym e) ∙ now.1))))
        (λ f. (kept (64 * v + u) d ∙ now.0, kept (64 * u + v) f ∙ now.1)))

    pub never_crossed : (s : List Pair) (heard : List ℕ)
        → InRange s
        → length heard ≡ 4096
        → Crossed (after paths heard s)
        → Crossed heard
    unfolding fold_left InRange
    never_crossed [] heard r long now = now
    never_crossed (p ∷ s) heard r long now =
        step_crosses heard p r.0 long (never_crossed s (step paths heard p) r.1 (step_length paths heard p ∙ long) now)
