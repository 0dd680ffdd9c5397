-- Exactness of the run's numbers: the last change is exactly the greatest step that changed a choice, and the ups and
-- downs are exactly the steps after which their listener stands higher and lower. proofs/ has the theorem.
use Rattle.std.specs.Prelude.{◌≡◌, ◌≢◌, ◌↔◌, Bool, true, false, length, get_or, take, pos, ◌-ℤ◌, ltb}
use Rattle.std.proofs.Math.Path.{refl, ap}
use Rattle.std.proofs.Common.{sym, ◌∙◌, add-one, length-take, take_all, lt-ltb, le-ltb}
use mathlib.Core.List.{List}
use Prim.Native.Nat.{ℕ, zero, suc, ◌-◌, ◌<◌, ◌≤◌}
use native.Mathlib.Omega.{arith}
use Rattle.std.proofs.Math.IntN.{+ℤ_invr}
use Rattle.lists.specs.Search.{same, count_below}
use Rattle.lists.specs.Tests.{by_test, by_equal, by_less}
use Rattle.lists.specs.NumberLaws.{difference_above, difference_below}
use Rattle.lists.specs.SearchLaws.{count_in, count_out}
use Rattle.lists.specs.ListLaws.{same_eq, differs}
use Rattle.lists.specs.Fold.{fold_left}
use Rattle.lists.specs.FoldLaws.{fold_more}
use Rattle.rules.specs.Table.{Path}
use Rattle.rules.specs.Machine.{Pair, choice, step, standing, movement}
use Rattle.rules.specs.Run.{Tally, is_up, is_down, more, listening_offsets, begun, activated, run}
use Rattle.laws.specs.RunLaws.{no_pair, run_steps}
use Rattle.laws.specs.Plain.{Greatest}

module _ (paths : ℕ → List Path) (heard : List ℕ) (s : List Pair) where
  -- the heard state after the first k pairs
  abbrev pub state_after : ℕ → List ℕ
  state_after k = (run paths heard (take k s)).heard

  -- the listener of the pair k, counted from 0
  abbrev pub listener_at : ℕ → ℕ
  listener_at k = (get_or s k no_pair).listener

  -- Step k, counted from 1, changed a choice: its listener chose something else before it than after it.
  pub record Changes (k : ℕ) : Type 0 where
    pub from : 1 ≤ k
    pub within : k ≤ length s
    pub other : choice paths (state_after (k - 1)) (listener_at (k - 1)) ≢ choice paths (state_after k) (listener_at (k - 1))

  -- whether the listener of the pair k, counted from 0, stands higher after it than before it, and whether lower
  abbrev pub rises : ℕ → Bool
  rises k = ltb (standing paths (state_after k) (listener_at k)) (standing paths (state_after (suc k)) (listener_at k))

  abbrev pub falls : ℕ → Bool
  falls k = ltb (standing paths (state_after (suc k)) (listener_at k)) (standing paths (state_after k) (listener_at k))

  -- The statement: what the numbers of a run are, over its single steps.
  pub record ExactRun : Type 0 where
    -- there is one step for each pair, each from the state that the one before left, from the start on to the end
    pub steps : (run paths heard s).steps ≡ length s
    pub starts : state_after 0 ≡ heard
    pub goes : (k : ℕ) → k < length s → state_after (suc k) ≡ step paths (state_after k) (get_or s k no_pair)
    pub ends : (run paths heard s).heard ≡ state_after (length s)
    -- the last change is exactly the greatest step that changed a choice, and 0 exactly where none did
    pub changed : (k : ℕ) → 1 ≤ k → ((run paths heard s).last_change ≡ k) ↔ Greatest Changes k
    pub unchanged : ((run paths heard s).last_change ≡ 0) ↔ ((k : ℕ) → Changes k → ⊥)
    -- the ups and downs are as many as the steps that took their listener up and down
    pub ups : (run paths heard s).ups ≡ count_below rises (length s)
    pub downs : (run paths heard s).downs ≡ count_below falls (length s)

-- a difference is above 0 exactly where the second number is the greater, and below 0 where it is the smaller

pub difference_up : (a b : ℕ) → is_up (pos b -ℤ pos a) ≡ ltb a b
unfolding is_up
difference_up a b =
    by_less a b (λ h. ap is_up (difference_above b a h) ∙ sym (lt-ltb a b h))
    (λ h. by_less b a (λ l. ap is_up (difference_below b a l) ∙ sym (le-ltb a b h))
    (λ l. let e : b ≡ a = omega arith in rw e (ap is_up (+ℤ_invr (pos a)) ∙ sym (le-ltb a a (omega arith)))))

difference_down : (a b : ℕ) → is_down (pos b -ℤ pos a) ≡ ltb b a
unfolding is_down
difference_down a b =
    by_less b a (λ h. ap is_down (difference_below b a h) ∙ sym (lt-ltb b a h))
    (λ h. by_less a b (λ l. ap is_down (difference_above b a l) ∙ sym (le-ltb b a h))
    (λ l. let e : b ≡ a = omega arith in rw e (ap is_down (+ℤ_invr (pos a)) ∙ sym (le-ltb a a (omega arith)))))

-- one more where the test holds, as a count goes
pub more_count : (test : ℕ → Bool) (b : Bool) (n y : ℕ)
    → b ≡ test n
    → y ≡ count_below test n
    → more b y ≡ count_below test (suc n)
unfolding more
more_count test true n y e q = rw q (sym (count_in test n (sym e)))
more_count test false n y e q = q ∙ sym (count_out test n (sym e))

-- the last change after a step, which leaves it where the choice is the same
abbrev latest : Bool → ℕ → ℕ → ℕ
latest kept old now = elim kept [ true ↦ old | false ↦ now ]

module _ (paths : ℕ → List Path) (heard : List ℕ) (s : List Pair) where
  abbrev pub tally_after : ℕ → Tally
  tally_after k = run paths heard (take k s)

  -- nothing yet
  pub tally_none : tally_after 0 ≡ begun heard
  unfolding run fold_left
  tally_none = refl

  -- one pair more
  pub tally_next : (k : ℕ)
      → k < length s
      → tally_after (suc k) ≡ activated paths (listening_offsets paths) (tally_after k) (get_or s k no_pair)
  unfolding run
  tally_next k h =
      let pairs = listening_offsets paths in
      ap (λ (n : ℕ). run paths heard (take n s)) (sym (add-one k)) ∙ fold_more (activated paths pairs)
      (begun heard) s k no_pair h

  pub state_none : state_after paths heard s 0 ≡ heard
  unfolding begun
  state_none = ap (λ (y : Tally). y.heard) tally_none

  pub state_next : (k : ℕ)
      → k < length s
      → state_after paths heard s (suc k) ≡ step paths (state_after paths heard s k) (get_or s k no_pair)
  unfolding activated
  state_next k h = ap (λ (y : Tally). y.heard) (tally_next k h)

  steps_after : (k : ℕ) → k ≤ length s → (tally_after k).steps ≡ k
  steps_after k h = run_steps paths heard (take k s) ∙ length-take k s ∙ omega arith

  -- its movement goes down as its listener's standing does
  pub down_is : (k : ℕ)
      → k < length s
      → is_down (movement paths (state_after paths heard s k) (get_or s k no_pair)) ≡ falls paths heard s k
  unfolding movement
  down_is k h =
      let v = listener_at paths heard s k in
      let now = state_after paths heard s k in
      rw (state_next k h) (difference_down (standing paths now v) (standing paths (step paths now (get_or s k no_pair)) v))

  pub downs_after : (k : ℕ) → k ≤ length s → (tally_after k).downs ≡ count_below (falls paths heard s) k
  unfolding count_below begun activated
  downs_after zero h = ap (λ (y : Tally). y.downs) tally_none
  downs_after (suc k) h =
      ap (λ (y : Tally). y.downs) (tally_next k h)
      ∙ more_count (falls paths heard s) _ k (tally_after k).downs (down_is k h) (downs_after k (omega arith))

  -- the last change after k pairs: none so far, or the greatest of those so far
  pub data Last (k : ℕ) : Type 0 where
    never : (tally_after k).last_change ≡ 0 → ((j : ℕ) → j ≤ k → Changes paths heard s j → ⊥) → Last k
    lately : (n : ℕ)
        → (tally_after k).last_change ≡ n
        → Changes paths heard s n
        → ((j : ℕ) → n < j → j ≤ k → Changes paths heard s j → ⊥)
        → Last k

  module _ (k : ℕ) (h : k < length s) where
    -- the listener's choice is the same before and after
    kept : Bool
    kept = same (choice paths (state_after paths heard s k) (listener_at paths heard s k))
        (choice paths (state_after paths heard s (suc k)) (listener_at paths heard s k))

    change_next : (tally_after (suc k)).last_change ≡ latest kept (tally_after k).last_change (suc k)
    unfolding activated kept
    change_next =
        let v = listener_at paths heard s k in
        let old = (tally_after k).last_change in
        let steps = (tally_after k).steps in
        ap (λ (y : Tally). y.last_change) (tally_next k h)
        ∙ ap (λ (x : List ℕ). latest (same (choice paths (state_after paths heard s k) v) (choice paths x v)) old (suc steps))
        (sym (state_next k h))
        ∙ ap (λ (n : ℕ). latest kept old (suc n)) (steps_after k (omega arith))

    kept_same : kept ≡ true → Changes paths heard s (suc k) → ⊥
    unfolding kept
    kept_same q c = let z : suc k - 1 ≡ k = omega arith in (rw z at c.other) (same_eq _ _ q)

    other_changes : kept ≡ false → Changes paths heard s (suc k)
    unfolding kept
    other_changes q =
        let z : suc k - 1 ≡ k = omega arith in
        record { from = omega arith; within = h; other = rw z (differs _ _ q) }

    last_next : Last k → Last (suc k)
    last_next l =
        by_test kept (λ q. same_last q l)
        (λ q. lately (suc k) (change_next ∙ rw q) (other_changes q) (λ j a b. absurd (omega arith)))
      where
        same_last : kept ≡ true → Last k → Last (suc k)
        same_last q (never e f) =
            never (change_next ∙ rw q e) (λ j a c. by_equal j (suc k) (λ z. kept_same q (rw z at c)) (λ z. f j (omega arith) c))
        same_last q (lately n e c f) =
            lately n (change_next ∙ rw q e) c
            (λ j a b d. by_equal j (suc k) (λ z. kept_same q (rw z at d)) (λ z. f j a (omega arith) d))

  pub last_after : (k : ℕ) → k ≤ length s → Last k
  unfolding begun
  last_after zero h = never (ap (λ (y : Tally). y.last_change) tally_none) (λ j a c. omega (arith, c.from))
  last_after (suc k) h = last_next k h (last_after k (omega arith))

  pub whole : tally_after (length s) ≡ run paths heard s
  whole = ap (run paths heard) (take_all (length s) s (omega arith))
