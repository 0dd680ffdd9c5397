-- Laws of the numbers below a bound: the first that passes a test (what is found of it is in proofs/), whether any does, which and how many do, and the
-- greatest value.
use Rattle.std.specs.Prelude.{◌≡◌, ◌≢◌, Bool, true, false, not, ◌&&◌, ◌||◌, [], ◌∷◌, ◌++◌, eqb}
use Rattle.std.proofs.Math.Path.{refl, sym, ap}
use Rattle.std.proofs.Common.{◌∙◌, ⊎_elim, not-suc-le-zero, add-one, eq-eqb, ne_eqb}
use Rattle.std.proofs.Math.Bool.{or-false}
use Rattle.std.proofs.Math.Option.{Option, none}
use Prim.Native.Nat.{ℕ, zero, suc, ◌+◌, ◌-◌, ◌<◌, ◌≤◌, max}
use native.Mathlib.Omega.{arith}
use Rattle.std.proofs.Math.ListN.{length, length-append}
use Rattle.lists.specs.Search.{first_from, any_below, count_below, those_below, max_below}
use Rattle.lists.specs.Tests.{true≢, by_test, by_equal, or_left, or_right, or_cases}

-- the first number from i on that passes

module _ (test : ℕ → Bool) where
  pub first_miss : (i n : ℕ) → test i ≡ false → first_from test i (suc n) ≡ first_from test (suc i) n
  unfolding first_from
  first_miss i n e = rw (e, first_from)

  pub first_end : (i : ℕ) → first_from test i 0 ≡ none
  unfolding first_from
  first_end i = refl

  -- what is found: it is in range, it passes, and none before it does
  pub record Found (i n k : ℕ) : Type 0 where
    pub from : i ≤ k
    pub under : k < i + n
    pub passes : test k ≡ true
    pub earliest : (j : ℕ) → i ≤ j → j < k → test j ≡ false

  -- whether some number below n passes

  pub any_below_suc : (n : ℕ) → any_below test (suc n) ≡ any_below test n || test n
  unfolding any_below
  any_below_suc n = refl

  pub any_below_zero : any_below test 0 ≡ false
  unfolding any_below
  any_below_zero = refl

  pub any_below_lem : (n k : ℕ) → k < n → test k ≡ true → any_below test n ≡ true
  any_below_lem zero k h e = absurd (not-suc-le-zero h)
  any_below_lem (suc n) k h e =
      any_below_suc n ∙ by_equal k n
      (λ q. or_right (any_below test n) (test n) (rw q at e))
      (λ q. or_left (any_below test n) (test n) (any_below_lem n k (omega arith) e))

  pub none_below : (n : ℕ) → any_below test n ≡ false → (k : ℕ) → k < n → test k ≡ false
  none_below n e k h = by_test (test k) (λ q. absurd (true≢ (any_below_lem n k h q) e)) (λ q. q)

  pub all_fail : (n : ℕ) → ((k : ℕ) → k < n → test k ≡ false) → any_below test n ≡ false
  all_fail zero h = any_below_zero
  all_fail (suc n) h = any_below_suc n ∙ rw (all_fail n (λ k l. h k (omega arith)), h n (omega arith))

  pub some_below : (n : ℕ) → any_below test n ≡ true → (k : ℕ) × (k < n) × (test k ≡ true)
  some_below zero e = absurd (true≢ e any_below_zero)
  some_below (suc n) e =
      ⊎_elim (λ q. let r = some_below n q in (r.0, omega (arith, r.1), r.2)) (λ q. (n, omega arith, q))
      (or_cases (any_below test n) (test n) (sym (any_below_suc n) ∙ e))

  -- the numbers below n that pass

  pub those_in : (n : ℕ) → test n ≡ true → those_below test (suc n) ≡ those_below test n ++ n ∷ []
  unfolding those_below
  those_in n e = rw (e, those_below)

  pub those_out : (n : ℕ) → test n ≡ false → those_below test (suc n) ≡ those_below test n
  unfolding those_below
  those_out n e = rw (e, those_below)

  pub those_none : those_below test 0 ≡ []
  unfolding those_below
  those_none = refl

  -- how many numbers below n pass

  pub count_in : (n : ℕ) → test n ≡ true → count_below test (suc n) ≡ suc (count_below test n)
  unfolding count_below
  count_in n e = rw (e, count_below)

  pub count_out : (n : ℕ) → test n ≡ false → count_below test (suc n) ≡ count_below test n
  unfolding count_below
  count_out n e = rw (e, count_below)

  pub those_count : (n : ℕ) → length (those_below test n) ≡ count_below test n
  unfolding those_below count_below
  those_count zero = refl
  those_count (suc n) =
      by_test (test n)
      (λ q. ap length (those_in n q) ∙ length-append (those_below test n) (n ∷ []) ∙ omega (arith, count_in n q, those_count n))
      (λ q. ap length (those_out n q) ∙ those_count n ∙ sym (count_out n q))

  pub count_most : (n : ℕ) → count_below test n ≤ n
  unfolding count_below
  count_most zero = omega arith
  count_most (suc n) =
      by_test (test n) (λ q. omega (arith, count_in n q, count_most n)) (λ q. omega (arith, count_out n q, count_most n))

-- counts of two tests, the second of which passes whatever the first passes

module _ (f g : ℕ → Bool) where
  count_step : (n d : ℕ)
      → (f n ≡ true → g n ≡ true)
      → count_below f n + d ≤ count_below g n
      → count_below f (suc n) + d ≤ count_below g (suc n)
  count_step n d h r =
      by_test (f n) (λ q. omega (arith, count_in f n q, count_in g n (h q)))
      (λ q. by_test (g n) (λ p. omega (arith, count_out f n q, count_in g n p))
      (λ p. omega (arith, count_out f n q, count_out g n p)))

  -- the second count is no smaller
  pub count_mono : (n : ℕ) → ((k : ℕ) → k < n → f k ≡ true → g k ≡ true) → count_below f n ≤ count_below g n
  unfolding count_below
  count_mono zero h = omega arith
  count_mono (suc n) h =
      let r = count_mono n (λ k l. h k (omega arith)) in
      omega (arith, count_step n 0 (h n (omega arith)) (omega arith))

  -- and it is greater where one number is new
  pub count_less : (n j : ℕ)
      → j < n
      → f j ≡ false
      → g j ≡ true
      → ((k : ℕ) → k < n → f k ≡ true → g k ≡ true)
      → count_below f n < count_below g n
  count_less zero j l a b h = absurd (not-suc-le-zero l)
  count_less (suc n) j l a b h =
      let less : (k : ℕ) → k < n → f k ≡ true → g k ≡ true = λ k l. h k (omega arith) in
      by_equal j n
      (λ e. omega (arith, count_mono n less, count_out f n (rw e at a), count_in g n (rw e at b)))
      (λ e. let r = count_less n j (omega arith) a b less in omega (arith, count_step n 1 (h n (omega arith)) (omega arith)))

-- tests that agree count the same
pub count_ext : (f g : ℕ → Bool) (n : ℕ) → ((k : ℕ) → k < n → f k ≡ g k) → count_below f n ≡ count_below g n
count_ext f g n h = omega (arith, count_mono f g n (λ k l e. sym (h k l) ∙ e), count_mono g f n (λ k l e. h k l ∙ e))

-- tests that differ in one number alone, which only the first passes, differ by one
pub count_one : (f g : ℕ → Bool) (n j : ℕ)
    → j < n
    → f j ≡ true
    → g j ≡ false
    → ((k : ℕ) → k < n → k ≢ j → f k ≡ g k)
    → count_below f n ≡ suc (count_below g n)
count_one f g zero j l a b h = absurd (not-suc-le-zero l)
count_one f g (suc n) j l a b h =
    by_equal j n
    (λ e. let r = count_ext f g n (λ k i. h k (omega arith) (omega arith)) in
    omega (arith, count_in f n (rw e at a), count_out g n (rw e at b)))
    (λ e. let r = count_one f g n j (omega arith) a b (λ k i. h k (omega arith)) in
    let q = h n (omega arith) (λ z. e (sym z)) in
    by_test (f n)
    (λ p. omega (arith, count_in f n p, count_in g n (sym q ∙ p)))
    (λ p. omega (arith, count_out f n p, count_out g n (sym q ∙ p))))

-- those that pass are none where no number passes, and only there
pub count_any : (test : ℕ → Bool) (n : ℕ) → eqb (count_below test n) 0 ≡ not (any_below test n)
unfolding count_below any_below
count_any test zero = refl
count_any test (suc n) =
    by_test (test n)
    (λ q. ne_eqb (count_below test (suc n)) 0 (omega (arith, count_in test n q))
    ∙ sym (ap not (any_below_suc test n ∙ or_right (any_below test n) (test n) q)))
    (λ q. let fewer : any_below test (suc n) ≡ any_below test n = any_below_suc test n ∙ rw (q, or-false) in
    ap (λ (m : ℕ). eqb m 0) (count_out test n q) ∙ count_any test n ∙ ap not (sym fewer))

-- those that pass are those that pass a second test and those that fail it
pub count_parts : (f g : ℕ → Bool) (n : ℕ)
    → count_below (λ k. f k && g k) n + count_below (λ k. f k && not (g k)) n ≡ count_below f n
unfolding count_below
count_parts f g zero = omega arith
count_parts f g (suc n) =
    let r = count_parts f g n in
    let here : ℕ → Bool = λ k. f k && g k in
    let there : ℕ → Bool = λ k. f k && not (g k) in
    by_test (f n)
    (λ p. by_test (g n)
    (λ q. omega (arith, count_in f n p, count_in here n (rw (p, q)), count_out there n (rw (p, q))))
    (λ q. omega (arith, count_in f n p, count_out here n (rw (p, q)), count_in there n (rw (p, q)))))
    (λ p. omega (arith, count_out f n p, count_out here n (rw p), count_out there n (rw p)))

-- different numbers below m are at most m

module _ (f : ℕ → ℕ) (m : ℕ) where
  -- whether v is one of the first n
  abbrev met : ℕ → ℕ → Bool
  met n v = any_below (λ k. eqb (f k) v) n

  distinct_count : (n : ℕ)
      → ((i : ℕ) → i < n → f i < m)
      → ((i j : ℕ) → i < j → j < n → f i ≡ f j → ⊥)
      → n ≤ count_below (met n) m
  distinct_count zero below apart = omega arith
  distinct_count (suc n) below apart =
      let r = distinct_count n (λ i h. below i (omega arith)) (λ i j h l. apart i j h (omega arith)) in
      let less = count_less (met n) (met (suc n)) m (f n) (below n (omega arith))
      (all_fail (λ k. eqb (f k) (f n)) n (λ k h. ne_eqb (f k) (f n) (apart k n h (omega arith))))
      (any_below_lem (λ k. eqb (f k) (f n)) (suc n) n (omega arith) (eq-eqb (f n) (f n) refl))
      (λ v h e. any_below_suc (λ k. eqb (f k) v) n ∙ or_left _ (eqb (f n) v) e) in
      omega arith

  pub pigeonhole : (n : ℕ)
      → ((i : ℕ) → i < n → f i < m)
      → ((i j : ℕ) → i < j → j < n → f i ≡ f j → ⊥)
      → n ≤ m
  pigeonhole n below apart = omega (arith, distinct_count n below apart, count_most (met n) m)

-- the greatest f i below n

module _ (f : ℕ → ℕ) where
  pub max_none : max_below f 0 ≡ 0
  unfolding max_below
  max_none = refl

  pub max_suc : (n : ℕ) → max_below f (suc n) ≡ max (max_below f n) (f n)
  unfolding max_below
  max_suc n = refl

  pub max_bounds : (n k : ℕ) → k < n → f k ≤ max_below f n
  max_bounds zero k h = absurd (not-suc-le-zero h)
  max_bounds (suc n) k h =
      by_equal k n
      (λ q. let e : f k ≡ f n = ap f q in omega (arith, max_suc n))
      (λ q. omega (arith, max_suc n, max_bounds n k (omega arith)))

  pub max_most : (most n : ℕ) → ((k : ℕ) → k < n → f k ≤ most) → max_below f n ≤ most
  max_most most zero h = omega (arith, max_none)
  max_most most (suc n) h = omega (arith, max_suc n, max_most most n (λ k l. h k (omega arith)), h n (omega arith))

-- a search below n that has come to i, with the answer o still to be found from there on
module _ (test : ℕ → Bool) (n i : ℕ) (o : Option ℕ) (come : first_from test i (n - i) ≡ o) where
  pub left_over : i < n → n - i ≡ suc (n - (i + 1))
  left_over h = omega arith

  pub search_next : i < n → test i ≡ false → first_from test (i + 1) (n - (i + 1)) ≡ o
  search_next h e =
      ap (λ (k : ℕ). first_from test k (n - (i + 1))) (add-one i) ∙ sym (first_miss test i (n - (i + 1)) e) ∙
      (rw (left_over h) at come)

  pub search_end : n ≤ i → o ≡ none
  search_end h = let z : n - i ≡ 0 = omega arith in sym (rw z at come) ∙ first_end test i
