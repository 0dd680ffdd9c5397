-- Laws of the elements of a list: its fronts, whether any passes, the first that does, which numbers stand in it, and
-- what same lists are. proofs/ has which stand twice.
use Rattle.std.specs.Prelude.{◌≡◌, Bool, true, false, ◌||◌, ℕ, zero, suc, ◌+◌, ◌<◌, ◌≤◌, length, get_or, take, drop, eqb}
use Rattle.std.proofs.Math.Path.{refl, sym, ap}
use Rattle.std.proofs.Common.{◌∙◌, ⊎_elim, arith, not-suc-le-zero, add-one, drop_of_length-le, take-append-drop, drop-cons, take-suc, take_all, take_at, drop_at, eqb-true, eq-eqb, ne_eqb}
use Rattle.std.proofs.Math.Bool.{or_assoc, or-false}
use mathlib.Core.List.{List, [], ◌∷◌, ◌++◌}
use Rattle.std.proofs.Math.Option.{Option, none, some}
use Rattle.std.proofs.lemmas.List.{take-append-le, drop-append-le}
use Rattle.lists.specs.Search.{any_in, first_in, elem, same, twice}
use Rattle.lists.specs.Tests.{true≢, none≢some, by_test, by_equal, or_cases, or_left, or_right}

-- within a list it does not matter what stands past its end
pub get_or_within : {A : Type 0} (l : List A) (i : ℕ) (d e : A) → i < length l → get_or l i d ≡ get_or l i e
get_or_within [] i d e h = absurd (not-suc-le-zero h)
get_or_within (x ∷ xs) zero d e h = refl
get_or_within (x ∷ xs) (suc i) d e h = get_or_within xs i d e (omega arith)

-- of one list cut at two places, the shorter front begins the longer one
pub front_of : {A : Type 0} (s t b x : List A)
    → s ++ t ≡ b ++ x
    → length s ≤ length b
    → (b ≡ s ++ drop (length s) b) × (t ≡ drop (length s) b ++ x)
front_of {A} s t b x e h =
    let k = length s in
    let front : s ≡ take k b = sym (take_at s t k refl) ∙ ap (take k) e ∙ take-append-le k b x h in (
      sym (take-append-drop k b) ∙ ap (λ (l : List A). l ++ drop k b) (sym front),
      sym (drop_at s t k refl) ∙ ap (drop k) e ∙ drop-append-le k b x h,
    )

-- whether some element passes

module _ {A : Type 0} (test : A → Bool) where
  pub any_nil : any_in test [] ≡ false
  unfolding any_in
  any_nil = refl

  pub any_cons : (x : A) (xs : List A) → any_in test (x ∷ xs) ≡ test x || any_in test xs
  unfolding any_in
  any_cons x xs = refl

  pub any_append : (xs ys : List A) → any_in test (xs ++ ys) ≡ any_in test xs || any_in test ys
  unfolding any_in
  any_append [] ys = refl
  any_append (x ∷ xs) ys =
      ap (λ (b : Bool). test x || b) (any_append xs ys) ∙ sym (or_assoc (test x) (any_in test xs) (any_in test ys))

  pub any_at : (l : List A) (d : A) (k : ℕ) → k < length l → test (get_or l k d) ≡ true → any_in test l ≡ true
  any_at [] d k h e = absurd (not-suc-le-zero h)
  any_at (x ∷ xs) d zero h e = any_cons x xs ∙ or_left (test x) (any_in test xs) e
  any_at (x ∷ xs) d (suc k) h e = any_cons x xs ∙ or_right (test x) (any_in test xs) (any_at xs d k (omega arith) e)

  pub none_at : (l : List A) (d : A) → any_in test l ≡ false → (k : ℕ) → k < length l → test (get_or l k d) ≡ false
  none_at l d e k h = by_test (test (get_or l k d)) (λ q. absurd (true≢ (any_at l d k h q) e)) (λ q. q)

  pub some_at : (l : List A) (d : A) → any_in test l ≡ true → (k : ℕ) × (k < length l) × (test (get_or l k d) ≡ true)
  some_at [] d e = absurd (true≢ e any_nil)
  some_at (x ∷ xs) d e =
      ⊎_elim (λ q. (0, omega arith, q)) (λ q. let r = some_at xs d q in (suc r.0, omega (arith, r.1), r.2))
      (or_cases (test x) (any_in test xs) (sym (any_cons x xs) ∙ e))

  -- from the place i on: one element and the rest
  any_drop : (l : List A) (d : A) (i : ℕ)
      → i < length l
      → any_in test (drop i l) ≡ test (get_or l i d) || any_in test (drop (suc i) l)
  any_drop l d i h = rw (drop-cons l i d h) (any_cons (get_or l i d) (drop (suc i) l))

  -- a scan of the list that has come to i, with the answer still to be found from there on

  module _ (l : List A) (d : A) (i : ℕ) (come : any_in test (drop i l) ≡ any_in test l) where
    pub scan_hit : i < length l → test (get_or l i d) ≡ true → true ≡ any_in test l
    scan_hit h e = sym (any_drop l d i h ∙ or_left (test (get_or l i d)) (any_in test (drop (suc i) l)) e) ∙ come

    pub scan_next : i < length l → test (get_or l i d) ≡ false → any_in test (drop (i + 1) l) ≡ any_in test l
    scan_next h e = sym (any_drop l d i h ∙ rw (e, add-one)) ∙ come

    pub scan_end : length l ≤ i → false ≡ any_in test l
    scan_end h = sym (rw (drop_of_length-le l h) any_nil) ∙ come

-- the first element that passes

module _ {A : Type 0} (test : ℕ → A → Bool) where
  pub first_in_nil : (i : ℕ) → first_in test i [] ≡ none
  unfolding first_in
  first_in_nil i = refl

  pub first_in_hit : (i : ℕ) (x : A) (xs : List A) → test i x ≡ true → first_in test i (x ∷ xs) ≡ some i
  unfolding first_in
  first_in_hit i x xs e = rw (e, first_in)

  pub first_in_miss : (i : ℕ) (x : A) (xs : List A)
      → test i x ≡ false
      → first_in test i (x ∷ xs) ≡ first_in test (suc i) xs
  unfolding first_in
  first_in_miss i x xs e = rw (e, first_in)

  -- none is found where every element fails, and only there

  pub first_in_none : (l : List A) (d : A) (i : ℕ)
      → first_in test i l ≡ none
      → (k : ℕ)
      → k < length l
      → test (i + k) (get_or l k d) ≡ false
  first_in_none [] d i e k h = absurd (not-suc-le-zero h)
  first_in_none (x ∷ xs) d i e zero h =
      let z : i + 0 ≡ i = omega arith in
      by_test (test i x) (λ q. absurd (none≢some e (first_in_hit i x xs q))) (λ q. rw z q)
  first_in_none (x ∷ xs) d i e (suc k) h =
      let z : i + suc k ≡ suc i + k = omega arith in
      by_test (test i x) (λ q. absurd (none≢some e (first_in_hit i x xs q)))
      (λ q. rw z (first_in_none xs d (suc i) (sym (first_in_miss i x xs q) ∙ e) k (omega arith)))

  pub all_fail_in : (l : List A) (d : A) (i : ℕ)
      → ((k : ℕ) → k < length l → test (i + k) (get_or l k d) ≡ false)
      → first_in test i l ≡ none
  all_fail_in [] d i f = first_in_nil i
  all_fail_in (x ∷ xs) d i f =
      let z : i + 0 ≡ i = omega arith in
      first_in_miss i x xs (rw z at (f 0 (omega arith))) ∙ all_fail_in xs d (suc i)
      (λ k h. let y : suc i + k ≡ i + suc k = omega arith in rw y (f (suc k) (omega arith)))

  -- what is found is a place of the list
  pub first_in_under : (l : List A) (i k : ℕ) → first_in test i l ≡ some k → k < i + length l
  first_in_under [] i k e = absurd (none≢some (first_in_nil i) e)
  first_in_under (x ∷ xs) i k e =
      by_test (test i x)
      (λ q. let h : some i ≡ some k = sym (first_in_hit i x xs q) ∙ e in let z : i ≡ k = cc in omega arith)
      (λ q. omega (arith, first_in_under xs (suc i) k (sym (first_in_miss i x xs q) ∙ e)))

  -- a search of the list that has come to i, with the answer o still to be found from there on

  module _ (l : List A) (d : A) (i : ℕ) (o : Option ℕ) (come : first_in test i (drop i l) ≡ o) where
    pub seek_hit : i < length l → test i (get_or l i d) ≡ true → o ≡ some i
    seek_hit h e = sym come ∙ rw (drop-cons l i d h) (first_in_hit i (get_or l i d) (drop (suc i) l) e)

    pub seek_next : i < length l → test i (get_or l i d) ≡ false → first_in test (i + 1) (drop (i + 1) l) ≡ o
    seek_next h e = rw add-one (sym (rw (drop-cons l i d h) (first_in_miss i (get_or l i d) (drop (suc i) l) e)) ∙ come)

    pub seek_end : length l ≤ i → o ≡ none
    seek_end h = sym come ∙ rw (drop_of_length-le l h) (first_in_nil i)

-- tests that agree find the same
pub first_in_ext : {A : Type 0} (f g : ℕ → A → Bool) (l : List A) (d : A) (i : ℕ)
    → ((k : ℕ) → k < length l → f (i + k) (get_or l k d) ≡ g (i + k) (get_or l k d))
    → first_in f i l ≡ first_in g i l
first_in_ext f g [] d i e = first_in_nil f i ∙ sym (first_in_nil g i)
first_in_ext f g (x ∷ xs) d i e =
    let z : i + 0 ≡ i = omega arith in
    let here : f i x ≡ g i x = rw z at (e 0 (omega arith)) in
    let later = first_in_ext f g xs d (suc i)
    (λ k h. let y : suc i + k ≡ i + suc k = omega arith in rw y (e (suc k) (omega arith))) in
    by_test (f i x)
    (λ q. first_in_hit f i x xs q ∙ sym (first_in_hit g i x xs (sym here ∙ q)))
    (λ q. first_in_miss f i x xs q ∙ later ∙ sym (first_in_miss g i x xs (sym here ∙ q)))

-- whether a number stands in a list

pub elem_nil : (n : ℕ) → elem n [] ≡ false
unfolding elem
elem_nil n = any_nil (eqb n)

pub elem_cons : (n x : ℕ) (xs : List ℕ) → elem n (x ∷ xs) ≡ eqb n x || elem n xs
unfolding elem
elem_cons n x xs = any_cons (eqb n) x xs

pub elem_at : (l : List ℕ) (k : ℕ) → k < length l → elem (get_or l k 0) l ≡ true
unfolding elem
elem_at l k h = any_at (eqb (get_or l k 0)) l 0 k h (eq-eqb (get_or l k 0) (get_or l k 0) refl)

pub elem_place : (n : ℕ) (l : List ℕ) → elem n l ≡ true → (k : ℕ) × (k < length l) × (get_or l k 0 ≡ n)
unfolding elem
elem_place n l e = let r = some_at (eqb n) l 0 e in (r.0, r.1, sym (eqb-true n (get_or l r.0 0) r.2))

-- whether two lists of numbers are the same

pub same_refl : (l : List ℕ) → same l l ≡ true
unfolding same
same_refl [] = refl
same_refl (x ∷ xs) = rw (eq-eqb x x refl, same) (same_refl xs)

pub same_cons : (x y : ℕ) (xs ys : List ℕ) → x ≡ y → same (x ∷ xs) (y ∷ ys) ≡ same xs ys
unfolding same
same_cons x y xs ys e = rw (eq-eqb x y e, same)

pub same_heads : (x y : ℕ) (xs ys : List ℕ) → (x ≡ y → ⊥) → same (x ∷ xs) (y ∷ ys) ≡ false
unfolding same
same_heads x y xs ys f = rw (ne_eqb x y f, same)

pub same_eq : (a b : List ℕ) → same a b ≡ true → a ≡ b
unfolding same
same_eq [] [] e = refl
same_eq [] (y ∷ ys) e = absurd (true≢ e refl)
same_eq (x ∷ xs) [] e = absurd (true≢ e refl)
same_eq (x ∷ xs) (y ∷ ys) e =
    by_equal x y
    (λ h. let t : xs ≡ ys = same_eq xs ys (sym (same_cons x y xs ys h) ∙ e) in cc)
    (λ h. absurd (true≢ e (same_heads x y xs ys h)))

pub differ : (a b : List ℕ) → (a ≡ b → ⊥) → same a b ≡ false
differ a b f = by_test (same a b) (λ q. absurd (f (same_eq a b q))) (λ q. q)

pub differs : (a b : List ℕ) → same a b ≡ false → a ≡ b → ⊥
differs a b e q = true≢ (rw q (same_refl b)) e

-- two lists of different lengths differ; of equal lengths, a comparison that has come to i goes on with the elements there

pub same_lengths : (a b : List ℕ) → (length a ≡ length b → ⊥) → same a b ≡ false
same_lengths a b f = differ a b (λ e. f (ap length e))

module _ (a b : List ℕ) (i : ℕ) (come : same (drop i a) (drop i b) ≡ same a b) (long : length a ≡ length b) where
  come_on : i < length a → same (get_or a i 0 ∷ drop (suc i) a) (get_or b i 0 ∷ drop (suc i) b) ≡ same a b
  come_on h = rw (← (drop-cons a i 0 h), ← (drop-cons b i 0 (rw long at h))) come

  pub same_hit : i < length a → (get_or a i 0 ≡ get_or b i 0 → ⊥) → false ≡ same a b
  same_hit h f = sym (same_heads (get_or a i 0) (get_or b i 0) (drop (suc i) a) (drop (suc i) b) f) ∙ come_on h

  pub same_next : i < length a → get_or a i 0 ≡ get_or b i 0 → same (drop (i + 1) a) (drop (i + 1) b) ≡ same a b
  same_next h e =
      rw add-one (sym (same_cons (get_or a i 0) (get_or b i 0) (drop (suc i) a) (drop (suc i) b) e) ∙ come_on h)

  pub same_end : length a ≤ i → true ≡ same a b
  same_end h = sym (same_refl []) ∙ rw (drop_of_length-le a h, drop_of_length-le b (rw long at h)) at come

-- one number more at the end of a list

pub elem_more : (v : ℕ) (l : List ℕ) (x : ℕ) → elem v (l ++ x ∷ []) ≡ elem v l || eqb v x
unfolding elem
elem_more v l x = any_append (eqb v) l (x ∷ []) ∙ rw (any_cons (eqb v) x [], any_nil (eqb v), or-false)

-- a walk that has come to i meets a number that it met before, or one that is new

module _ (p : List ℕ) (i : ℕ) where
  pub met_more : (v : ℕ) → i < length p → elem v (take (i + 1) p) ≡ elem v (take i p) || eqb v (get_or p i 0)
  met_more v h = rw (add-one, take-suc p i 0 h) (elem_more v (take i p) (get_or p i 0))

  pub met_all : length p ≤ i → twice (take i p) ≡ false → false ≡ twice p
  met_all h t = sym (rw (take_all i p h) at t)
