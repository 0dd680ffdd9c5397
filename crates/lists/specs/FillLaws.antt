-- Laws of lists made from the front: lengths, elements, parts and blocks, what a store changes, padding, and marks.
use Rattle.std.specs.Prelude.{◌≡◌, ◌≢◌, Bool, true, false, ◌||◌, List, [], ◌∷◌, ◌++◌, length, get_or, take, drop, set, eqb}
use Rattle.std.proofs.Math.Path.{refl}
use Rattle.std.proofs.Common.{sym, ap, ◌∙◌, append_assoc, append-nil, not-suc-le-zero, mul-suc, mul-le-mul_left, add-one, length-drop, length-set, drop_of_length-le, ext_get_or, take_all, take_at, get_or-append-add, get_or-set_same, get_or-set_other, take-suc-set, drop_at, drop-cons, eq-eqb, ne_eqb}
use Rattle.std.proofs.Math.Bool.{or-true, or-false, or_assoc}
use Prim.Native.Nat.{ℕ, zero, suc, ◌+◌, ◌-◌, ◌*◌, ◌<◌, ◌≤◌, min}
use native.Mathlib.Omega.{arith}
use Rattle.std.proofs.Math.ListN.{replicate, length-append, length-take, length-replicate, get_or-append}
use Rattle.std.proofs.lemmas.List.{get_or_at, take-append-le, drop-append-le}
use Rattle.std.proofs.Math.Seq.{get_or-take}
use Rattle.lists.specs.Search.{elem}
use Rattle.lists.specs.Fill.{tabulate, blocks, padded}
use Rattle.lists.specs.Renew.{marked}
use Rattle.lists.specs.Tests.{by_equal}
use Rattle.lists.specs.ListLaws.{elem_cons, elem_nil, elem_at, elem_place, met_more}

module _ {A : Type 0} (f : ℕ → A) where
  pub tabulate_none : tabulate f 0 ≡ []
  unfolding tabulate
  tabulate_none = refl

  pub tabulate_suc : (n : ℕ) → tabulate f (suc n) ≡ tabulate f n ++ f n ∷ []
  unfolding tabulate
  tabulate_suc n = refl

  pub tabulate_length : (n : ℕ) → length (tabulate f n) ≡ n
  tabulate_length zero = ap length tabulate_none
  tabulate_length (suc n) =
      ap length (tabulate_suc n) ∙ length-append (tabulate f n) (f n ∷ []) ∙ omega (arith, tabulate_length n)

  pub tabulate_at : (n i : ℕ) (d : A) → i < n → get_or (tabulate f n) i d ≡ f i
  tabulate_at zero i d h = absurd (not-suc-le-zero h)
  tabulate_at (suc n) i d h =
      ap (λ (l : List A). get_or l i d) (tabulate_suc n) ∙ by_equal i n
      (λ q. get_or_at (tabulate f n) (f n) [] d i (tabulate_length n ∙ sym q) ∙ ap f (sym q))
      (λ q. let l : i < n = omega arith in
      get_or-append (tabulate f n) (f n ∷ []) d i (rw (tabulate_length n) l) ∙ tabulate_at n i d l)

  -- its parts

  pub tabulate_add : (a b : ℕ) → tabulate f (a + b) ≡ tabulate f a ++ tabulate (λ k. f (a + k)) b
  unfolding tabulate
  tabulate_add a zero = let z : a + 0 ≡ a = omega arith in rw z (sym (append-nil (tabulate f a)))
  tabulate_add a (suc b) =
      let z : a + suc b ≡ suc (a + b) = omega arith in
      rw (z, tabulate_add a b) (append_assoc (tabulate f a) (tabulate (λ k. f (a + k)) b) (f (a + b) ∷ []))

  pub tabulate_split : (n k : ℕ) → k ≤ n → tabulate f n ≡ tabulate f k ++ tabulate (λ j. f (k + j)) (n - k)
  tabulate_split n k h = let z : k + (n - k) ≡ n = omega arith in rw z at (tabulate_add k (n - k))

  pub tabulate_take : (n k : ℕ) → k ≤ n → take k (tabulate f n) ≡ tabulate f k
  tabulate_take n k h = rw (tabulate_split n k h) (take_at (tabulate f k) _ k (tabulate_length k))

  pub tabulate_drop : (n k : ℕ) → k ≤ n → drop k (tabulate f n) ≡ tabulate (λ j. f (k + j)) (n - k)
  tabulate_drop n k h = rw (tabulate_split n k h) (drop_at (tabulate f k) _ k (tabulate_length k))

-- a list is the table of f where it has f at each place
pub is_tabulate : {A : Type 0} (f : ℕ → A) (d : A) (n : ℕ) (l : List A)
    → length l ≡ n
    → ((i : ℕ) → i < n → get_or l i d ≡ f i)
    → l ≡ tabulate f n
is_tabulate f d n l e h =
    ext_get_or d l (tabulate f n) (e ∙ sym (tabulate_length f n))
    (λ i k. h i (omega arith) ∙ sym (tabulate_at f n i d (omega arith)))

pub tabulate_ext : {A : Type 0} (f g : ℕ → A) (n : ℕ) → ((i : ℕ) → i < n → f i ≡ g i) → tabulate f n ≡ tabulate g n
tabulate_ext f g zero h = tabulate_none f ∙ sym (tabulate_none g)
tabulate_ext f g (suc n) h =
    tabulate_suc f n ∙ rw (tabulate_ext f g n (λ i k. h i (omega arith)), h n (omega arith)) (sym (tabulate_suc g n))

-- a store at i changes f at i alone, and nothing where i is no place
pub tabulate_set : {A : Type 0} (f g : ℕ → A) (n i : ℕ) (x : A)
    → (i < n → g i ≡ x)
    → ((k : ℕ) → k < n → k ≢ i → f k ≡ g k)
    → set (tabulate f n) i x ≡ tabulate g n
tabulate_set f g n i x e o =
    is_tabulate g x n (set (tabulate f n) i x) (length-set (tabulate f n) i x ∙ tabulate_length f n)
    (λ k l. by_equal k i
    (λ p. let h : i < n = omega arith in
    rw p (get_or-set_same (tabulate f n) i x x (rw (tabulate_length f n) h) ∙ sym (e h)))
    (λ p. get_or-set_other (tabulate f n) i k x x p ∙ tabulate_at f n k x l ∙ o k l p))

-- what stands in a list of numbers made from the front

module _ (f : ℕ → ℕ) (n : ℕ) where
  pub tabulate_elem : (i : ℕ) → i < n → elem (f i) (tabulate f n) ≡ true
  tabulate_elem i h = rw (tabulate_at f n i 0 h) at (elem_at (tabulate f n) i (rw (tabulate_length f n) h))

  pub tabulate_place : (x : ℕ) → elem x (tabulate f n) ≡ true → (i : ℕ) × (i < n) × (f i ≡ x)
  tabulate_place x e =
      let r = elem_place x (tabulate f n) e in
      let h : r.0 < n = omega (arith, r.1, tabulate_length f n) in
      (r.0, h, sym (tabulate_at f n r.0 0 h) ∙ r.2)

-- blocks of one size

module _ {A : Type 0} (f : ℕ → List A) where
  pub blocks_none : blocks f 0 ≡ []
  unfolding blocks
  blocks_none = refl

  pub blocks_suc : (n : ℕ) → blocks f (suc n) ≡ blocks f n ++ f n
  unfolding blocks
  blocks_suc n = refl

  -- where no block is longer than most
  pub blocks_most : (most n : ℕ) → ((i : ℕ) → length (f i) ≤ most) → length (blocks f n) ≤ most * n
  blocks_most most zero h = omega (arith, ap length blocks_none)
  blocks_most most (suc n) h =
      omega (arith, ap length (blocks_suc n), length-append (blocks f n) (f n), mul-suc most n, blocks_most most n h, h n)

  module _ (size : ℕ) (sized : (i : ℕ) → length (f i) ≡ size) where
    pub blocks_length : (n : ℕ) → length (blocks f n) ≡ size * n
    blocks_length zero = ap length blocks_none ∙ omega arith
    blocks_length (suc n) =
        ap length (blocks_suc n) ∙ length-append (blocks f n) (f n) ∙ rw (mul-suc size n)
        (omega (arith, blocks_length n, sized n))

    -- the block i of n
    pub blocks_at : (n i : ℕ) → i < n → take size (drop (size * i) (blocks f n)) ≡ f i
    blocks_at zero i h = absurd (not-suc-le-zero h)
    blocks_at (suc n) i h =
        ap (λ (l : List A). take size (drop (size * i) l)) (blocks_suc n) ∙ by_equal i n
        (λ p. rw (p, drop_at (blocks f n) (f n) (size * n) (blocks_length n)) (take_all size (f n) (omega (arith, sized n))))
        (λ p. let l : i < n = omega arith in
        let k : size * i + size ≤ size * n = rw (mul-suc size i) at (mul-le-mul_left size l) in
        let m = blocks_length n in
        rw (drop-append-le (size * i) (blocks f n) (f n) (omega arith))
        (take-append-le size (drop (size * i) (blocks f n)) (f n) (rw (length-drop (size * i) (blocks f n)) (omega arith))
        ∙ blocks_at n i l))

pub blocks_ext : {A : Type 0} (f g : ℕ → List A) (n : ℕ) → ((i : ℕ) → i < n → f i ≡ g i) → blocks f n ≡ blocks g n
unfolding blocks
blocks_ext f g zero e = refl
blocks_ext f g (suc n) e = rw (blocks_ext f g n (λ i h. e i (omega arith)), e n (omega arith))

-- every place of a list of one element has it, past the end too where that is the default
pub alike_at : {A : Type 0} (n i : ℕ) (x : A) → get_or (replicate n x) i x ≡ x
alike_at zero i x = refl
alike_at (suc n) zero x = refl
alike_at (suc n) (suc i) x = alike_at n i x

-- a table of one element is that element over and over
pub tabulate_alike : {A : Type 0} (x : A) (n : ℕ) → tabulate (λ i. x) n ≡ replicate n x
tabulate_alike x n = sym (is_tabulate (λ i. x) x n (replicate n x) (length-replicate n x) (λ i h. alike_at n i x))

-- a list padded to a length

module _ {A : Type 0} (x : A) where
  pub padded_length : (n : ℕ) (xs : List A) → length (padded n x xs) ≡ n
  unfolding padded
  padded_length n xs =
      length-take n (xs ++ replicate n x) ∙ omega (arith, length-append xs (replicate n x), length-replicate n x)

  filler_at : (n : ℕ) (xs : List A) (i : ℕ) → get_or (xs ++ replicate n x) i x ≡ get_or xs i x
  filler_at n [] i = alike_at n i x
  filler_at n (y ∷ ys) zero = refl
  filler_at n (y ∷ ys) (suc i) = filler_at n ys i

  pub padded_at : (n : ℕ) (xs : List A) (i : ℕ) → i < n → get_or (padded n x xs) i x ≡ get_or xs i x
  unfolding padded
  padded_at n xs i h = get_or-take n (xs ++ replicate n x) i x h ∙ filler_at n xs i

  -- where the list fits it stands whole in front
  pub padded_whole : (n : ℕ) (xs : List A) → length xs ≤ n → padded n x xs ≡ xs ++ replicate (n - length xs) x
  padded_whole n xs h =
      ext_get_or x (padded n x xs) (xs ++ replicate (n - length xs) x)
      (padded_length n xs ∙ omega (arith, length-append xs (replicate (n - length xs) x), length-replicate (n - length xs) x))
      (λ i l. padded_at n xs i (omega (arith, padded_length n xs)) ∙ sym (filler_at (n - length xs) xs i))

  -- it is the table of its elements
  pub padded_tabulate : (n : ℕ) (xs : List A) → padded n x xs ≡ tabulate (λ i. get_or xs i x) n
  padded_tabulate n xs = is_tabulate (λ i. get_or xs i x) x n (padded n x xs) (padded_length n xs) (padded_at n xs)

  more_at : (xs : List A) (y : A) (i : ℕ) → i ≢ length xs → get_or xs i x ≡ get_or (xs ++ y ∷ []) i x
  more_at [] y zero f = absurd (f refl)
  more_at [] y (suc i) f = refl
  more_at (z ∷ zs) y zero f = refl
  more_at (z ∷ zs) y (suc i) f = more_at zs y i (λ e. f (ap suc e))

  -- a store behind the list adds to it, and what is past the end goes

  pub padded_more : (n : ℕ) (xs : List A) (y : A) (k : ℕ)
      → k ≡ length xs
      → set (padded n x xs) k y ≡ padded n x (xs ++ y ∷ [])
  padded_more n xs y k e =
      rw (padded_tabulate n xs, padded_tabulate n (xs ++ y ∷ []))
      (tabulate_set (λ i. get_or xs i x) (λ i. get_or (xs ++ y ∷ []) i x) n k y
      (λ l. get_or_at xs y [] x k (sym e)) (λ i l f. more_at xs y i (λ j. f (j ∙ sym e))))

  pub padded_full : (n : ℕ) (xs : List A) (y : A) → n ≤ length xs → padded n x (xs ++ y ∷ []) ≡ padded n x xs
  padded_full n xs y h =
      rw (padded_tabulate n xs, padded_tabulate n (xs ++ y ∷ []))
      (tabulate_ext (λ i. get_or (xs ++ y ∷ []) i x) (λ i. get_or xs i x) n (λ i l. sym (more_at xs y i (omega arith))))

-- marks

pub mark_one : (P Q : ℕ → Bool) (n x : ℕ)
    → ((v : ℕ) → v < n → Q v ≡ P v || eqb v x)
    → set (tabulate P n) x true ≡ tabulate Q n
mark_one P Q n x h =
    tabulate_set P Q n x true
    (λ l. h x l ∙ rw (eq-eqb x x refl, or-true))
    (λ v l f. sym (h v l ∙ rw (ne_eqb v x f, or-false)))

pub mark_list : (P Q : ℕ → Bool) (n : ℕ) (ns : List ℕ)
    → ((v : ℕ) → v < n → Q v ≡ P v || elem v ns)
    → marked (tabulate P n) ns ≡ tabulate Q n
unfolding marked
mark_list P Q n [] h = tabulate_ext P Q n (λ v l. sym (h v l ∙ rw (elem_nil v, or-false)))
mark_list P Q n (x ∷ xs) h =
    ap (λ (l : List Bool). marked l xs) (mark_one P (λ v. P v || eqb v x) n x (λ v l. refl)) ∙ mark_list
    (λ v. P v || eqb v x) Q n xs
    (λ v l. h v l ∙ rw (elem_cons v x xs) (sym (or_assoc (P v) (eqb v x) (elem v xs))))

-- marks set one after the other, in a walk that has come to k
module _ (marks : List Bool) (ns : List ℕ) (k : ℕ) where
  pub marked_next : (next r : List Bool)
      → next ≡ set marks (get_or ns k 0) true
      → k < length ns
      → marked marks (drop k ns) ≡ r
      → marked next (drop (k + 1) ns) ≡ r
  unfolding marked
  marked_next next r e h come = rw (e, add-one) (rw (drop-cons ns k 0 h) at come)

  pub marked_end : length ns ≤ k → marked marks (drop k ns) ≡ marks
  unfolding marked
  marked_end h = rw (drop_of_length-le ns h)

-- a buffer filled from the front, one store at each place: its first k elements are those of f below k
module _ {A : Type 0} (f : ℕ → A) where
  pub fill_more : (l next : List A) (k : ℕ) (x : A)
      → take k l ≡ tabulate f k
      → k < length l
      → next ≡ set l k x
      → x ≡ f k
      → take (k + 1) next ≡ tabulate f (k + 1)
  fill_more l next k x e h q r = rw (q, add-one, tabulate_suc f k, take-suc-set l k x h, e, r)

  pub fill_end : (l : List A) (k n : ℕ) → take k l ≡ tabulate f k → n ≡ length l → k ≡ n → l ≡ tabulate f n
  fill_end l k n e q r = sym (take_all n l (omega arith)) ∙ (rw r at e)

-- padded to n with two lists end to end: the first list's places are those of the first alone, and behind them the
-- second is padded
pub padded_append : {A : Type 0} (x : A) (n : ℕ) (a b : List A) (m : ℕ)
    → m ≡ min (length a) n
    → take m (padded n x a) ++ padded (n - m) x b ≡ padded n x (a ++ b)
padded_append {A} x n a b m e =
    let f : ℕ → A = λ i. get_or (a ++ b) i x in
    let front = tabulate_ext (λ i. get_or a i x) f m (λ i h. sym (get_or-append a b x i (omega arith))) in
    let behind = tabulate_ext (λ i. get_or b i x) (λ i. f (m + i)) (n - m)
    (λ i h. let z : m ≡ length a = omega arith in sym (rw z (get_or-append-add a b i x))) in
    rw (padded_tabulate x n a, padded_tabulate x (n - m) b, tabulate_take (λ i. get_or a i x) n m (omega arith), front, behind)
    (sym (padded_tabulate x n (a ++ b) ∙ tabulate_split f n m (omega arith)))

-- the marks of the numbers that a walk has met before it comes to i

module _ (p : List ℕ) (n : ℕ) where
  -- the number v is met before i
  abbrev met : ℕ → ℕ → Bool
  met i v = elem v (take i p)

  pub met_none : replicate n false ≡ tabulate (met 0) n
  met_none =
      is_tabulate (met 0) false n (replicate n false) (length-replicate n false)
      (λ v h. alike_at n v false ∙ sym (elem_nil v))

  module _ (i : ℕ) (marks : List Bool) where
    pub met_look : (v : ℕ) (d : Bool) → marks ≡ tabulate (met i) n → v < n → get_or marks v d ≡ elem v (take i p)
    met_look v d e h = rw e (tabulate_at (met i) n v d h)

    pub met_mark : marks ≡ tabulate (met i) n → i < length p → set marks (get_or p i 0) true ≡ tabulate (met (i + 1)) n
    met_mark e h = rw e (mark_one (met i) (met (i + 1)) n (get_or p i 0) (λ v l. met_more p i v h))
