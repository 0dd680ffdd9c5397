-- Tests over the numbers below a bound and over the elements of a list: does any pass, which is the first, how many do.
use Rattle.std.specs.Prelude.{ℕ, zero, suc, max, Bool, true, false, ◌||◌, List, [], ◌∷◌, ◌++◌, ltb, eqb}
use Rattle.std.proofs.Math.Option.{Option, none, some}

-- whether a number lies outside low to high
unfoldable pub outside : ℕ → ℕ → ℕ → Bool
outside low high n = ltb n low || ltb high n

-- the first number from i on that passes, of n numbers
unfoldable pub first_from : (ℕ → Bool) → ℕ → ℕ → Option ℕ
first_from test i zero = none
first_from test i (suc n) = elim (test i) [ true ↦ some i | false ↦ first_from test (suc i) n ]

-- whether some number below n passes
unfoldable pub any_below : (ℕ → Bool) → ℕ → Bool
any_below test zero = false
any_below test (suc n) = any_below test n || test n

-- how many numbers below n pass
unfoldable pub count_below : (ℕ → Bool) → ℕ → ℕ
count_below test zero = 0
count_below test (suc n) = elim (test n) [ true ↦ suc (count_below test n) | false ↦ count_below test n ]

-- the numbers below n that pass, rising
unfoldable pub those_below : (ℕ → Bool) → ℕ → List ℕ
those_below test zero = []
those_below test (suc n) = elim (test n) [ true ↦ those_below test n ++ n ∷ [] | false ↦ those_below test n ]

module _ {A : Type 0} where
  -- whether some element passes
  unfoldable pub any_in : (A → Bool) → List A → Bool
  any_in test [] = false
  any_in test (x ∷ xs) = test x || any_in test xs

  -- the place, counted from i, of the first element that passes; the test sees the place too
  unfoldable pub first_in : (ℕ → A → Bool) → ℕ → List A → Option ℕ
  first_in test i [] = none
  first_in test i (x ∷ xs) = elim (test i x) [ true ↦ some i | false ↦ first_in test (suc i) xs ]

-- whether a number stands in a list
unfoldable pub elem : ℕ → List ℕ → Bool
elem n = any_in (eqb n)

-- whether some number stands twice in a list
unfoldable pub twice : List ℕ → Bool
twice [] = false
twice (x ∷ xs) = elem x xs || twice xs

-- whether two lists of numbers are the same
unfoldable pub same : List ℕ → List ℕ → Bool
same [] [] = true
same [] (y ∷ ys) = false
same (x ∷ xs) [] = false
same (x ∷ xs) (y ∷ ys) = elim (eqb x y) [ true ↦ same xs ys | false ↦ false ]

-- the greatest f i below n, 0 where there is none
unfoldable pub max_below : (ℕ → ℕ) → ℕ → ℕ
max_below f zero = 0
max_below f (suc n) = max (max_below f n) (f n)
