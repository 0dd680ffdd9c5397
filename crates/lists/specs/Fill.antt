-- Lists made from the front: one element or one block for each number below a bound, and a list padded to a length.
use Rattle.std.specs.Prelude.{ℕ, zero, suc, List, [], ◌∷◌, ◌++◌, take, replicate}

module _ {A : Type 0} where
  -- f 0, f 1, .. below n
  unfoldable pub tabulate : (ℕ → A) → ℕ → List A
  tabulate f zero = []
  tabulate f (suc n) = tabulate f n ++ f n ∷ []

  -- the lists f 0, f 1, .. below n, end to end
  unfoldable pub blocks : (ℕ → List A) → ℕ → List A
  blocks f zero = []
  blocks f (suc n) = blocks f n ++ f n

  -- the list, then x up to n elements; what is past n goes
  unfoldable pub padded : ℕ → A → List A → List A
  padded n x xs = take n (xs ++ replicate n x)
