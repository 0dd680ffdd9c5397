-- What `==` answers of two parts.
use Rattle.std.proofs.Common.{◌≡◌, ℕ, List, [], ◌∷◌, eqb, true, false, ◌&&◌, Bool}
use Rattle.std.proofs.Math.Path.{refl}
use lib.Pointwise.{pointwise}
use Rattle.lists.specs.Search.{same}

-- a first pair, and what is said of the others
pairs_same : (b p s : Bool) → p ≡ s → b && p ≡ elim b [ true ↦ s | false ↦ false ]
pairs_same true p s e = e
pairs_same false p s e = refl

-- `==` of two parts answers whether they are the same
pub pointwise_same : (a b : List ℕ) → pointwise eqb a b ≡ same a b
unfolding same
pointwise_same [] [] = refl
pointwise_same [] (y ∷ ys) = refl
pointwise_same (x ∷ xs) [] = refl
pointwise_same (x ∷ xs) (y ∷ ys) = pairs_same (eqb x y) _ _ (pointwise_same xs ys)
