-- A list taken from the left, one element after the other.
use Rattle.std.specs.Prelude.{List, [], ◌∷◌}

-- the state after every element, from the state y
unfoldable pub fold_left : {A B : Type 0} → (B → A → B) → B → List A → B
fold_left f y [] = y
fold_left f y (x ∷ xs) = fold_left f (f y x) xs
