-- Lists on the way to what they become, as loops leave them. No rule is written with these; the proofs of the code are.
use Rattle.std.specs.Prelude.{ℕ, Bool, true, List, [], ◌∷◌, ◌++◌, drop, set}
use Rattle.lists.specs.Fill.{tabulate}

-- a list that is made anew from the front, and has come to k: f below k, what stood there from k on
unfoldable pub renewed : {A : Type 0} → (ℕ → A) → List A → ℕ → List A
renewed f old k = tabulate f k ++ drop k old

-- a list of marks with those at the given places set
unfoldable pub marked : List Bool → List ℕ → List Bool
marked marks [] = marks
marked marks (n ∷ ns) = marked (set marks n true) ns
