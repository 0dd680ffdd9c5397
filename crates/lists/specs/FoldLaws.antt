-- Laws of the fold from the left: step and end, two folds one after the other, what a fold keeps, and how a part of the
-- state goes.
use Rattle.std.specs.Prelude.{◌≡◌, ℕ, suc, ◌+◌, ◌<◌, length, get_or, take}
use Rattle.std.proofs.Math.Path.{refl}
use Rattle.std.proofs.Common.{ap, ◌∙◌, add-one, take-suc}
use mathlib.Core.List.{List, [], ◌∷◌, ◌++◌, append-nil, append_assoc}
use native.Mathlib.Omega.{arith}
use Rattle.lists.specs.Fold.{fold_left}

module _ {A B : Type 0} (f : B → A → B) where
  pub fold_nil : (y : B) → fold_left f y [] ≡ y
  unfolding fold_left
  fold_nil y = refl

  pub fold_cons : (y : B) (x : A) (xs : List A) → fold_left f y (x ∷ xs) ≡ fold_left f (f y x) xs
  unfolding fold_left
  fold_cons y x xs = refl

  -- a run over both is a run over the second after a run over the first
  pub fold_append : (y : B) (xs ys : List A) → fold_left f y (xs ++ ys) ≡ fold_left f (fold_left f y xs) ys
  unfolding fold_left
  fold_append y [] ys = refl
  fold_append y (x ∷ xs) ys = fold_append (f y x) xs ys

  -- over one element more it takes one step more
  pub fold_more : (y : B) (xs : List A) (k : ℕ) (d : A)
      → k < length xs
      → fold_left f y (take (k + 1) xs) ≡ f (fold_left f y (take k xs)) (get_or xs k d)
  fold_more y xs k d h =
      ap (fold_left f y) (ap (λ n. take n xs) (add-one k) ∙ take-suc xs k d h) ∙ fold_append y (take k xs) (get_or xs k d ∷ [])
      ∙ fold_cons (fold_left f y (take k xs)) (get_or xs k d) [] ∙ fold_nil (f (fold_left f y (take k xs)) (get_or xs k d))

  -- what every step keeps, the fold keeps
  pub fold_keeps : (P : B → Type 0)
      → ((y : B) (x : A) → P y → P (f y x))
      → (y : B) (xs : List A)
      → P y
      → P (fold_left f y xs)
  unfolding fold_left
  fold_keeps P keep y [] h = h
  fold_keeps P keep y (x ∷ xs) h = fold_keeps P keep (f y x) xs (keep y x h)

  -- what every step keeps at an element of a kind, the fold keeps over elements of that kind
  pub fold_keeps_of : (Q : A → Type 0) (P : B → Type 0)
      → ((y : B) (x : A) → Q x → P y → P (f y x))
      → (d : A) (y : B) (xs : List A)
      → ((k : ℕ) → k < length xs → Q (get_or xs k d))
      → P y
      → P (fold_left f y xs)
  unfolding fold_left
  fold_keeps_of Q P keep d y [] all h = h
  fold_keeps_of Q P keep d y (x ∷ xs) all h =
      fold_keeps_of Q P keep d (f y x) xs (λ k l. all (suc k) (omega arith)) (keep y x (all 0 (omega arith)) h)

  -- what every step keeps of the elements so far and the state, the fold keeps
  pub fold_follows : (P : List A → B → Type 0)
      → ((done : List A) (y : B) (x : A) → P done y → P (done ++ x ∷ []) (f y x))
      → (done : List A) (y : B) (xs : List A)
      → P done y
      → P (done ++ xs) (fold_left f y xs)
  unfolding fold_left
  fold_follows P keep done y [] h = rw (append-nil done) h
  fold_follows P keep done y (x ∷ xs) h =
      rw (append_assoc done (x ∷ []) xs) at (fold_follows P keep (done ++ x ∷ []) (f y x) xs (keep done y x h))

  -- what every step keeps between two states, two folds over the same elements keep
  pub fold_alike : (R : B → B → Type 0)
      → ((y z : B) (x : A) → R y z → R (f y x) (f z x))
      → (y z : B) (xs : List A)
      → R y z
      → R (fold_left f y xs) (fold_left f z xs)
  unfolding fold_left
  fold_alike R keep y z [] h = h
  fold_alike R keep y z (x ∷ xs) h = fold_alike R keep (f y x) (f z x) xs (keep y z x h)

  -- a part of the state that goes its own way, goes it through the fold
  pub fold_part : {C : Type 0} (g : B → C) (h : C → A → C)
      → ((y : B) (x : A) → g (f y x) ≡ h (g y) x)
      → (y : B) (xs : List A)
      → g (fold_left f y xs) ≡ fold_left h (g y) xs
  unfolding fold_left
  fold_part g h e y [] = refl
  fold_part g h e y (x ∷ xs) = rw (← (e y x)) (fold_part g h e (f y x) xs)

  -- what grows by one at each step has grown by the length
  pub fold_grows : (g : B → ℕ)
      → ((y : B) (x : A) → g (f y x) ≡ suc (g y))
      → (y : B) (xs : List A)
      → g (fold_left f y xs) ≡ g y + length xs
  unfolding fold_left
  fold_grows g e y [] = omega arith
  fold_grows g e y (x ∷ xs) = omega (arith, fold_grows g e (f y x) xs, e y x)
