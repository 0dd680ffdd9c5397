-- Laws of the numbers that stand twice in a list.
use Rattle.std.specs.Prelude.{◌≡◌, true, false, ℕ, zero, suc, ◌+◌, ◌<◌, length, get_or, take, eqb}
use Rattle.std.proofs.Math.Path.{refl, sym}
use Rattle.std.proofs.Common.{◌∙◌, arith, not-suc-le-zero, add-one, length-take, take-suc, get_or-take, ne_eqb}
use mathlib.Core.List.{List, [], ◌∷◌, ◌++◌}
use Rattle.std.proofs.lemmas.Bool.{eqb-false}
use Rattle.lists.specs.Search.{elem, twice}
use Rattle.lists.specs.Tests.{true≢, by_test, or_none, neither}
use Rattle.lists.specs.ListLaws.{elem_at, elem_cons, elem_place, elem_more}

-- no number stands twice: any two places differ, and the other way round

pub twice_apart : (l : List ℕ) → twice l ≡ false → (i j : ℕ) → i < j → j < length l → get_or l i 0 ≡ get_or l j 0 → ⊥
unfolding twice
twice_apart [] t i j h k e = not-suc-le-zero k
twice_apart (x ∷ l) t i zero h k e = not-suc-le-zero h
twice_apart (x ∷ l) t zero (suc j) h k e = true≢ (rw e (elem_at l j (omega arith))) (or_none (elem x l) (twice l) t).0
twice_apart (x ∷ l) t (suc i) (suc j) h k e =
    twice_apart l (or_none (elem x l) (twice l) t).1 i j (omega arith) (omega arith) e

pub apart_twice : (l : List ℕ) → ((i j : ℕ) → i < j → j < length l → get_or l i 0 ≡ get_or l j 0 → ⊥) → twice l ≡ false
unfolding twice
apart_twice [] h = refl
apart_twice (x ∷ l) h =
    by_test (elem x l)
    (λ q. let r = elem_place x l q in absurd (h 0 (suc r.0) (omega arith) (omega (arith, r.1)) (sym r.2)))
    (λ q. rw q (apart_twice l (λ i j a b. h (suc i) (suc j) (omega arith) (omega arith))))

-- one number more at the end of a list

once_more : (l : List ℕ) (x : ℕ) → twice l ≡ false → elem x l ≡ false → twice (l ++ x ∷ []) ≡ false
unfolding twice
once_more [] x t e = neither (elem x []) false e refl
once_more (y ∷ l) x t e =
    let s = or_none (elem y l) (twice l) t in
    let f = or_none (eqb x y) (elem x l) (sym (elem_cons x y l) ∙ e) in
    neither (elem y (l ++ x ∷ [])) (twice (l ++ x ∷ []))
    (elem_more y l x ∙ neither (elem y l) (eqb y x) s.0 (ne_eqb y x (λ q. eqb-false x y f.0 (sym q))))
    (once_more l x s.1 f.1)

-- a walk that has come to i meets a number that it met before, or one that is new

module _ (p : List ℕ) (i : ℕ) where
  pub met_again : i < length p → elem (get_or p i 0) (take i p) ≡ true → true ≡ twice p
  met_again h e =
      let r = elem_place (get_or p i 0) (take i p) e in
      let k : r.0 < i = omega (arith, r.1, length-take i p) in
      by_test (twice p) sym
      (λ q. absurd (twice_apart p q r.0 i k h (sym (get_or-take i p r.0 0 k) ∙ r.2)))

  pub met_new : i < length p
      → twice (take i p) ≡ false
      → elem (get_or p i 0) (take i p) ≡ false
      → twice (take (i + 1) p) ≡ false
  met_new h t e = rw (add-one, take-suc p i 0 h) (once_more (take i p) (get_or p i 0) t e)
