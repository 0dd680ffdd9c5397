-- Parts of a list: from a start to an end, and to the list's end.
use Rattle.std.specs.Prelude.{◌≡◌, List, [], ◌∷◌, ℕ, zero, suc, ◌+◌, ◌-◌, ◌≤◌, min, length, take, drop, ltb}
use Rattle.std.proofs.Common.{sym, ◌∙◌, arith, length-take, length-drop, take_all, ltb-true, ltb-false}
use Rattle.std.proofs.Math.Seq.{take-nil}
use Rattle.lists.specs.Tests.{by_test}

module _ {A : Type 0} where
  -- the part from k to the end is what is left from k on
  pub part_to_end : (l : List A) (k : ℕ) → take (length l - k) (drop k l) ≡ drop k l
  part_to_end l k = take_all (length l - k) (drop k l) (omega (arith, length-drop k l))

  -- n elements from a on, where so many are there
  pub part_length : (l : List A) (a n : ℕ) → a + n ≤ length l → length (take (a + n - a) (drop a l)) ≡ n
  part_length l a n h = length-take (a + n - a) (drop a l) ∙ omega (arith, length-drop a l)

  -- n elements from a on, or as many as there are
  pub part_clipped : (l : List A) (a n e : ℕ) → e ≡ min (a + n) (length l) → take (e - a) (drop a l) ≡ take n (drop a l)
  part_clipped l a n e q =
      let d = length-drop a l in
      by_test (ltb (length l) (a + n))
      (λ x. let m = ltb-true (length l) (a + n) x in take_all (e - a) (drop a l) (omega arith) ∙ sym
      (take_all n (drop a l) (omega arith)))
      (λ x. let m = ltb-false (length l) (a + n) x in let k : e - a ≡ n = omega arith in rw k)

  -- the rest from k of the first n is the part from k to n
  pub rest_of_first : (k n : ℕ) (l : List A) → drop k (take n l) ≡ take (n - k) (drop k l)
  rest_of_first zero n l = let z : n - 0 ≡ n = omega arith in rw z
  rest_of_first (suc k) zero l = let z : 0 - suc k ≡ 0 = omega arith in rw z
  rest_of_first (suc k) (suc n) [] = sym (take-nil (suc n - suc k))
  rest_of_first (suc k) (suc n) (x ∷ l) = let z : suc n - suc k ≡ n - k = omega arith in rw z (rest_of_first k n l)
