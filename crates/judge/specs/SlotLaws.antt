-- Laws of the search through a vertex's slots: what it finds is the record of the first path that passes.
use Rattle.std.specs.Prelude.{◌≡◌, refl, ◌≢◌, ◌⊎◌, Bool, false, List, [], ◌∷◌, ◌++◌, map, ℕ, zero, suc, ◌<◌, length, get_or, replicate}
use Rattle.std.proofs.Common.{sym, ap, ◌∙◌, inl, inr, arith}
use Rattle.lists.specs.Tests.{by_test}
use Rattle.rules.specs.Table.{Path, path_at, first}
use Rattle.laws.specs.PathLaws.{first_of_none, first_head, first_tail}
use Rattle.judge.specs.Standing.{first_record}
use Rattle.judge.specs.StandingLaws.{record_nil, record_empty, record_pass, record_fail}

-- no element is the mark of an empty slot
abbrev pub Filled : List ℕ → Type 0
Filled l = (k : ℕ) → k < length l → get_or l k 0 ≢ 65535

module _ (i : ℕ) (is : List ℕ) (f : Filled (i ∷ is)) where
  filled_head : i ≢ 65535
  filled_head = f 0 (omega arith)

  filled_tail : Filled is
  filled_tail k h = f (suc k) (omega arith)

module _ (test : ℕ → Bool) where
  -- empty slots add nothing
  pub record_padded : (l : List ℕ) (n : ℕ) → Filled l → first_record test (l ++ replicate n 65535) ≡ first_record test l
  record_padded [] zero f = refl
  record_padded [] (suc n) f = record_empty test (replicate n 65535) ∙ sym (record_nil test)
  record_padded (i ∷ is) n f =
      by_test (test i)
      (λ q. record_pass test i _ (filled_head i is f) q ∙ sym (record_pass test i is (filled_head i is f) q))
      (λ q. record_fail test i _ (filled_head i is f) q ∙ record_padded is n (filled_tail i is f)
      ∙ sym (record_fail test i is (filled_head i is f) q))

  -- what is found is none or one of the records
  pub record_among : (l : List ℕ) → Filled l → (first_record test l ≡ 65535) ⊎ ((k : ℕ) × (k < length l) × (get_or l k 0 ≡ first_record test l))
  record_among [] f = inl (record_nil test)
  record_among (i ∷ is) f =
      by_test (test i)
      (λ q. inr (0, omega arith, sym (record_pass test i is (filled_head i is f) q)))
      (λ q. later q (record_among is (filled_tail i is f)))
    where
      later : test i ≡ false
          → (first_record test is ≡ 65535) ⊎ ((k : ℕ) × (k < length is) × (get_or is k 0 ≡ first_record test is))
          → (first_record test (i ∷ is) ≡ 65535) ⊎ ((k : ℕ) × (k < suc (length is)) × (get_or (i ∷ is) k 0 ≡ first_record test (i ∷ is)))
      later q (inl e) = inl (record_fail test i is (filled_head i is f) q ∙ e)
      later q (inr (k, h, e)) = inr (suc k, omega arith, e ∙ sym (record_fail test i is (filled_head i is f) q))

-- the record found is that of the first path
pub record_path : (t : List ℕ) (test : Path → Bool) → path_at t 65535 ≡ [] → (l : List ℕ) → Filled l
    → path_at t (first_record (λ i. test (path_at t i)) l) ≡ first test (map (path_at t) l)
record_path t test e [] f = ap (path_at t) (record_nil (λ i. test (path_at t i))) ∙ e ∙ sym (first_of_none test)
record_path t test e (i ∷ is) f =
    let look : ℕ → Bool = λ j. test (path_at t j) in
    by_test (test (path_at t i))
    (λ q. ap (path_at t) (record_pass look i is (filled_head i is f) q) ∙ sym (first_head test (path_at t i) (map (path_at t) is) q))
    (λ q. ap (path_at t) (record_fail look i is (filled_head i is f) q) ∙ record_path t test e is (filled_tail i is f)
    ∙ sym (first_tail test (path_at t i) (map (path_at t) is) q))
