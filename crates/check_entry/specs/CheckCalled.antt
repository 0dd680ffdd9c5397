-- What the contract of the check's entry says, and that it allows one result for each input.
use Rattle.std.specs.Prelude.{◌≡◌, List, ℕ}
use Rattle.std.proofs.Common.{sym, ◌∙◌}
use Rattle.rules.specs.Entries.{code_of, check_refusal_for_c, rows_for_c, ring_for_c, check_numbers_for_c}

-- Of a table and the lent rows, ring and numbers: the code, and what the three hold afterwards.
pub record CheckCalled (t rows₀ ring₀ numbers₀ : List ℕ) (answered : ℕ) (rows_now ring_now numbers_now : List ℕ) : Type 0 where
  pub code : answered ≡ code_of (check_refusal_for_c t rows₀ ring₀ numbers₀)
  pub rows : rows_now ≡ rows_for_c t rows₀ ring₀ numbers₀
  pub ring : ring_now ≡ ring_for_c t rows₀ ring₀ numbers₀
  pub numbers : numbers_now ≡ check_numbers_for_c t rows₀ ring₀ numbers₀

-- any two codes and buffer contents that it allows for one input are equal
pub one_check_call : (t rows ring numbers : List ℕ) (a b : ℕ) (r s p q x y : List ℕ)
    → CheckCalled t rows ring numbers a r p x
    → CheckCalled t rows ring numbers b s q y
    → (a ≡ b) × (r ≡ s) × (p ≡ q) × (x ≡ y)
one_check_call t rows ring numbers a b r s p q x y c d =
    (c.code ∙ sym d.code, c.rows ∙ sym d.rows, c.ring ∙ sym d.ring, c.numbers ∙ sym d.numbers)
