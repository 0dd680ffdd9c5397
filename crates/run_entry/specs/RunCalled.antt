-- What the contract of the run's entry says, and that it allows one result for each input.
use Rattle.std.specs.Prelude.{◌≡◌, List, ℕ}
use Rattle.std.proofs.Common.{sym, ◌∙◌}
use Rattle.rules.specs.Entries.{code_of, run_refusal_for_c, heard_run_for_c, sums_for_c, run_numbers_for_c}

-- Of a table, the lent heard state, a schedule, the lent sums and numbers: the code, and what the three hold afterwards.
pub record RunCalled (t heard₀ s sums₀ numbers₀ : List ℕ) (answered : ℕ) (heard_now sums_now numbers_now : List ℕ) : Type 0 where
  pub code : answered ≡ code_of (run_refusal_for_c t heard₀ s sums₀ numbers₀)
  pub heard : heard_now ≡ heard_run_for_c t heard₀ s sums₀ numbers₀
  pub sums : sums_now ≡ sums_for_c t heard₀ s sums₀ numbers₀
  pub numbers : numbers_now ≡ run_numbers_for_c t heard₀ s sums₀ numbers₀

-- any two codes and buffer contents that it allows for one input are equal
pub one_run_call : (t heard schedule sums numbers : List ℕ) (a b : ℕ) (r s p q x y : List ℕ)
    → RunCalled t heard schedule sums numbers a r p x
    → RunCalled t heard schedule sums numbers b s q y
    → (a ≡ b) × (r ≡ s) × (p ≡ q) × (x ≡ y)
one_run_call t heard schedule sums numbers a b r s p q x y c d =
    (c.code ∙ sym d.code, c.heard ∙ sym d.heard, c.sums ∙ sym d.sums, c.numbers ∙ sym d.numbers)
