-- What the contract of the step's entry says, and that it allows one result for each input.
use Rattle.std.specs.Prelude.{◌≡◌, List, ℕ}
use Rattle.std.proofs.Common.{sym, ◌∙◌}
use Rattle.rules.specs.Machine.{Pair}
use Rattle.rules.specs.Entries.{code_of, step_refusal_for_c, heard_step_for_c, step_numbers_for_c}

-- Of a table, the lent heard state, a pair and the lent numbers: the code, and what the two hold afterwards.
pub record StepCalled (t heard₀ : List ℕ) (p : Pair) (numbers₀ : List ℕ) (answered : ℕ) (heard_now numbers_now : List ℕ) : Type 0 where
  pub code : answered ≡ code_of (step_refusal_for_c t heard₀ p numbers₀)
  pub heard : heard_now ≡ heard_step_for_c t heard₀ p numbers₀
  pub numbers : numbers_now ≡ step_numbers_for_c t heard₀ p numbers₀

-- any two codes and buffer contents that it allows for one input are equal
pub one_step_call : (t heard : List ℕ) (pair : Pair) (numbers : List ℕ) (a b : ℕ) (r s x y : List ℕ)
    → StepCalled t heard pair numbers a r x
    → StepCalled t heard pair numbers b s y
    → (a ≡ b) × (r ≡ s) × (x ≡ y)
one_step_call t heard pair numbers a b r s x y c d =
    (c.code ∙ sym d.code, c.heard ∙ sym d.heard, c.numbers ∙ sym d.numbers)
