-- What the contract of the step says, and that it allows one result for each input.
use Rattle.std.specs.Prelude.{◌≡◌, List, ℕ, ℤ, Result}
use Rattle.std.proofs.Common.{sym, ◌∙◌}
use Rattle.rules.specs.Machine.{Pair}
use Rattle.rules.specs.Answers.{step_refusal, step_movement, heard_after_step}
use Rattle.answer.specs.declared.Refusal.{Refusal}
use Rattle.answer.specs.Moves.{step_refusal_in, movement_in}
use Rattle.answer.specs.MovesLaws.{step_tells}

-- the answer and the heard state afterwards
pub record Stepped (table before : List ℕ) (p : Pair) (a : Result ℤ Refusal) (after : List ℕ) : Type 0 where
  pub refusal : step_refusal_in a ≡ step_refusal table before p
  pub movement : movement_in a ≡ step_movement table before p
  pub heard : after ≡ heard_after_step table before p

-- any two answers and states that it allows for one input are equal
pub one_step : (table heard : List ℕ) (p : Pair) (a b : Result ℤ Refusal) (x y : List ℕ)
    → Stepped table heard p a x
    → Stepped table heard p b y
    → (a ≡ b) × (x ≡ y)
one_step table heard p a b x y q r =
    (step_tells a b (q.refusal ∙ sym r.refusal) (q.movement ∙ sym r.movement), q.heard ∙ sym r.heard)
