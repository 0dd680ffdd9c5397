-- What the contract of the run says, and that it allows one result for each input.
use Rattle.std.specs.Prelude.{◌≡◌, List, ℕ, ℤ, Result}
use Rattle.std.proofs.Common.{sym, ◌∙◌}
use Rattle.rules.specs.Run.{Tally}
use Rattle.rules.specs.Answers.{run_refusal, run_numbers, heard_after_run, sums_after_run}
use Rattle.answer.specs.declared.RunAnswer.{RunAnswer}
use Rattle.answer.specs.declared.Refusal.{Refusal}
use Rattle.answer.specs.Moves.{run_refusal_in, run_numbers_in}
use Rattle.answer.specs.MovesLaws.{run_tells}

-- the answer of an accepted run: what the tally has counted
unfoldable pub accepted : Tally → RunAnswer
accepted y =
    record { steps = y.steps; ups = y.ups; downs = y.downs; last = y.last_change; rounds = y.rounds }

-- the answer, the heard state and the sums are those of a tally
pub record Followed (y : Tally) (a : RunAnswer) (after : List ℕ) (sums_now : List ℤ) : Type 0 where
  pub answer : a ≡ accepted y
  pub heard : after ≡ y.heard
  pub sums : sums_now ≡ y.sums

-- the answer, and the heard state and the sums afterwards
pub record Ran (table before s : List ℕ) (lent : List ℤ) (a : Result RunAnswer Refusal) (after : List ℕ) (sums_now : List ℤ) : Type 0 where
  pub refusal : run_refusal_in a ≡ run_refusal table before s lent
  pub numbers : run_numbers_in a ≡ run_numbers table before s lent
  pub heard : after ≡ heard_after_run table before s lent
  pub sums : sums_now ≡ sums_after_run table before s lent

-- any two answers and buffer contents that it allows for one input are equal
pub one_run : (table heard s : List ℕ) (sums : List ℤ) (a b : Result RunAnswer Refusal) (x y : List ℕ) (p q : List ℤ)
    → Ran table heard s sums a x p
    → Ran table heard s sums b y q
    → (a ≡ b) × (x ≡ y) × (p ≡ q)
one_run table heard s sums a b x y p q c d = (
  run_tells a b (c.refusal ∙ sym d.refusal) (c.numbers ∙ sym d.numbers),
  c.heard ∙ sym d.heard,
  c.sums ∙ sym d.sums,
)
