-- Laws of what the step's and the run's answers say: they say everything, so two answers that say the same are equal.
use Rattle.std.specs.Prelude.{◌≡◌, ℤ, Result, Ok, Err}
use Rattle.std.proofs.Common.{ap}
use Rattle.lists.specs.Tests.{impossible}
use Rattle.answer.specs.declared.Refusal.{Refusal}
use Rattle.answer.specs.declared.RunAnswer.{RunAnswer}
use Rattle.answer.specs.RefusedLaws.{told_tells}
use Rattle.answer.specs.Moves.{step_refusal_in, movement_in, run_refusal_in, run_numbers_in}

-- a step's answer is told by its refusal and its movement
pub step_tells : (a b : Result ℤ Refusal) → step_refusal_in a ≡ step_refusal_in b → movement_in a ≡ movement_in b → a ≡ b
step_tells (Ok m) (Ok n) e f = cc
step_tells (Ok m) (Err r) e f = impossible cc
step_tells (Err r) (Ok m) e f = impossible cc
step_tells (Err r) (Err s) e f = ap Err (told_tells r s e)

-- a run's answer is told by its refusal and its numbers
pub run_tells : (a b : Result RunAnswer Refusal)
    → run_refusal_in a ≡ run_refusal_in b
    → run_numbers_in a ≡ run_numbers_in b
    → a ≡ b
unfolding run_numbers_in
run_tells (Ok a) (Ok b) e f =
    let s : a.steps ≡ b.steps = cc in
    let u : a.ups ≡ b.ups = cc in
    let d : a.downs ≡ b.downs = cc in
    let l : a.last ≡ b.last = cc in
    let r : a.rounds ≡ b.rounds = cc in
    λ i. Ok (record { steps = s i; ups = u i; downs = d i; last = l i; rounds = r i })
run_tells (Ok a) (Err r) e f = impossible cc
run_tells (Err r) (Ok a) e f = impossible cc
run_tells (Err r) (Err s) e f = ap Err (told_tells r s e)
