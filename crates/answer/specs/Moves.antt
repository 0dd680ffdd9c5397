-- What the step's and the run's answers say in the numbers and values of the rules page.
use Rattle.std.specs.Prelude.{ℕ, List, [], ℤ, pos, replicate, Result, Ok, Err}
use Rattle.std.proofs.Math.Option.{Option}
use Rattle.rules.specs.Refusals as rules
use Rattle.rules.specs.Run.{counts_of}
use Rattle.answer.specs.declared.Refusal.{Refusal}
use Rattle.answer.specs.declared.RunAnswer.{RunAnswer}
use Rattle.answer.specs.Refused.{refused_in}

-- whether the step is refused, and with which number and place
abbrev pub step_refusal_in : Result ℤ Refusal → Option rules.Refusal
step_refusal_in a = refused_in a

-- "The step answers the movement of v"; "A refusal's other numbers are 0"
abbrev pub movement_in : Result ℤ Refusal → ℤ
movement_in (Ok m) = m
movement_in (Err r) = pos 0

-- whether the run is refused, and with which number and place
abbrev pub run_refusal_in : Result RunAnswer Refusal → Option rules.Refusal
run_refusal_in a = refused_in a

-- "the number of steps, of ups, of downs, the number of the last step that changed a choice .., and the rounds"; "A
-- refusal's other numbers are 0"
unfoldable pub run_numbers_in : Result RunAnswer Refusal → List ℕ
run_numbers_in (Ok a) =
    counts_of (record {
      heard = [];
      steps = a.steps;
      ups = a.ups;
      downs = a.downs;
      last_change = a.last;
      rounds = a.rounds;
      since = [];
      sums = [];
    })
run_numbers_in (Err r) = replicate 5 0
