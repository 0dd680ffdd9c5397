-- `machine::choices` meets its contract: an accepted table has its choices, a refused one has none.
-- Assumes nothing.
use Rattle.std.proofs.Common.{sym, ap, ◌∙◌, List, ℕ}
use Rattle.rules.specs.Answers.{choices_in}
use Rattle.stepper.specs.StepLaws.{choices_accepted, choices_refused}
use Rattle.machine.proofs.choices.Goals as goal

pub returns-in_default : goal.returns-in_default
returns-in_default c = choices_refused _ _ _ (sym c.in_default.ensures.refusal)

pub returns : goal.returns
returns c =
    choices_accepted _ _ _ _ _ c.in-Ok.accepted.accepted c.next_hops-nexts.ensures c.asked_bytes-asked.ensures c.choice_bytes.ensures
    ∙ ap (λ (t : List ℕ). choices_in t c.args.heard.now) c.in-Ok.ensures.bytes
