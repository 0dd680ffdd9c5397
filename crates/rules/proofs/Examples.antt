-- One statement about the definitions: what is tried gives what is written by hand.
use Rattle.std.specs.Prelude.{◌≡◌, List, ◌++◌, map}
use Rattle.std.proofs.Common.{sym, ◌∙◌}
use Rattle.std.proofs.lemmas.List.{map-append}
use Rattle.rules.specs.TriedExamples.{Example, Works, outcome}
use Rattle.rules.specs.Examples.{examples}
use Rattle.rules.proofs.CheckExamples.{worked_check}
use Rattle.rules.proofs.RefusalExamples.{worked_refusal}
use Rattle.rules.proofs.RunExamples.{worked_run}
use Rattle.rules.proofs.TextExamples.{worked_text}
use Rattle.rules.proofs.EntryExamples.{worked_entry}
use Rattle.rules.proofs.SmallExamples.{worked_small}

-- one list behind the other works where both do
both_work : {a b : List Example} → Works a → Works b → Works (a ++ b)
both_work {a} {b} p q =
    record {
      works = map-append (λ e. outcome e.input) a b ∙ rw (p.works, q.works) (sym (map-append (λ e. e.expected) a b));
    }

pub worked : map (λ e. outcome e.input) examples ≡ map (λ e. e.expected) examples
unfolding examples
worked =
    (both_work worked_check (both_work worked_refusal (both_work worked_run (both_work worked_text (both_work worked_entry worked_small))))
    ).works
