-- Every worked example as one list.
use Rattle.std.specs.Prelude.{List, ◌++◌}
use Rattle.rules.specs.TriedExamples.{Example}
use Rattle.rules.specs.CheckExamples.{check_examples}
use Rattle.rules.specs.RefusalExamples.{refusal_examples}
use Rattle.rules.specs.RunExamples.{run_examples}
use Rattle.rules.specs.TextExamples.{text_examples}
use Rattle.rules.specs.EntryExamples.{entry_examples}
use Rattle.rules.specs.SmallExamples.{small_examples}

unfoldable pub examples : List Example
examples = check_examples ++ (refusal_examples ++ (run_examples ++ (text_examples ++ (entry_examples ++ small_examples))))
