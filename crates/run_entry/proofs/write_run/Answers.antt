-- `run_entry::write_run` meets its contract: the numbers are the answer's, in its order, then 0.
-- Assumes nothing.
use mathlib.Core.Path.{ap, ◌∙◌}
use mathlib.Core.List.{List}
use Prim.Native.Nat.{ℕ}
use Rattle.std.specs.Prelude.{Ok}
use Rattle.answer.specs.Moves.{run_numbers_in}
use Rattle.words.specs.Words.{overwritten}
use Rattle.words.specs.WordLaws.{zeros_behind}
use Rattle.run_entry.proofs.write_run.Goals as goal

pub returns : goal.returns
unfolding run_numbers_in
returns c =
    c.write_numbers.ensures
    ∙ ap (λ (l : List ℕ). overwritten l c.args.bytes.now) (zeros_behind (run_numbers_in (Ok c.args.answer)) 3)
