-- Laws of the run's text by its answer.
use Rattle.std.specs.Prelude.{◌≡◌, List, ◌++◌, ℕ, Result, Ok, Err}
use Rattle.rules.specs.Text.{refused_line}
use Rattle.rules.specs.RunText.{run_line, run_text_of}
use Rattle.answer.specs.declared.Refusal.{Refusal}
use Rattle.answer.specs.declared.RunAnswer.{RunAnswer}
use Rattle.answer.specs.Moves.{run_refusal_in, run_numbers_in}

module _ (a : Result RunAnswer Refusal) (lines : List ℕ) where
  pub accepted_text : (ran : RunAnswer)
      → a ≡ Ok ran
      → run_line (run_numbers_in (Ok ran)) ++ lines ≡ run_text_of (run_refusal_in a) (run_numbers_in a) lines
  unfolding run_text_of
  accepted_text ran e = rw e

  pub refused_text : (r : Refusal)
      → a ≡ Err r
      → refused_line r.number r.place ≡ run_text_of (run_refusal_in a) (run_numbers_in a) lines
  unfolding run_text_of
  refused_text r e = rw e
