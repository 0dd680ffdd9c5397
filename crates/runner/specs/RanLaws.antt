-- The two ways through the run.
use Rattle.std.specs.Prelude.{◌≡◌, List, ℕ, ℤ, Ok, Err}
use Rattle.std.proofs.Math.Path.{sym, ap}
use Rattle.std.proofs.Common.{◌∙◌}
use Rattle.std.proofs.Math.Option.{none, some}
use Rattle.rules.specs.Table.{paths_of}
use Rattle.rules.specs.Run.{pairs_in, run}
use Rattle.rules.specs.Answers.{unless, run_refusal, run_numbers, heard_after_run, sums_after_run}
use Rattle.answer.specs.declared.RunAnswer.{RunAnswer}
use Rattle.answer.specs.declared.Refusal as answer
use Rattle.answer.specs.Refused.{told}
use Rattle.answer.specs.Moves.{run_numbers_in}
use Rattle.runner.specs.Ran.{accepted, Followed, Ran}

module _ (table heard s : List ℕ) (sums : List ℤ) where
  -- refused
  pub ran_refused : (r : answer.Refusal) → run_refusal table heard s sums ≡ some (told r) → Ran table heard s sums (Err r) heard sums
  unfolding run_numbers_in run_numbers heard_after_run sums_after_run unless
  ran_refused r e = record { refusal = sym e; numbers = rw e; heard = rw e; sums = rw e }

  -- accepted
  pub ran_accepted : (a : RunAnswer) (after : List ℕ) (sums_now : List ℤ)
      → run_refusal table heard s sums ≡ none
      → Followed (run (paths_of table) heard (pairs_in s)) a after sums_now
      → Ran table heard s sums (Ok a) after sums_now
  unfolding accepted run_numbers_in run_numbers heard_after_run sums_after_run unless
  ran_accepted a after sums_now e w =
      record {
        refusal = sym e;
        numbers = ap (λ (x : RunAnswer). run_numbers_in (Ok x)) w.answer ∙ rw e;
        heard = w.heard ∙ rw e;
        sums = w.sums ∙ rw e;
      }
