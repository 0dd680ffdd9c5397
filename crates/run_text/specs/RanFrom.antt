-- What is left after a run from a heard state whose text is laid over the front of a buffer.
use Rattle.std.specs.Prelude.{ℕ, ◌≡◌, List, replicate, pos}
use Rattle.rules.specs.Answers.{heard_after_run}
use Rattle.rules.specs.RunText.{run_text}
use Rattle.text_writing.specs.Lay.{Laid}

pub record RanFrom (table heard pairs text heard_now text_now : List ℕ) (count : ℕ) : Type 0 where
  pub lines : Laid 0 (run_text table heard pairs (replicate 64 (pos 0))) text text_now count
  pub state : heard_now ≡ heard_after_run table heard pairs (replicate 64 (pos 0))
