-- Laws of the text by the answer's verdict: what stands behind each other for each of the three.
use Rattle.std.specs.Prelude.{◌≡◌, List, ◌++◌, ℕ}
use Rattle.rules.specs.Text.{codes, verdict_line, row_lines, ring_line, refused_line, text_of}
use Rattle.answer.specs.declared.Verdict.{Verdict}
use Rattle.answer.specs.declared.Verdict.TheVariants.{Complete, Stuck, Refused}
use Rattle.answer.specs.Meaning.{meaning}

module _ (v : Verdict) (numbers rows ring : List ℕ) where
  pub complete_text : v ≡ Complete
      → verdict_line (codes "complete") numbers ++ row_lines rows 63 ≡ text_of (meaning v) numbers rows ring
  unfolding text_of meaning
  complete_text e = rw e

  pub stuck_text : (n : ℕ)
      → v ≡ Stuck n
      → verdict_line (codes "stuck") numbers ++ row_lines rows 63 ++ ring_line n ring ≡ text_of (meaning v) numbers rows ring
  unfolding text_of meaning
  stuck_text n e = rw e

  pub refused_text : (n k : ℕ) → v ≡ Refused n k → refused_line n k ≡ text_of (meaning v) numbers rows ring
  unfolding text_of meaning
  refused_text n k e = rw e
