-- Laws of the check as text: what its answer prints is the text of the table, and 16,384 bytes hold it.
use Rattle.std.specs.Prelude.{◌≡◌, List, ℕ, ◌≤◌, length, take, replicate}
use Rattle.std.proofs.Common.{arith}
use Rattle.std.proofs.lemmas.List.{length-replicate}
use Rattle.rules.specs.Text.{check_text}
use Rattle.laws.specs.TextLaws.{check_text_lem, check_text_fits}
use Rattle.answer.specs.declared.Answer.{Answer}
use Rattle.text_writing.specs.Lay.{Laid}
use Rattle.text_writing.specs.LayLaws.{laid_fits}
use Rattle.check_lines.specs.AnswerText.{answer_text}
use Rattle.checker.specs.Checked.{Checked}

-- what the check's answer prints is the table's text
pub printed_check : {t rows ring : List ℕ} {a : Answer}
    → Checked t (replicate 1024 0) (replicate 64 0) a rows ring
    → answer_text a rows ring ≡ check_text t
printed_check {t} {rows} {ring} {a} checked =
    rw (checked.verdict, checked.numbers, checked.rows, checked.ring)
    (check_text_lem t (replicate 1024 0) (replicate 64 0) (length-replicate {A = ℕ} 1024 0) (length-replicate {A = ℕ} 64 0))

-- in 16,384 bytes the whole text stands in front
pub whole_text : (t before after : List ℕ) (n : ℕ)
    → 16384 ≤ length before
    → Laid 0 (check_text t) before after n
    → (n ≡ length (check_text t)) × (take n after ≡ check_text t)
whole_text t before after n h laid = laid_fits laid (omega (arith, check_text_fits t))
