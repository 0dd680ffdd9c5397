-- The text of the check's answer, for any answer and any bytes.
use Rattle.std.specs.Prelude.{ℕ, List}
use Rattle.rules.specs.Text.{text_of}
use Rattle.answer.specs.declared.Answer.{Answer}
use Rattle.answer.specs.Meaning.{meaning, numbers}

-- the rules' text of what the answer says, of rows and a ring
abbrev pub answer_text : Answer → List ℕ → List ℕ → List ℕ
answer_text a rows ring = text_of (meaning a.verdict) (numbers a) rows ring
