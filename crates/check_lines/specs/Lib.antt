-- The text of an answer.
pub mod AnswerText
-- The text of each of the three verdicts.
pub mod VerdictTextLaws
