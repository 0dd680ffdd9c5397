-- The laws of accepted tables, and all of them in one place.
pub mod Shape
pub mod Accepted
pub mod Blocks
pub mod ShapeLaws
pub mod Sanity
pub mod Deepest
-- What the page says in plain words, and that the definitions say exactly that.
pub mod Plain
pub mod ExactRules
pub mod Exact
pub mod ExactHeard
pub mod ExactChoice
pub mod ExactRun
pub mod ExactRing
-- The laws of the definitions that those and the proofs of the code use.
pub mod TableLaws
pub mod PassLaws
pub mod PathLaws
pub mod GreedyLaws
pub mod RingLaws
pub mod ReportLaws
pub mod MachineLaws
pub mod RunLaws
pub mod RoundLaws
pub mod ScheduleLaws
pub mod AnswerLaws
pub mod RefusalLaws
pub mod EntryLaws
pub mod TextLaws
pub mod RunTextLaws
