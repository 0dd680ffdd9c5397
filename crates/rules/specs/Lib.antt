-- The definitions, in the order of the rules page.
pub mod Table
pub mod Greedy
pub mod Stable
pub mod Report
pub mod Machine
pub mod Run
pub mod Rounds
pub mod Refusals
pub mod Answers
pub mod Text
pub mod RunText
pub mod Entries
-- The worked examples: what is tried, the lists, and all of them as one list. proofs/ has the statements that they work.
pub mod TriedExamples
pub mod RefusalExamples
pub mod CheckExamples
pub mod RunExamples
pub mod EntryExamples
pub mod TextExamples
pub mod SmallExamples
pub mod StatementExamples
pub mod Examples
