-- The worked examples work: each list, what is no number, and all lists in one statement.
pub mod RefusalExamples
pub mod CheckExamples
pub mod RunExamples
pub mod EntryExamples
pub mod TextExamples
pub mod SmallExamples
pub mod StatementExamples
pub mod Examples
