-- The theorems that rest on one another, over a table's bytes, and examples last.
pub mod Settling
pub mod SettlingAnswered
pub mod StableAssignments
pub mod RestingPoints
pub mod FinalState
pub mod SettlingExamples
-- The published examples of paper 001.
pub mod PublishedExamples
-- The laws behind them.
pub mod RowLaws
pub mod CallLaws
pub mod SettledLaws
pub mod StoringLaws
pub mod PublishedLaws
