-- The theorems, over a table's bytes, with what they speak of first and examples last; what rests on one another is in proofs/.
pub mod Claims
pub mod Settling
pub mod StableAssignments
pub mod SettlingExamples
-- The published examples of paper 001.
pub mod Published
pub mod PublishedExamples
-- The laws behind them: over bytes, ..
pub mod RowLaws
pub mod CallLaws
pub mod SettledLaws
pub mod PublishedLaws
-- .. and over paths, each file on the ones before it.
pub mod EnteringLaws
pub mod LastingLaws
pub mod HearingLaws
pub mod StageLaws
pub mod AgreementLaws
