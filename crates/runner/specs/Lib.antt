-- The contract of the run, a pair of it, and the run on its way.
pub mod Ran
pub mod Taking
pub mod Going
-- The laws.
pub mod TakingLaws
pub mod GoingLaws
pub mod RanLaws
