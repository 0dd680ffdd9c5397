-- The walk over a schedule, and what an admitted run may rely on.
pub mod Tallied
pub mod PairWalk
pub mod ScheduleWalk
pub mod RunAdmitted
-- The laws.
pub mod TalliedLaws
pub mod PairWalkLaws
pub mod ScheduleWalkLaws
pub mod RunAdmittedLaws
