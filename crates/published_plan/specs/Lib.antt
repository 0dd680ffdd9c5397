-- How many lines a plan has.
pub mod PlanLines
-- The laws.
pub mod PlanLaws
