-- What stands after each stage of the check, that the last stage's marks and records tell the report, and the contract of the check.
pub mod AfterStages
pub mod BestLaws
pub mod StartLaws
pub mod NextStageLaws
pub mod LastStageLaws
pub mod EndedLaws
pub mod Checked
