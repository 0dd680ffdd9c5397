-- What marks and records show, the answer built of them, and when it is the report of a check's outcome.
pub mod Showing
pub mod ShowingLaws
pub mod Reported
pub mod Outcome
pub mod OutcomeLaws
