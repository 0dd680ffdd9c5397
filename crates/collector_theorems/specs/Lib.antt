pub mod Collected
pub mod CollectedExamples
