-- The theorems, by the rounds of the pairs sent first, and an example.
pub mod Collected
pub mod CollectedLater
pub mod CollectedExamples
