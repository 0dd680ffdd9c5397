-- Theorems of exactness, and what they rest on that rests on a definition of specs/ which an edit of must-fail/ changes.
pub mod ExactRules
pub mod Exact
pub mod ExactHeard
pub mod ExactRing
pub mod ExactRun
