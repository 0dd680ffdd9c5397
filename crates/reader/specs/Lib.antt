-- The answer of the reader, and how it compares paths.
pub mod ReadingLaws
pub mod Fault
pub mod FaultLaws
pub mod Front
pub mod FrontLaws
