-- What the run's lines show of a vertex.
pub mod Shown
-- The laws of that, and of the text of each verdict.
pub mod ShownLaws
pub mod RunVerdictTextLaws
