-- The check as text.
pub mod PrintedLaws
