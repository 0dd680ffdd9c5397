-- The rows that marks and records show.
pub mod ShownRows
-- The laws.
pub mod ShownRowLaws
