-- The run as text.
pub mod RanFrom
pub mod PrintedRunLaws
