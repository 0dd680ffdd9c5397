-- What one step counts.
pub mod Counting
pub mod CountingLaws
-- The rounds by stamps.
pub mod Stamps
pub mod StampLaws
