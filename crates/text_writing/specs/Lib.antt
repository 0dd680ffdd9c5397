-- A piece laid over a list of bytes, and by a writer: the definitions.
pub mod Lay
pub mod Writes
-- The laws.
pub mod LayLaws
pub mod WritesLaws
pub mod DigitLaws
pub mod SignedLetterLaws
