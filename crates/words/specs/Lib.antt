-- What the contracts say.
pub mod Words
-- The laws that the proofs use, and those of the crates above.
pub mod WordLaws
pub mod CodeLaws
