-- What is judged before the first store.
pub mod Judged
-- The laws.
pub mod JudgedLaws
