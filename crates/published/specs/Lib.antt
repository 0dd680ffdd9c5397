-- The laws.
pub mod StateLaws
