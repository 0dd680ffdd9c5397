-- What an array made by `array::from_fn` is.
pub mod FromFn
