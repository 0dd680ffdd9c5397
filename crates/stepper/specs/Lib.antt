-- What a step asks for; the contract of the step, and each way through it.
pub mod Working
pub mod Stepped
pub mod StepLaws
