-- What the contract says.
pub mod StepCalled
-- The laws that its proof uses.
pub mod StepCallLaws
