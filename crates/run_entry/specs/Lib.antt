-- What the contract says.
pub mod RunCalled
-- The laws that its proof uses.
pub mod RunCallLaws
