-- What the contract says.
pub mod CheckCalled
-- The laws that its proof uses.
pub mod CheckCallLaws
