-- The choice of a vertex by its slots.
pub mod Choosing
pub mod FoundSlot
pub mod ChoosingLaws
