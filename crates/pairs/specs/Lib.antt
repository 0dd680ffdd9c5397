-- The paths that slots hold, and where they lead.
pub mod SlotPaths
pub mod NextHops
pub mod SlotPathLaws
pub mod NextHopLaws
