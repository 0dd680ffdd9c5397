-- How the check keeps what is settled, and one stage over that.
pub mod Standing
pub mod Staged
pub mod StandingLaws
pub mod SlotLaws
