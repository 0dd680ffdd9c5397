-- What the answers of the check, the step and the run say in the numbers of the rules page.
pub mod Refused
pub mod RefusedLaws
pub mod Meaning
pub mod MeaningLaws
pub mod Moves
pub mod MovesLaws
