pub mod OldStates
pub mod StateFaults
pub mod UpdateTexts
pub mod UpdateVerdicts
