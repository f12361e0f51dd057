pub mod Keys
pub mod Reached
pub mod States
pub mod NewCells
pub mod UpdateFaults
pub mod Applied
pub mod Merged
