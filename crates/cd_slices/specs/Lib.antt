pub mod Faults
pub mod Windows
pub mod Planned
pub mod Numbering
pub mod Ranks
pub mod Gathering
