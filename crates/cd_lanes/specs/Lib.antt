pub mod Lanes
pub mod Phases
pub mod Left
pub mod NoPins
