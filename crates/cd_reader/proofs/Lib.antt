pub mod HeldLaws
pub mod PathLaws
pub mod WalkFaults
