pub mod Commands
pub mod Modes
