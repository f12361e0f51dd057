pub mod CoreRuns
pub mod Unopened
