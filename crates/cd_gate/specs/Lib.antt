pub mod Histories
pub mod TurnRule
pub mod Gates
