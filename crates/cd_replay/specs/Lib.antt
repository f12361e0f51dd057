pub mod Ran
pub mod Covered
