pub mod Feeding
pub mod Told
pub mod Telling
pub mod Replaying
