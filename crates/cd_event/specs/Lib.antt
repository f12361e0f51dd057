pub mod Replies
pub mod Pins
pub mod Turning
pub mod Looks
pub mod LookLaws
