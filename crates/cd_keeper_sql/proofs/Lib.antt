mod Inside
mod Steps
pub mod Crosses
