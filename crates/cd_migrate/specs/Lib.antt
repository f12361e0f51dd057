pub mod Answers
pub mod Rewritten
pub mod Walking
pub mod Worlds
