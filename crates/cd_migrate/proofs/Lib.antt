pub mod MetEntries
pub mod Batches
pub mod Way
pub mod Kept
