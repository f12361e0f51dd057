pub mod Shard
pub mod Block
pub mod Spelling
pub mod Parsing
pub mod Description
pub mod Reading
pub mod Lineage
pub mod Expiry
