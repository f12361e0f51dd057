pub mod AskedLaws
mod Paths
pub mod PlainLines
