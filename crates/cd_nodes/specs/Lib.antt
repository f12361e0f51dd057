pub mod Graphs
pub mod Laws
pub mod Plans
pub mod Worklists
