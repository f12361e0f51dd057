pub mod AsSeen
pub mod Crosses
