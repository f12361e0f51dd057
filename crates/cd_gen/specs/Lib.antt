pub mod States
pub mod Generated
pub mod Listing
pub mod Keys
