pub mod Ran
pub mod Seats
pub mod Serving
pub mod Whole
