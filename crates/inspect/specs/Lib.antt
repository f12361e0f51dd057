pub mod EndText
pub mod Ends
