pub mod Zero
pub mod ZeroCall
pub mod Storing
