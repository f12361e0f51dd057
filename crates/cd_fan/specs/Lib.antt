pub mod Clients
pub mod Ends
pub mod Faults
pub mod Fans
pub mod Turns
