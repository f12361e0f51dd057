pub mod StatusText
pub mod Printing
pub mod Reading
pub mod Untouched
pub mod Naming
pub mod Opening
