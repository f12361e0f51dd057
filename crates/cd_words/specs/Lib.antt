pub mod Names
pub mod Spelling
pub mod Lines
pub mod Values
pub mod Plain
pub mod Reading
pub mod Pages
pub mod Views
