pub mod ExportText
pub mod Telling
pub mod Serving
pub mod ExportCall
