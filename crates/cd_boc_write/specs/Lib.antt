pub mod Frames
pub mod CellTexts
pub mod Exports
pub mod Layouts
pub mod LayoutOf
pub mod Keys
