pub mod LineParts
pub mod OldStateLaws
