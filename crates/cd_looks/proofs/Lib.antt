pub mod GoingLaws
pub mod EmptyCell
