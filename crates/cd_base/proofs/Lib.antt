pub mod ChecksumLaws
pub mod NumberLaws
pub mod ToldLaws
pub mod ReadingLaws
pub mod ListLaws
