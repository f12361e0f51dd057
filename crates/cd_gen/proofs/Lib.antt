pub mod ListingLaws
pub mod WriterLaws
pub mod HalfLaws
pub mod PrunedLaws
pub mod OrderLaws
pub mod PhaseLaws
