pub mod WindowLaws
pub mod PlanLaws
pub mod MetLaws
pub mod PlaceLaws
pub mod GatherLaws
pub mod ListingLaws
