mod OnCore
pub mod PinsGrow
mod PhaseLaws
pub mod FeedLaws
mod CoveredLaws
