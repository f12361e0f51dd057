pub mod Lists
pub mod Names
pub mod CoverLaws
pub mod EarlyLaws
pub mod EndedPins
pub mod StageLaws
pub mod KeeperLaws
pub mod CallLaws
pub mod PreparingLaws
pub mod PinLaws
pub mod CutLaws
pub mod SentLaws
mod TurnLaws
mod FaceLaws
mod UpdateLaws
mod ParentLaws
mod GatherLaws
mod MergeLaws
mod BlockLaws
mod TaskLaws
mod SplitLaws
mod JoinLaws
mod TwoPins
mod MergedLaws
