pub mod FeedFields
pub mod FeedLoops
pub mod FieldLaws
pub mod TaskLaws
pub mod FeedLaws
