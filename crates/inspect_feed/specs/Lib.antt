pub mod FeedTexts
pub mod FeedVerdicts
