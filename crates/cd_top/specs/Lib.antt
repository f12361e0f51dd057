pub mod FeedCall
pub mod Call
pub mod Within
