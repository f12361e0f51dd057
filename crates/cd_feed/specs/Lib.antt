pub mod Feeds
pub mod FeedReading
