mod BesideLaws
mod FeedLaws
mod CleanLaws
