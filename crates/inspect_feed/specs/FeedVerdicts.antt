-- Trusted: the feed that bytes are, and why they are none.
use Rattle.std.specs.Prelude.{◌≡◌, ℕ, List, Err}
use Rattle.cd_feed.specs.declared.feed.Feed.{Feed}
use Rattle.cd_feed.specs.declared.feed_fault.FeedFault.{FeedFault}
use Rattle.cd_feed.specs.Feeds.{IsFeedFit, feed_text}
use Rattle.cd_feed.specs.FeedReading.{feed_in}

-- the bytes are the text of this feed, which is within the limits
pub record IsFeedOf (bytes : List ℕ) (feed : Feed) : Type 0 where
  pub fit : IsFeedFit feed
  pub text : bytes ≡ feed_text feed

-- this is their first field at fault
abbrev pub IsWhyNoFeed : List ℕ → FeedFault → Type 0
IsWhyNoFeed bytes fault = feed_in bytes ≡ Err fault
