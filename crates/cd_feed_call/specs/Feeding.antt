-- Trusted: which feed an input is, and why it is none.
use Rattle.std.specs.Prelude.{◌≡◌, ◌⊎◌, ℕ, List, Err}
use Rattle.cd_base.specs.declared.source.Source.{Ghosts as SourceGhosts}
use Rattle.cd_command.specs.declared.status.Status.{Status}
use Rattle.cd_command.specs.declared.status.Status.TheVariants as status
use Rattle.cd_command.specs.declared.status.InputFault.TheVariants as input
use Rattle.cd_command.specs.Reading.{IsInput, IsUnread}
use Rattle.cd_feed.specs.declared.feed.Feed.{Feed}
use Rattle.cd_feed.specs.Feeds.{feed_text, IsFeed}
use Rattle.cd_feed.specs.FeedReading.{feed_in}

-- the bytes are no feed, by this first fault
abbrev pub IsRefusal : List ℕ → Status → Type 0
IsRefusal bytes (status.BadInput (input.Feed fault)) = feed_in bytes ≡ Err fault
IsRefusal bytes status.Memory = Unit {0}
IsRefusal bytes _ = ⊥

module _ {S : Type 0} (s : SourceGhosts S) where
  -- the input was read to its end, and was exactly the text of this feed
  pub record IsOfFeed (feed : Feed) (old new : S) : Type 0 where
    pub input : IsInput s (feed_text feed) old new
    pub is : IsFeed feed

  -- it was read to its end, and is no feed, as this status says
  pub record IsRefused (end : Status) (old new : S) : Type 0 where
    pub bytes : List ℕ
    pub input : IsInput s bytes old new
    pub refusal : IsRefusal bytes end

  -- why no feed was had of it: it is none, or it was not read to its end
  abbrev pub IsNoFeed : S → S → Status → Type 0
  IsNoFeed old new (status.BadInput (input.Feed fault)) = IsRefused (status.BadInput (input.Feed fault)) old new
  IsNoFeed old new status.Memory = IsRefused status.Memory old new ⊎ IsUnread s old new status.Memory
  IsNoFeed old new end = IsUnread s old new end
