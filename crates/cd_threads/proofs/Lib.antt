mod EndingLaws
mod FeedLaws
mod LaneLaws
mod PartLaws
mod SeatLaws
mod ServedLaws
