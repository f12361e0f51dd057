use Rattle.cd_feed.proofs.FeedLaws.{feed_again, feed_text_injective}
use Rattle.cd_feed.proofs.laws.a_text_has_one_feed.Goals as goal

pub returns-clause-back : goal.returns-clause-back
returns-clause-back c = feed_again

pub returns-clause-one : goal.returns-clause-one
returns-clause-one c = feed_text_injective
