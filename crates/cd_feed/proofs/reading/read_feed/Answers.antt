use Rattle.std.proofs.Common.{arith}
use Rattle.cd_feed.proofs.FeedLaws.{feed_takes, feed_again, is_found}
use Rattle.cd_feed.proofs.reading.read_feed.Goals as goal

pub returns-clause-found : goal.returns-clause-found
returns-clause-found c = is_found c.args.bytes.now c.feed_in.result (λ i. omega (arith, c.type_inv.bytes i)) c.feed_in.ensures

pub returns-clause-only : goal.returns-clause-only
returns-clause-only c = λ feed known fit is.
    rw (is, feed_again feed known fit) at c.feed_in.ensures
