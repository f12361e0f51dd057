use Rattle.cd_run.proofs.EarlyLaws.{covers_prefix-cut}
use Rattle.cd_run.proofs.laws.a_begun_journal_covers_the_feed_so_far.Goals as goal

pub returns : goal.returns
returns g c = covers_prefix-cut g.H.Hash32.digest_of
