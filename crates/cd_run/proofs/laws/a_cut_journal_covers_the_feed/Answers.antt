use Rattle.cd_run.proofs.CoverLaws.{covers-cut}
use Rattle.cd_run.proofs.laws.a_cut_journal_covers_the_feed.Goals as goal

pub returns : goal.returns
returns g c = covers-cut g.H.Hash32.digest_of
