use Rattle.cd_replay.proofs.CoveredLaws.{done_leaves_free}
use Rattle.cd_replay.proofs.laws.a_done_feed_leaves_a_core_free.Goals as goal

pub returns : goal.returns
returns g c = done_leaves_free g.H.Hash32.digest_of g.K.Keeper.held g.K.Keeper.trail g.K.Keeper.batches g.K.Keeper.faults _
