use Rattle.cd_replay.proofs.CoveredLaws.{stopped_covers, stopped_covers_told}
use Rattle.cd_replay.proofs.laws.a_stopped_feed_is_covered_so_far.Goals as goal

pub returns-clause-by_pins : goal.returns-clause-by_pins
returns-clause-by_pins g c = stopped_covers g.H.Hash32.digest_of g.K.Keeper.held g.K.Keeper.faults

pub returns-clause-told : goal.returns-clause-told
returns-clause-told g c = stopped_covers_told g.H.Hash32.digest_of g.K.Keeper.held g.K.Keeper.faults
