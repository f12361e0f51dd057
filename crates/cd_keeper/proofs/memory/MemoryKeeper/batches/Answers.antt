use Rattle.std.proofs.Common.{arith}
use Rattle.cd_keeper.proofs.TrailLaws.{length-trail_of}
use Rattle.cd_keeper.proofs.memory.MemoryKeeper.batches.Goals as goal

pub returns : goal.returns
returns c = rw (← c.self.view_is, length-trail_of) (omega (arith, c.self.inside.applied.ok.0))
