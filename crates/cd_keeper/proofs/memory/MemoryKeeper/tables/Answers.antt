use Rattle.std.proofs.Common.{sym, ◌∙◌}
use Rattle.cd_keeper.specs.Memories.{raw_contents}
use Rattle.cd_keeper.proofs.TrailLaws.{last_of-trail_of}
use Rattle.cd_keeper.proofs.memory.MemoryKeeper.tables.Goals as goal

pub returns : goal.returns
returns c =
    rw (← c.self.view_is)
    (c.self.invariant ∙ sym (last_of-trail_of (raw_contents c.self.inside.raw_cells.items c.self.inside.raw_descs.items) c.self.inside.applied.items))
