-- The map has the new hash under its place, and all others as before.
use Rattle.cd_cell.proofs.IndexLaws.{IsIndex-pushed, IsIndex-kept}
use Rattle.cd_cell.proofs.index.Index.push.Goals as goal

pub returns-in-Ok-clause-pushed : goal.returns-in-Ok-clause-pushed
returns-in-Ok-clause-pushed c = IsIndex-pushed c.args.self.now (record { places = c.insert.new.self }) c.args.hash c.args.place c.in-Ok.ensures.updates.0

pub returns-in-Err-clause-kept : goal.returns-in-Err-clause-kept
returns-in-Err-clause-kept c = IsIndex-kept c.args.self.now (record { places = c.insert.new.self }) c.in-Err.ensures.err
