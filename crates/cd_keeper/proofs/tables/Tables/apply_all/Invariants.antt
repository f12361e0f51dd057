use Rattle.std.proofs.Common.{◌≡◌, take}
use Rattle.cd_keeper.specs.Memories.{after_all}
use Rattle.cd_keeper.proofs.tables.Tables.apply_all.Given as goal

abbrev pub invariant-loop-batch : goal.invariant-loop-batch
invariant-loop-batch l = l.self ≡ after_all l.fn.self (take l.batch-index l.batches)
