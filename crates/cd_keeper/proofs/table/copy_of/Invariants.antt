use Rattle.std.proofs.Common.{◌≡◌, take}
use Rattle.cd_keeper.specs.Shown.{entries_of}
use Rattle.cd_keeper.proofs.table.copy_of.Given as goal

abbrev pub invariant-loop-key : goal.invariant-loop-key
invariant-loop-key g l = entries_of g.K.Key.bytes l.copy.items ≡ entries_of g.K.Key.bytes (take l.key-index l.puts)
