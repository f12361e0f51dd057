use Rattle.std.proofs.Common.{take}
use Rattle.cd_keeper.specs.Undo.{latest}
use Rattle.cd_keeper.proofs.UndoLaws.{IsPut}
use Rattle.cd_keeper.proofs.table.Table.put_all.Given as goal

abbrev pub invariant-loop-at : goal.invariant-loop-at
invariant-loop-at g l = IsPut g.K.Key.bytes l.fn.self (take l.at l.puts) l.self (latest l.replaced.items)
