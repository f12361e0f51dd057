use Rattle.std.proofs.Common.{◌≡◌, length}
use Rattle.cd_keeper.specs.Undo.{undone, keys_back, latest}
use Rattle.cd_keeper.proofs.table.Table.take_back.Given as goal

abbrev pub invariant-loop-rest : goal.invariant-loop-rest
invariant-loop-rest g l =
    undone l.self (keys_back g.K.Key.bytes l.rest) (latest l.replaced.items) ≡ undone l.fn.self (keys_back g.K.Key.bytes l.fn.puts) (latest l.fn.replaced.items)

abbrev pub decreases-loop-rest : goal.decreases-loop-rest
decreases-loop-rest g l = length l.rest
