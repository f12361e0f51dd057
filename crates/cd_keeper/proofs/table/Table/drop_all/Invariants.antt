use Rattle.std.proofs.Common.{◌≡◌, map, take}
use Rattle.cd_keeper.specs.Contents.{drop_all}
use Rattle.cd_keeper.proofs.table.Table.drop_all.Given as goal

abbrev pub invariant-loop-key : goal.invariant-loop-key
invariant-loop-key g l = l.self ≡ drop_all l.fn.self (map g.K.Key.bytes (take l.key-index l.keys))
