use Rattle.std.proofs.Common.{◌≡◌, take, map}
use Rattle.cd_block.specs.Block.{key_of}
use Rattle.cd_keeper.specs.Shown.{desc_bytes}
use Rattle.cd_count.proofs.plan.keys_of.Given as goal

abbrev pub invariant-loop-id : goal.invariant-loop-id
invariant-loop-id l = map desc_bytes l.keys.items ≡ map key_of (take l.id-index l.ids)
