use Rattle.std.proofs.Common.{◌≡◌, ◌++◌, take, drop}
use Rattle.cd_block.specs.declared.description.Descr.{Descr}
use Rattle.cd_world.specs.Changes.{placed}
use Rattle.cd_core.proofs.placing.block_place.Given as goal

abbrev pub invariant-loop-place : goal.invariant-loop-place
invariant-loop-place l = (d : Descr) → d.id ≡ l.id → placed d l.blocks ≡ take l.place l.blocks ++ placed d (drop l.place l.blocks)
