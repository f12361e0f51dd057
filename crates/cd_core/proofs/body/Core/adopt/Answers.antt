use Rattle.std.proofs.Common.{◌≡◌, List, All, ap, ◌∙◌, subst}
use Rattle.cd_block.specs.declared.description.Descr.{Descr}
use Rattle.cd_block.specs.Description.{IsDescr}
use Rattle.cd_world.specs.declared.world.World.{World}
use Rattle.cd_world.specs.declared.world.PinRow.{PinRow}
use Rattle.cd_core.specs.Cores.{opened}
use Rattle.cd_core.proofs.Adopted.{adopted}
use Rattle.cd_core.proofs.body.Core.adopt.Goals as goal

pub invariant_of-result : goal.invariant_of-result
invariant_of-result g c =
    let k = g.K.Keeper in
    let w : World = record { blocks = c.from.result; pins = c.new.result; next = 0 } in
    let is : w ≡ opened c.args.blocks.items =
    ap (λ (bs : List Descr). record w { blocks = bs }) c.from.ensures ∙ ap (λ (ps : List PinRow). record { blocks = c.args.blocks.items; pins = ps; next = 0 }) c.new.ensures in
    adopted k.held g.H.Hash32.digest_of k.trail k.batches k.faults c.args.keeper c.args.blocks.items (record { world = c.of.result; keeper = c.of-2.result; limit = c.args.limit }) w c.new-2.result
    is c.of.ensures c.of-2.ensures c.new-2.ensures c.requires.ordered c.requires.fit (subst (All IsDescr) c.as_slice.ensures.value c.know_blocks.ensures) c.requires.limit c.requires.told
