use Rattle.std.proofs.Common.{List, sym, ap, ap₂, ◌∙◌, subst}
use Rattle.cd_block.specs.declared.description.Descr.{Descr}
use Rattle.cd_world.specs.declared.world.PinRow.{PinRow}
use Rattle.cd_core.specs.Cores.{IsWritable}
use Rattle.cd_core.proofs.Apart.{goes-at}
use Rattle.cd_core.proofs.InTurn.{writable-without}
use Rattle.cd_core.proofs.Unpinned.{still-blocks}
use Rattle.cd_core.proofs.merging.end_row.Goals as goal

pub returns-in-Some-clause-gone : goal.returns-in-Some-clause-gone
returns-in-Some-clause-gone c =
    let w = c.args.world.now in
    let there = c.in-Some.ensures.some in
    let both = goes-at w c.args.row.now c.in-Some.place there.0 c.requires there.1 there.2 in
    ap₂ (λ (bs : List Descr) (ps : List PinRow). record w { blocks = bs; pins = ps }) (c.remove.ensures ∙ both.1) c.drop_pin.ensures

pub returns-in-Some-clause-kept : goal.returns-in-Some-clause-kept
returns-in-Some-clause-kept c =
    let w = c.args.world.now in
    let there = c.in-Some.ensures.some in
    let both = goes-at w c.args.row.now c.in-Some.place there.0 c.requires there.1 there.2 in
    subst IsWritable (sym (ap₂ (λ (bs : List Descr) (ps : List PinRow). record w { blocks = bs; pins = ps }) (c.remove.ensures ∙ both.1) c.drop_pin.ensures)) (writable-without w c.args.row.now c.requires)

pub returns-clause-gone : goal.returns-clause-gone
returns-clause-gone c =
    let w = c.args.world.now in
    ap (λ (ps : List PinRow). record w { pins = ps }) c.drop_pin-2.ensures ∙ sym (still-blocks w c.args.row.now (c.collected_place.ensures.none c.in_default.is))

pub returns-clause-kept : goal.returns-clause-kept
returns-clause-kept c =
    let w = c.args.world.now in
    subst IsWritable (sym (ap (λ (ps : List PinRow). record w { pins = ps }) c.drop_pin-2.ensures ∙ sym (still-blocks w c.args.row.now (c.collected_place.ensures.none c.in_default.is)))) (writable-without w c.args.row.now c.requires)
