use Rattle.std.proofs.Common.{map, ap, ◌∙◌}
use Rattle.cd_cell.specs.Infos.{rep_of_info}
use Rattle.cd_gen.specs.declared.cell.Cell.{Cell}
use Rattle.cd_gen.specs.States.{full, state_of, zero_root}
use Rattle.cd_gen.specs.Listing.{faces}
use Rattle.cd_gen.specs.Generated.{zero_bag}
use Rattle.cd_gen.proofs.ListingLaws.{first-listed, first-infos}
use Rattle.cd_gen.proofs.chain.Chain.start.Goals as goal

pub invariant_of-result : goal.invariant_of-result
unfolding state_of
invariant_of-result c =
    let t = full c.args.owner.number c.args.owner.chain 0 9 0 in
    let cells = c.list_full.new.cells.items in
    record {
      state_is =
          c.in_ok-state.ensures
          ∙ ap (map (λ (x : Cell). x.info)) c.deref.ensures.value
          ∙ first-infos t cells (first-listed t c.in_ok-cells.cells.items cells c.in_ok-list_full.field-0 c.in_ok-cells.ensures.items c.in_ok-list_full.ensures);
    }

pub returns-clause-root : goal.returns-clause-root
unfolding zero_root state_of
returns-clause-root c = c.rep-root.ensures ∙ ap rep_of_info c.in_ok-list_full.ensures.root

pub returns-clause-bag : goal.returns-clause-bag
unfolding zero_bag state_of
returns-clause-bag c =
    let t = full c.args.owner.number c.args.owner.chain 0 9 0 in
    let cells = c.list_full.new.cells.items in
    c.in_ok-bag.ensures.tree t (ap faces c.deref-2.ensures.value ∙ first-listed t c.in_ok-cells.cells.items cells c.in_ok-list_full.field-0 c.in_ok-cells.ensures.items c.in_ok-list_full.ensures)
