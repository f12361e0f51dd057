-- What is prepared has the numbers and the hash of the applied update.
use Rattle.std.proofs.Common.{length, ap, ◌∙◌, arith}
use Rattle.std.proofs.lemmas.List.{length-map}
use Rattle.cd_cell.specs.Infos.{rep_of_info}
use Rattle.cd_update.specs.UpdateTrees.{tree_of}
use Rattle.cd_cell.specs.Export.{export_cmp, sorted_distinct}
use Rattle.cd_cell.specs.Listings.{new_cell_of}
use Rattle.cd_cell.specs.Updates.{new_cells}
use Rattle.inspect_updates.specs.OldStates.{state_of}
use Rattle.inspect_updates.proofs.update_verdict.prepared_verdict.Goals as goal

pub returns-in-Ok-prepare : goal.returns-in-Ok-prepare
returns-in-Ok-prepare g c =
    let H = g.H.Hash32.digest_of in
    let state = c.args.state.now in
    let update = c.args.update.now in
    let u = tree_of update in
    let t = state_of H state.whole in
    let applied = c.in-Ok-prepare.ensures.applied in
    λ bytes spelt. (
      u,
      spelt,
      record {
        tree = applied.tree;
        is_applied = applied.is_applied;
        root_is = c.rep.ensures ∙ ap rep_of_info (c.root.ensures.value ∙ applied.root_is);
        shown_is = omega (arith, c.len.ensures, c.in-Ok.wanted.ok, ap length c.in-Ok.ensures);
        new_is = ap length (c.cells.ensures.value ∙ applied.cells_are) ∙ length-map (sorted_distinct (export_cmp H) (new_cells H u t)) (new_cell_of H);
      },
    )
