-- The cells of a whole bag are a state.
use Rattle.std.proofs.Common.{subst}
use Rattle.cd_cell.specs.Bags.{bag_trees}
use Rattle.cd_prepare.proofs.StateLaws.{state-of}
use Rattle.inspect_updates.specs.OldStates.{IsIndexed}
use Rattle.inspect_updates.proofs.OldStateLaws.{IsState-whole}
use Rattle.inspect_updates.proofs.old_state.OldState.of.Goals as goal

pub invariant_of-result : goal.invariant_of-result
invariant_of-result g c =
    let H = g.H.Hash32.digest_of in
    let bag = c.args.bag.now in
    let whole = c.in-Ok.whole in
    let one = state-of H (bag_trees bag) c.in-Ok.ensures.exact in
    record {
      is_state = IsState-whole H bag.cells bag.refs bag.roots c.cells-2.ensures.kept one.0 one.1 whole (c.in-Ok.ensures.whole one.0 one.1);
      indexed = subst (IsIndexed c.in-Ok-places_of.places) c.cells.ensures.value c.in-Ok-places_of.ensures;
    }
