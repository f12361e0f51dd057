-- The faces beside the wanted hashes are those of the state, so the answer is that of its tree.
use Rattle.std.proofs.Common.{map, ap, sym, subst, ◌∙◌}
use Rattle.cd_update.specs.Pairing.{AreOf}
use Rattle.cd_update.specs.UpdateTrees.{tree_of}
use Rattle.inspect_updates.specs.OldStates.{face_in, state_of}
use Rattle.inspect_updates.proofs.OldStateLaws.{AreOf-state}
use Rattle.inspect_updates.proofs.update_verdict.prepare.Goals as goal

pub returns-in-Ok : goal.returns-in-Ok
returns-in-Ok g c =
    let H = g.H.Hash32.digest_of in
    let state = c.args.state.now in
    let update = c.args.update.now in
    let u = tree_of update in
    let t = state_of H state.whole in
    let own = AreOf-state H state.whole state.is_state c.root.ensures.kept.plain u c.deref.result.now
    (c.deref.ensures.value ∙ c.in-Ok.ensures ∙ ap (map (face_in state.whole.cells)) c.requires) in
    let are : AreOf H t u c.root.result.now c.deref.result.now = subst (λ root. AreOf H t u root c.deref.result.now) (sym c.root.ensures.value) own in
    record {
      exact = c.prepare_update.ensures.exact t are;
      applied = c.prepare_update.ensures.applied t are;
    }
