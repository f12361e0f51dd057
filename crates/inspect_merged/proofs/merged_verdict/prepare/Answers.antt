-- The faces beside the hashes wanted below the joined cell are those of the states, so the answer is that of their
-- joined tree.
use Rattle.std.proofs.Common.{map, ap, sym, subst, ◌∙◌}
use Rattle.cd_update.specs.UpdateTrees.{tree_of}
use Rattle.cd_prepare.specs.Merged.{AreOfBoth}
use Rattle.inspect_updates.specs.OldStates.{state_of}
use Rattle.inspect_merged.specs.BothStates.{face_in_both}
use Rattle.inspect_merged.proofs.BothLaws.{AreOfBoth-states}
use Rattle.inspect_merged.proofs.merged_verdict.prepare.Goals as goal

pub returns-in-Ok : goal.returns-in-Ok
returns-in-Ok g c =
    let H = g.H.Hash32.digest_of in
    let left = c.args.both.now.left in
    let right = c.args.both.now.right in
    let u = tree_of c.args.update.now in
    let a = state_of H left.whole in
    let b = state_of H right.whole in
    let faces = c.deref.result.now in
    let found = c.deref.ensures.value ∙ c.in-Ok.ensures ∙ ap (map (face_in_both left.whole.cells right.whole.cells)) c.requires in
    let own = AreOfBoth-states H left.whole right.whole left.is_state right.is_state c.args.both.now.together c.root.ensures.kept.plain c.root-in-Ok.ensures.kept.plain u faces found in
    let first = subst (λ root. AreOfBoth H u a b root right.whole.root faces) (sym c.root.ensures.value) own in
    let are = subst (λ root. AreOfBoth H u a b c.root.result.now root faces) (sym c.root-in-Ok.ensures.value) first in
    record {
      exact = c.prepare_merged.ensures.exact a b are;
      applied = c.prepare_merged.ensures.applied a b are;
    }
