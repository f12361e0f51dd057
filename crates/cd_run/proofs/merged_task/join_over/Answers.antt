use Rattle.std.proofs.Common.{[], Some, Ok, Err, ap, ◌∙◌}
use Rattle.cd_event.specs.declared.faults.MergeFault.TheVariants as merge
use Rattle.cd_event.specs.Pins.{are_live}
use Rattle.cd_update.specs.UpdateTrees.{tree_of}
use Rattle.cd_run.specs.Merging.{named_as}
use Rattle.cd_run.proofs.TurnLaws.{stage_map}
use Rattle.cd_run.proofs.ParentLaws.{its_name, not_gone}
use Rattle.cd_run.proofs.SplitLaws.{may_join, not_of_other}
use Rattle.cd_run.proofs.JoinLaws.{unjoined_stops, keeps_only_both, still_both, are_both_live, joins}
use Rattle.cd_run.proofs.merged_task.join_over.Goals as goal

pub returns-in-Err : goal.returns-in-Err
returns-in-Err g c a b are =
    stage_map g.T.Turns.worker g.T.Turns.faults g.T.Turns.made g.T.Turns.goes g.T.Turns.named [] _ _ c.args.turns.now c.prepare_joined.new.turns
    (unjoined_stops g.T.Hash.Hash32.digest_of c.args.who (named_as c.args.parents.now.left a) (named_as c.args.parents.now.right b) (tree_of c.args.update.now) c.args.id c.args.tops.now c.in-Err.stop) (c.in-Err.ensures a b are)

pub returns-in-Err-copied : goal.returns-in-Err-copied
returns-in-Err-copied g c a b are =
    stage_map g.T.Turns.worker g.T.Turns.faults g.T.Turns.made g.T.Turns.goes g.T.Turns.named [] _ _ c.args.turns.now c.prepare_joined.new.turns (λ es run. run.0) (c.in-Ok.ensures a b are)

pub merge-merged-requires-clause-fits : goal.merge-merged-requires-clause-fits
merge-merged-requires-clause-fits g c =
    let a = c.requires.pinned.0 in
    let b = c.requires.pinned.1.0 in
    let stage = c.in-Ok.ensures a b c.requires.pinned.1.1 in
    let are = still_both g.T.Hash.Hash32.digest_of g.T.Turns.worker g.T.Turns.faults g.T.Turns.made g.T.Turns.goes g.T.Turns.named c.args.parents.now a b c.args.turns.now c.prepare_joined.new.turns _
    (λ k es run. keeps_only_both g.T.Hash.Hash32.digest_of c.args.who (named_as c.args.parents.now.left a) (named_as c.args.parents.now.right b) (tree_of c.args.update.now) k es run.0) stage c.requires.pinned.1.1 in
    may_join g.T.Hash.Hash32.digest_of (g.T.Turns.made c.prepare_joined.new.turns) (g.T.Turns.named c.prepare_joined.new.turns) c.args.parents.now a b (tree_of c.args.update.now) c.in-Ok.prepared are stage.are.1

pub stop_of_merge-requires-clause-pinned : goal.stop_of_merge-requires-clause-pinned
stop_of_merge-requires-clause-pinned g c = λ fault.
    let a = c.requires.pinned.0 in
    let b = c.requires.pinned.1.0 in
    let stage = c.in-Ok.ensures a b c.requires.pinned.1.1 in
    let are = still_both g.T.Hash.Hash32.digest_of g.T.Turns.worker g.T.Turns.faults g.T.Turns.made g.T.Turns.goes g.T.Turns.named c.args.parents.now a b c.args.turns.now c.prepare_joined.new.turns _
    (λ k es run. keeps_only_both g.T.Hash.Hash32.digest_of c.args.who (named_as c.args.parents.now.left a) (named_as c.args.parents.now.right b) (tree_of c.args.update.now) k es run.0) stage c.requires.pinned.1.1 in
    not_gone _ (are_live c.args.parents.now.left.pin (Some c.args.parents.now.right.pin) (g.T.Turns.made c.prepare_joined.new.turns)) (Err merge.NoPin) (Err c.in-Err-merged.fault) (are_both_live g.T.Hash.Hash32.digest_of (g.T.Turns.made c.prepare_joined.new.turns) (g.T.Turns.named c.prepare_joined.new.turns) c.args.parents.now a b are) c.in-Err-merged.ensures.no_pin (ap (λ f. Err f) fault)

pub stop_of_merge-requires-clause-right : goal.stop_of_merge-requires-clause-right
stop_of_merge-requires-clause-right g c = λ fault.
    let a = c.requires.pinned.0 in
    let b = c.requires.pinned.1.0 in
    let stage = c.in-Ok.ensures a b c.requires.pinned.1.1 in
    let are = still_both g.T.Hash.Hash32.digest_of g.T.Turns.worker g.T.Turns.faults g.T.Turns.made g.T.Turns.goes g.T.Turns.named c.args.parents.now a b c.args.turns.now c.prepare_joined.new.turns _
    (λ k es run. keeps_only_both g.T.Hash.Hash32.digest_of c.args.who (named_as c.args.parents.now.left a) (named_as c.args.parents.now.right b) (tree_of c.args.update.now) k es run.0) stage c.requires.pinned.1.1 in
    let bad = ap (λ f. Err f) fault in
    not_of_other g.T.Hash.Hash32.digest_of (g.T.Turns.made c.prepare_joined.new.turns) (g.T.Turns.named c.prepare_joined.new.turns) c.args.parents.now a b (tree_of c.args.update.now) c.in-Ok.prepared are stage.are.1 (c.in-Err-merged.ensures.wrong bad)

pub returns-in-Ok-merged : goal.returns-in-Ok-merged
returns-in-Ok-merged g c x y its =
    let before = c.in-Ok.ensures x y its in
    joins g.T.Hash.Hash32.digest_of g.T.Turns.worker g.T.Turns.faults g.T.Turns.made g.T.Turns.goes g.T.Turns.named g.met.T.Turns.further c.args.who c.at_of.result (named_as c.args.parents.now.left x) (named_as c.args.parents.now.right y) (tree_of c.args.update.now) c.args.id c.args.tops.now c.in-Ok.prepared
    c.args.turns.now c.prepare_joined.new.turns c.merge-merged.new.self (Ok c.in-Ok-merged.stored) (its_name c.args.who _ _ c.at_of.ensures (before.same_worker ∙ c.requires.worker)) before (λ e. cc) (λ e. cc)
    (rw c.in-Ok-copied.ensures at c.in-Ok-merged.ensures.turned) c.in-Ok-merged.ensures.named c.in-Ok-merged.ensures.stored

pub returns-in-Err-merged : goal.returns-in-Err-merged
returns-in-Err-merged g c x y its =
    let a = c.requires.pinned.0 in
    let b = c.requires.pinned.1.0 in
    let stage = c.in-Ok.ensures a b c.requires.pinned.1.1 in
    let are = still_both g.T.Hash.Hash32.digest_of g.T.Turns.worker g.T.Turns.faults g.T.Turns.made g.T.Turns.goes g.T.Turns.named c.args.parents.now a b c.args.turns.now c.prepare_joined.new.turns _
    (λ k es run. keeps_only_both g.T.Hash.Hash32.digest_of c.args.who (named_as c.args.parents.now.left a) (named_as c.args.parents.now.right b) (tree_of c.args.update.now) k es run.0) stage c.requires.pinned.1.1 in
    let before = c.in-Ok.ensures x y its in
    rw c.stop_of_merge.ensures
    (joins g.T.Hash.Hash32.digest_of g.T.Turns.worker g.T.Turns.faults g.T.Turns.made g.T.Turns.goes g.T.Turns.named g.met.T.Turns.further c.args.who c.at_of.result (named_as c.args.parents.now.left x) (named_as c.args.parents.now.right y) (tree_of c.args.update.now) c.args.id c.args.tops.now c.in-Ok.prepared
    c.args.turns.now c.prepare_joined.new.turns c.merge-merged.new.self (Err c.in-Err-merged.fault) (its_name c.args.who _ _ c.at_of.ensures (before.same_worker ∙ c.requires.worker)) before (not_gone _ (are_live c.args.parents.now.left.pin (Some c.args.parents.now.right.pin) (g.T.Turns.made c.prepare_joined.new.turns)) (Err merge.NoPin) (Err c.in-Err-merged.fault) (are_both_live g.T.Hash.Hash32.digest_of (g.T.Turns.made c.prepare_joined.new.turns) (g.T.Turns.named c.prepare_joined.new.turns) c.args.parents.now a b are) c.in-Err-merged.ensures.no_pin) (λ bad. not_of_other g.T.Hash.Hash32.digest_of (g.T.Turns.made c.prepare_joined.new.turns) (g.T.Turns.named c.prepare_joined.new.turns) c.args.parents.now a b (tree_of c.args.update.now) c.in-Ok.prepared are stage.are.1 (c.in-Err-merged.ensures.wrong bad))
    (rw c.in-Ok-copied.ensures at c.in-Err-merged.ensures.turned) c.in-Err-merged.ensures.named c.in-Err-merged.ensures.stored)
