use Rattle.std.proofs.Common.{[], Ok, Err, ap, ◌∙◌}
use Rattle.cd_event.specs.declared.faults.MergeFault.TheVariants as merge
use Rattle.cd_event.specs.Pins.{is_live}
use Rattle.cd_update.specs.UpdateTrees.{tree_of}
use Rattle.cd_run.specs.Merging.{named_as}
use Rattle.cd_run.proofs.TurnLaws.{stage_map}
use Rattle.cd_run.proofs.ParentLaws.{its_name, not_gone, still_pinned}
use Rattle.cd_run.proofs.GatherLaws.{keeps_only}
use Rattle.cd_run.proofs.MergeLaws.{unprepared_stops, may_merge, not_wrong, merges}
use Rattle.cd_run.proofs.block_task.merge_over.Goals as goal

pub returns-in-Err : goal.returns-in-Err
returns-in-Err g c tree is =
    stage_map g.T.Turns.worker g.T.Turns.faults g.T.Turns.made g.T.Turns.goes g.T.Turns.named [] _ _ c.args.turns.now c.prepare_over.new.turns
    (unprepared_stops g.T.Hash.Hash32.digest_of c.args.who (named_as c.args.parent.now tree) (tree_of c.args.update.now) c.args.id c.args.tops.now c.in-Err.stop) (c.in-Err.ensures tree is)

pub returns-in-Err-copied : goal.returns-in-Err-copied
returns-in-Err-copied g c tree is =
    stage_map g.T.Turns.worker g.T.Turns.faults g.T.Turns.made g.T.Turns.goes g.T.Turns.named [] _ _ c.args.turns.now c.prepare_over.new.turns (λ es run. run.0) (c.in-Ok.ensures tree is)

pub merge-merged-requires-clause-fits : goal.merge-merged-requires-clause-fits
merge-merged-requires-clause-fits g c =
    let m = c.requires.pinned in
    let stage = c.in-Ok.ensures m.0 m.1 in
    let is = still_pinned g.T.Hash.Hash32.digest_of g.T.Turns.worker g.T.Turns.faults g.T.Turns.made g.T.Turns.goes g.T.Turns.named c.args.turns.now c.prepare_over.new.turns c.args.parent.now m.0 _ (λ es run. keeps_only c.args.who c.args.parent.now.pin c.args.parent.now.pin es run.0) stage m.1 in
    may_merge g.T.Hash.Hash32.digest_of (g.T.Turns.made c.prepare_over.new.turns) (g.T.Turns.named c.prepare_over.new.turns) c.args.parent.now m.0 (tree_of c.args.update.now) c.in-Ok.prepared is stage.are.1

pub stop_of_merge-requires-clause-pinned : goal.stop_of_merge-requires-clause-pinned
stop_of_merge-requires-clause-pinned g c = λ fault.
    let m = c.requires.pinned in
    let stage = c.in-Ok.ensures m.0 m.1 in
    let is = still_pinned g.T.Hash.Hash32.digest_of g.T.Turns.worker g.T.Turns.faults g.T.Turns.made g.T.Turns.goes g.T.Turns.named c.args.turns.now c.prepare_over.new.turns c.args.parent.now m.0 _ (λ es run. keeps_only c.args.who c.args.parent.now.pin c.args.parent.now.pin es run.0) stage m.1 in
    not_gone _ (is_live c.args.parent.now.pin (g.T.Turns.made c.prepare_over.new.turns)) (Err merge.NoPin) (Err c.in-Err-merged.fault) is.live c.in-Err-merged.ensures.no_pin (ap (λ f. Err f) fault)

pub stop_of_merge-requires-clause-right : goal.stop_of_merge-requires-clause-right
stop_of_merge-requires-clause-right g c = λ fault.
    let m = c.requires.pinned in
    let stage = c.in-Ok.ensures m.0 m.1 in
    let is = still_pinned g.T.Hash.Hash32.digest_of g.T.Turns.worker g.T.Turns.faults g.T.Turns.made g.T.Turns.goes g.T.Turns.named c.args.turns.now c.prepare_over.new.turns c.args.parent.now m.0 _ (λ es run. keeps_only c.args.who c.args.parent.now.pin c.args.parent.now.pin es run.0) stage m.1 in
    let bad = ap (λ f. Err f) fault in
    not_wrong g.T.Hash.Hash32.digest_of (g.T.Turns.made c.prepare_over.new.turns) (g.T.Turns.named c.prepare_over.new.turns) c.args.parent.now m.0 (tree_of c.args.update.now) c.in-Ok.prepared is stage.are.1 (c.in-Err-merged.ensures.wrong bad)

pub returns-in-Ok-merged : goal.returns-in-Ok-merged
returns-in-Ok-merged g c tree its =
    let before = c.in-Ok.ensures tree its in
    merges g.T.Hash.Hash32.digest_of g.T.Turns.worker g.T.Turns.faults g.T.Turns.made g.T.Turns.goes g.T.Turns.named g.met.T.Turns.further c.args.who c.at_of.result (named_as c.args.parent.now tree) (tree_of c.args.update.now) c.args.id c.args.tops.now c.in-Ok.prepared
    c.args.turns.now c.prepare_over.new.turns c.merge-merged.new.self (Ok c.in-Ok-merged.stored) (its_name c.args.who _ _ c.at_of.ensures (before.same_worker ∙ c.requires.worker)) before (λ e. cc) (λ e. cc)
    (rw c.in-Ok-copied.ensures at c.in-Ok-merged.ensures.turned) c.in-Ok-merged.ensures.named c.in-Ok-merged.ensures.stored

pub returns-in-Err-merged : goal.returns-in-Err-merged
returns-in-Err-merged g c tree its =
    let m = c.requires.pinned in
    let stage = c.in-Ok.ensures m.0 m.1 in
    let is = still_pinned g.T.Hash.Hash32.digest_of g.T.Turns.worker g.T.Turns.faults g.T.Turns.made g.T.Turns.goes g.T.Turns.named c.args.turns.now c.prepare_over.new.turns c.args.parent.now m.0 _ (λ es run. keeps_only c.args.who c.args.parent.now.pin c.args.parent.now.pin es run.0) stage m.1 in
    let before = c.in-Ok.ensures tree its in
    rw c.stop_of_merge.ensures
    (merges g.T.Hash.Hash32.digest_of g.T.Turns.worker g.T.Turns.faults g.T.Turns.made g.T.Turns.goes g.T.Turns.named g.met.T.Turns.further c.args.who c.at_of.result (named_as c.args.parent.now tree) (tree_of c.args.update.now) c.args.id c.args.tops.now c.in-Ok.prepared
    c.args.turns.now c.prepare_over.new.turns c.merge-merged.new.self (Err c.in-Err-merged.fault) (its_name c.args.who _ _ c.at_of.ensures (before.same_worker ∙ c.requires.worker)) before (not_gone _ (is_live c.args.parent.now.pin (g.T.Turns.made c.prepare_over.new.turns)) (Err merge.NoPin) (Err c.in-Err-merged.fault) is.live c.in-Err-merged.ensures.no_pin) (λ bad. not_wrong g.T.Hash.Hash32.digest_of (g.T.Turns.made c.prepare_over.new.turns) (g.T.Turns.named c.prepare_over.new.turns) c.args.parent.now m.0 (tree_of c.args.update.now) c.in-Ok.prepared is stage.are.1 (c.in-Err-merged.ensures.wrong bad))
    (rw c.in-Ok-copied.ensures at c.in-Err-merged.ensures.turned) c.in-Err-merged.ensures.named c.in-Err-merged.ensures.stored)
