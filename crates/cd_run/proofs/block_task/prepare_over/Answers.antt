use Rattle.std.proofs.Common.{[], refl}
use Rattle.cd_update.specs.UpdateTrees.{tree_of}
use Rattle.cd_run.specs.Merging.{named_as}
use Rattle.cd_run.proofs.StageLaws.{stage_none}
use Rattle.cd_run.proofs.TurnLaws.{stage_map}
use Rattle.cd_run.proofs.UpdateLaws.{prepared_is, unprepared_is}
use Rattle.cd_run.proofs.MergeLaws.{unseen_is}
use Rattle.cd_run.proofs.block_task.prepare_over.Goals as goal

pub returns-in-Err : goal.returns-in-Err
returns-in-Err g c tree is = stage_none g.T.Turns.worker g.T.Turns.faults g.T.Turns.made g.T.Turns.goes g.T.Turns.named g.met.T.Turns.stays _ c.args.turns.now ([], refl)

pub returns-in-Err-gather : goal.returns-in-Err-gather
returns-in-Err-gather g c tree is =
    stage_map g.T.Turns.worker g.T.Turns.faults g.T.Turns.made g.T.Turns.goes g.T.Turns.named [] _ _ c.args.turns.now c.gather.new.turns
    (unseen_is g.T.Hash.Hash32.digest_of c.args.who (named_as c.args.parent.now tree) (tree_of c.args.update.now) c.in-Err-gather.stop) c.in-Err-gather.ensures.looks

pub returns-in-Ok-prepare_update : goal.returns-in-Ok-prepare_update
returns-in-Ok-prepare_update g c tree is =
    let held = rw c.deref.ensures.value at c.in-Ok-gather.ensures.faces in
    stage_map g.T.Turns.worker g.T.Turns.faults g.T.Turns.made g.T.Turns.goes g.T.Turns.named [] _ _ c.args.turns.now c.gather.new.turns
    (λ es only. (
      only,
      prepared_is g.T.Hash.Hash32.digest_of (g.T.Turns.made c.args.turns.now) (g.T.Turns.named c.args.turns.now) c.args.parent.now (tree_of c.args.update.now) c.in-Ok.hashes.items c.in-Ok-gather.faces.items c.in-Ok.ensures held
          tree c.in-Ok-prepare_update.prepared is c.in-Ok-prepare_update.ensures.old c.in-Ok-prepare_update.ensures.rep (rw c.deref-2.ensures.value at c.in-Ok-prepare_update.ensures.refused)
          (rw c.deref-2.ensures.value at c.in-Ok-prepare_update.ensures.exact) (rw c.deref-2.ensures.value at c.in-Ok-prepare_update.ensures.applied),
    ))
    c.in-Ok-gather.ensures.looks

pub returns : goal.returns
returns g c tree is =
    let held = rw c.deref.ensures.value at c.in-Ok-gather.ensures.faces in
    rw c.stop_of_prepare.ensures
    (stage_map g.T.Turns.worker g.T.Turns.faults g.T.Turns.made g.T.Turns.goes g.T.Turns.named [] _ _ c.args.turns.now c.gather.new.turns
    (λ es only. unprepared_is g.T.Hash.Hash32.digest_of (g.T.Turns.made c.args.turns.now) (g.T.Turns.named c.args.turns.now) c.args.parent.now (tree_of c.args.update.now) c.in-Ok.hashes.items c.in-Ok-gather.faces.items c.in-Ok.ensures held
    c.in-Err-prepare_update.fault (rw c.deref-2.ensures.value at c.in-Err-prepare_update.ensures.refused) (rw c.deref-2.ensures.value at c.in-Err-prepare_update.ensures.exact) tree is c.args.who es only)
    c.in-Ok-gather.ensures.looks)
