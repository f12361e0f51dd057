use Rattle.std.proofs.Common.{◌≡◌, [], ◌++◌, length, refl, ap, ◌∙◌}
use Rattle.cd_update.specs.UpdateTrees.{tree_of}
use Rattle.cd_run.specs.Merging.{named_as, OnlyLooks}
use Rattle.cd_run.proofs.StageLaws.{stage_none}
use Rattle.cd_run.proofs.TurnLaws.{stage_map, stage_then}
use Rattle.cd_run.proofs.FaceLaws.{written_is}
use Rattle.cd_run.proofs.GatherLaws.{keeps_only}
use Rattle.cd_run.proofs.ParentLaws.{still_pinned}
use Rattle.cd_run.proofs.JoinLaws.{left_stops, right_stops, both_are}
use Rattle.cd_run.proofs.SplitLaws.{both_prepared_is, both_unprepared_is}
use Rattle.cd_run.proofs.merged_task.prepare_joined.Goals as goal

pub gather-requires-clause-live : goal.gather-requires-clause-live
gather-requires-clause-live g c = c.requires.pinned.1.1.left.live

pub gather-requires-2-clause-worker : goal.gather-requires-2-clause-worker
gather-requires-2-clause-worker g c = c.in-Ok-gather.ensures.looks.same_worker ∙ c.requires.worker

pub gather-requires-2-clause-live : goal.gather-requires-2-clause-live
gather-requires-2-clause-live g c =
    let are = c.requires.pinned.1.1 in
    let still = still_pinned g.T.Hash.Hash32.digest_of g.T.Turns.worker g.T.Turns.faults g.T.Turns.made g.T.Turns.goes g.T.Turns.named c.args.turns.now c.gather.new.turns c.args.parents.now.right c.requires.pinned.1.0 _
    (keeps_only c.args.who c.args.parents.now.left.pin c.args.parents.now.right.pin) c.in-Ok-gather.ensures.looks are.right in
    still.live

pub returns-in-Err : goal.returns-in-Err
returns-in-Err g c a b are = stage_none g.T.Turns.worker g.T.Turns.faults g.T.Turns.made g.T.Turns.goes g.T.Turns.named g.met.T.Turns.stays _ c.args.turns.now ([], ([], refl))

pub returns-in-Err-gather : goal.returns-in-Err-gather
returns-in-Err-gather g c a b are =
    stage_map g.T.Turns.worker g.T.Turns.faults g.T.Turns.made g.T.Turns.goes g.T.Turns.named [] _ _ c.args.turns.now c.gather.new.turns
    (left_stops g.T.Hash.Hash32.digest_of c.args.who (named_as c.args.parents.now.left a) (named_as c.args.parents.now.right b) (tree_of c.args.update.now) c.in-Err-gather.stop) c.in-Err-gather.ensures.looks

pub returns-in-Err-gather-2 : goal.returns-in-Err-gather-2
returns-in-Err-gather-2 g c a b are =
    stage_then g.T.Turns.worker g.T.Turns.faults g.T.Turns.made g.T.Turns.goes g.T.Turns.named g.met.T.Turns.further [] [] _ _ _ c.args.turns.now c.gather.new.turns c.gather-2.new.turns c.in-Ok-gather.ensures.looks c.in-Err-gather-2.ensures.looks
    (right_stops g.T.Hash.Hash32.digest_of c.args.who (named_as c.args.parents.now.left a) (named_as c.args.parents.now.right b) (tree_of c.args.update.now) c.in-Err-gather-2.stop)

pub returns-in-Ok-prepare_merged : goal.returns-in-Ok-prepare_merged
returns-in-Ok-prepare_merged g c a b are =
    let held = rw c.deref.ensures.value at c.in-Ok-gather.ensures.faces in
    let keeps = rw c.deref_mut.ensures.value at c.fill.ensures.keeps in
    let seen : c.deref-4.result.now ≡ c.fill.new.faces =
    c.deref-4.ensures.value ∙ written_is c.in-Ok-gather.faces.len c.in-Ok-gather.faces.items c.fill.new.faces c.in-Ok-gather.faces.ok.0 (c.fill.auto.faces ∙ ap length c.deref_mut.ensures.value) in
    stage_then g.T.Turns.worker g.T.Turns.faults g.T.Turns.made g.T.Turns.goes g.T.Turns.named g.met.T.Turns.further [] [] (OnlyLooks c.args.who c.args.parents.now.left.pin) (OnlyLooks c.args.who c.args.parents.now.right.pin) _ c.args.turns.now c.gather.new.turns c.gather-2.new.turns c.in-Ok-gather.ensures.looks c.in-Ok-gather-2.ensures.looks
    (λ es fs first next. (
      both_are g.T.Hash.Hash32.digest_of c.args.who (named_as c.args.parents.now.left a) (named_as c.args.parents.now.right b) (tree_of c.args.update.now) es fs first next,
      both_prepared_is g.T.Hash.Hash32.digest_of (g.T.Turns.made c.args.turns.now) (g.T.Turns.named c.args.turns.now) c.args.parents.now (tree_of c.args.update.now) c.in-Ok.hashes.items c.in-Ok-gather.faces.items c.fill.new.faces c.in-Ok.ensures held keeps a b c.in-Ok-prepare_merged.prepared are c.in-Ok-prepare_merged.ensures.old c.in-Ok-prepare_merged.ensures.rep
          (rw seen at c.in-Ok-prepare_merged.ensures.refused) (rw seen at c.in-Ok-prepare_merged.ensures.exact) (rw seen at c.in-Ok-prepare_merged.ensures.applied),
    ))

pub returns : goal.returns
returns g c a b are =
    let held = rw c.deref.ensures.value at c.in-Ok-gather.ensures.faces in
    let keeps = rw c.deref_mut.ensures.value at c.fill.ensures.keeps in
    let seen : c.deref-4.result.now ≡ c.fill.new.faces =
    c.deref-4.ensures.value ∙ written_is c.in-Ok-gather.faces.len c.in-Ok-gather.faces.items c.fill.new.faces c.in-Ok-gather.faces.ok.0 (c.fill.auto.faces ∙ ap length c.deref_mut.ensures.value) in
    rw c.stop_of_prepare.ensures
    (stage_then g.T.Turns.worker g.T.Turns.faults g.T.Turns.made g.T.Turns.goes g.T.Turns.named g.met.T.Turns.further [] [] (OnlyLooks c.args.who c.args.parents.now.left.pin) (OnlyLooks c.args.who c.args.parents.now.right.pin) _ c.args.turns.now c.gather.new.turns c.gather-2.new.turns c.in-Ok-gather.ensures.looks c.in-Ok-gather-2.ensures.looks
    (λ es fs first next. both_unprepared_is g.T.Hash.Hash32.digest_of (g.T.Turns.made c.args.turns.now) (g.T.Turns.named c.args.turns.now) c.args.parents.now (tree_of c.args.update.now) c.in-Ok.hashes.items c.in-Ok-gather.faces.items c.fill.new.faces c.in-Ok.ensures held keeps c.in-Err-prepare_merged.fault
    (rw seen at c.in-Err-prepare_merged.ensures.refused) (rw seen at c.in-Err-prepare_merged.ensures.exact) a b are c.args.who (es ++ fs)
    (both_are g.T.Hash.Hash32.digest_of c.args.who (named_as c.args.parents.now.left a) (named_as c.args.parents.now.right b) (tree_of c.args.update.now) es fs first next)))
