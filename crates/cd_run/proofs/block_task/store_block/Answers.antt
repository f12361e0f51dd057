use Rattle.std.proofs.Common.{Ok, Err}
use Rattle.cd_cell.specs.Bags.{bag_trees}
use Rattle.cd_update.specs.UpdateTrees.{tree_of}
use Rattle.cd_run.specs.Merging.{named_as}
use Rattle.cd_run.proofs.ParentLaws.{still_pinned}
use Rattle.cd_run.proofs.MergeLaws.{keeps_unmerged}
use Rattle.cd_run.proofs.BlockLaws.{has_update, block_none, no_update_is, block_not_pinned, block_done, block_stopped, block_let_go}
use Rattle.cd_run.proofs.block_task.store_block.Goals as goal

pub returns-in-Err : goal.returns-in-Err
returns-in-Err g c bytes spelled =
    rw c.word_of_update.ensures
    (block_none g.T.Hash.Hash32.digest_of g.T.Turns.worker g.T.Turns.faults g.T.Turns.made g.T.Turns.goes g.T.Turns.named c.args.who c.args.id c.args.parent c.args.tops.now bytes g.met.T.Turns.stays c.args.turns.now _
    (no_update_is g.row.T-Hash.Denot g.T.Hash.Hash32.digest_of c.args.who c.args.id c.args.parent c.args.tops.now bytes (g.T.Turns.named c.args.turns.now) (bag_trees c.args.bag.now) c.in-Err.fault spelled c.in-Err.ensures.exact))

pub returns-in-Err-pin_parent : goal.returns-in-Err-pin_parent
returns-in-Err-pin_parent g c bytes spelled =
    let has = has_update g.T.Hash.Hash32.digest_of bytes (bag_trees c.args.bag.now) (tree_of c.in-Ok.update) spelled c.in-Ok.ensures.root c.in-Ok.ensures.exact in
    rw c.end_of_stop.ensures
    (block_not_pinned g.T.Hash.Hash32.digest_of g.T.Turns.worker g.T.Turns.faults g.T.Turns.made g.T.Turns.goes g.T.Turns.named c.args.who c.args.id c.args.parent c.args.tops.now bytes (tree_of c.in-Ok.update) has c.args.turns.now c.pin_parent.new.turns c.in-Err-pin_parent.stop c.in-Err-pin_parent.ensures)

pub let_go-requires-clause-live : goal.let_go-requires-clause-live
let_go-requires-clause-live g c =
    let pins = c.in-Ok-pin_parent.ensures in
    let under = rw c.in-Err-Refused.field-0-is at (c.in-Err-Refused.ensures pins.tree pins.is_pinned) in
    let still = still_pinned g.T.Hash.Hash32.digest_of g.T.Turns.worker g.T.Turns.faults g.T.Turns.made g.T.Turns.goes g.T.Turns.named c.pin_parent.new.turns c.merge_over.new.turns c.in-Ok-pin_parent.pinned pins.tree _
    (keeps_unmerged g.T.Hash.Hash32.digest_of c.args.who (named_as c.in-Ok-pin_parent.pinned pins.tree) (tree_of c.in-Ok.update) c.args.id c.args.tops.now c.in-Ok-pin_parent.pinned.pin c.in-Err-Refused.why) under pins.is_pinned in
    still.live

pub returns-in-Ok-merge_over : goal.returns-in-Ok-merge_over
returns-in-Ok-merge_over g c bytes spelled =
    let has = has_update g.T.Hash.Hash32.digest_of bytes (bag_trees c.args.bag.now) (tree_of c.in-Ok.update) spelled c.in-Ok.ensures.root c.in-Ok.ensures.exact in
    let pins = c.in-Ok-pin_parent.ensures in
    block_done g.T.Hash.Hash32.digest_of g.T.Turns.worker g.T.Turns.faults g.T.Turns.made g.T.Turns.goes g.T.Turns.named c.args.who c.args.id c.args.parent c.args.tops.now bytes (tree_of c.in-Ok.update) has c.args.turns.now c.pin_parent.new.turns g.met.T.Turns.further c.in-Ok-pin_parent.pinned pins c.merge_over.new.turns c.in-Ok-merge_over.end (c.in-Ok-merge_over.ensures pins.tree pins.is_pinned)

pub returns-in-Err-Memory : goal.returns-in-Err-Memory
returns-in-Err-Memory g c bytes spelled =
    let has = has_update g.T.Hash.Hash32.digest_of bytes (bag_trees c.args.bag.now) (tree_of c.in-Ok.update) spelled c.in-Ok.ensures.root c.in-Ok.ensures.exact in
    let pins = c.in-Ok-pin_parent.ensures in
    let under = rw c.in-Err-Memory.field-0-is at (c.in-Err-Memory.ensures pins.tree pins.is_pinned) in
    block_stopped g.T.Hash.Hash32.digest_of g.T.Turns.worker g.T.Turns.faults g.T.Turns.made g.T.Turns.goes g.T.Turns.named c.args.who c.args.id c.args.parent c.args.tops.now bytes (tree_of c.in-Ok.update) has c.args.turns.now c.pin_parent.new.turns g.met.T.Turns.further c.in-Ok-pin_parent.pinned pins c.merge_over.new.turns under

pub returns-in-Ok-let_go : goal.returns-in-Ok-let_go
returns-in-Ok-let_go g c bytes spelled =
    let has = has_update g.T.Hash.Hash32.digest_of bytes (bag_trees c.args.bag.now) (tree_of c.in-Ok.update) spelled c.in-Ok.ensures.root c.in-Ok.ensures.exact in
    let pins = c.in-Ok-pin_parent.ensures in
    let under = rw c.in-Err-Refused.field-0-is at (c.in-Err-Refused.ensures pins.tree pins.is_pinned) in
    block_let_go g.T.Hash.Hash32.digest_of g.T.Turns.worker g.T.Turns.faults g.T.Turns.made g.T.Turns.goes g.T.Turns.named c.args.who c.args.id c.args.parent c.args.tops.now bytes (tree_of c.in-Ok.update) has c.args.turns.now c.pin_parent.new.turns g.met.T.Turns.further c.in-Ok-pin_parent.pinned pins c.merge_over.new.turns c.let_go.new.turns c.in-Err-Refused.why (Ok (tt {0})) under c.in-Ok-let_go.ensures

pub returns-in-Err-let_go : goal.returns-in-Err-let_go
returns-in-Err-let_go g c bytes spelled =
    let has = has_update g.T.Hash.Hash32.digest_of bytes (bag_trees c.args.bag.now) (tree_of c.in-Ok.update) spelled c.in-Ok.ensures.root c.in-Ok.ensures.exact in
    let pins = c.in-Ok-pin_parent.ensures in
    let under = rw c.in-Err-Refused.field-0-is at (c.in-Err-Refused.ensures pins.tree pins.is_pinned) in
    block_let_go g.T.Hash.Hash32.digest_of g.T.Turns.worker g.T.Turns.faults g.T.Turns.made g.T.Turns.goes g.T.Turns.named c.args.who c.args.id c.args.parent c.args.tops.now bytes (tree_of c.in-Ok.update) has c.args.turns.now c.pin_parent.new.turns g.met.T.Turns.further c.in-Ok-pin_parent.pinned pins c.merge_over.new.turns c.let_go.new.turns c.in-Err-Refused.why (Err c.in-Err-let_go.fault) under c.in-Err-let_go.ensures
