use Rattle.std.proofs.Common.{Ok, Err, ◌∙◌}
use Rattle.cd_cell.specs.Bags.{bag_trees}
use Rattle.cd_update.specs.UpdateTrees.{tree_of}
use Rattle.cd_run.specs.Merging.{named_as}
use Rattle.cd_run.proofs.BlockLaws.{has_update}
use Rattle.cd_run.proofs.JoinLaws.{still_both, keeps_unjoined}
use Rattle.cd_run.proofs.MergedLaws.{merged_none, merged_no_update, merged_done, merged_stopped, merged_let_go}
use Rattle.cd_run.proofs.merged_task.store_merged.Goals as goal

pub returns-in-Err : goal.returns-in-Err
returns-in-Err g c bytes spelled =
    rw c.word_of_update.ensures
    (merged_none g.T.Hash.Hash32.digest_of g.T.Turns.worker g.T.Turns.faults g.T.Turns.made g.T.Turns.goes g.T.Turns.named c.args.who c.args.id c.args.left c.args.right c.args.tops.now bytes g.met.T.Turns.stays c.args.turns.now _
    (merged_no_update g.row.T-Hash.Denot g.T.Hash.Hash32.digest_of c.args.who c.args.id c.args.left c.args.right c.args.tops.now bytes (g.T.Turns.named c.args.turns.now) (bag_trees c.args.bag.now) c.in-Err.fault spelled c.in-Err.ensures.exact))

pub returns-in-Err-pin_both : goal.returns-in-Err-pin_both
returns-in-Err-pin_both g c bytes spelled =
    let has = has_update g.T.Hash.Hash32.digest_of bytes (bag_trees c.args.bag.now) (tree_of c.in-Ok.update) spelled c.in-Ok.ensures.root c.in-Ok.ensures.exact in
    rw c.end_of_stop.ensures (c.in-Err-pin_both.ensures c.args.id c.args.tops.now bytes (tree_of c.in-Ok.update) has)

pub let_both_go-requires-clause-worker : goal.let_both_go-requires-clause-worker
let_both_go-requires-clause-worker g c =
    let both = c.in-Ok-pin_both.ensures in
    let under = rw c.in-Err-Refused.field-0-is at (c.in-Err-Refused.ensures both.a both.b both.are_pinned) in
    under.same_worker ∙ both.stage.same_worker ∙ c.requires.worker

pub let_both_go-requires-clause-pinned : goal.let_both_go-requires-clause-pinned
let_both_go-requires-clause-pinned g c =
    let both = c.in-Ok-pin_both.ensures in
    let under = rw c.in-Err-Refused.field-0-is at (c.in-Err-Refused.ensures both.a both.b both.are_pinned) in (
      both.a,
      (
        both.b,
        still_both g.T.Hash.Hash32.digest_of g.T.Turns.worker g.T.Turns.faults g.T.Turns.made g.T.Turns.goes g.T.Turns.named c.in-Ok-pin_both.parents both.a both.b c.pin_both.new.turns c.join_over.new.turns _
            (λ k. keeps_unjoined g.T.Hash.Hash32.digest_of c.args.who (named_as c.in-Ok-pin_both.parents.left both.a) (named_as c.in-Ok-pin_both.parents.right both.b) (tree_of c.in-Ok.update) c.args.id c.args.tops.now k c.in-Err-Refused.why) under both.are_pinned,
      ),
    )

pub returns-in-Ok-join_over : goal.returns-in-Ok-join_over
returns-in-Ok-join_over g c bytes spelled =
    let has = has_update g.T.Hash.Hash32.digest_of bytes (bag_trees c.args.bag.now) (tree_of c.in-Ok.update) spelled c.in-Ok.ensures.root c.in-Ok.ensures.exact in
    let both = c.in-Ok-pin_both.ensures in
    merged_done g.T.Hash.Hash32.digest_of g.T.Turns.worker g.T.Turns.faults g.T.Turns.made g.T.Turns.goes g.T.Turns.named c.args.who c.args.id c.args.left c.args.right c.args.tops.now bytes (tree_of c.in-Ok.update) has c.args.turns.now c.pin_both.new.turns g.met.T.Turns.further c.in-Ok-pin_both.parents both c.join_over.new.turns c.in-Ok-join_over.end (c.in-Ok-join_over.ensures both.a both.b both.are_pinned)

pub returns-in-Err-Memory : goal.returns-in-Err-Memory
returns-in-Err-Memory g c bytes spelled =
    let has = has_update g.T.Hash.Hash32.digest_of bytes (bag_trees c.args.bag.now) (tree_of c.in-Ok.update) spelled c.in-Ok.ensures.root c.in-Ok.ensures.exact in
    let both = c.in-Ok-pin_both.ensures in
    let under = rw c.in-Err-Memory.field-0-is at (c.in-Err-Memory.ensures both.a both.b both.are_pinned) in
    merged_stopped g.T.Hash.Hash32.digest_of g.T.Turns.worker g.T.Turns.faults g.T.Turns.made g.T.Turns.goes g.T.Turns.named c.args.who c.args.id c.args.left c.args.right c.args.tops.now bytes (tree_of c.in-Ok.update) has c.args.turns.now c.pin_both.new.turns g.met.T.Turns.further c.in-Ok-pin_both.parents both c.join_over.new.turns under

pub returns-in-Ok-let_both_go : goal.returns-in-Ok-let_both_go
returns-in-Ok-let_both_go g c bytes spelled =
    let has = has_update g.T.Hash.Hash32.digest_of bytes (bag_trees c.args.bag.now) (tree_of c.in-Ok.update) spelled c.in-Ok.ensures.root c.in-Ok.ensures.exact in
    let both = c.in-Ok-pin_both.ensures in
    let under = rw c.in-Err-Refused.field-0-is at (c.in-Err-Refused.ensures both.a both.b both.are_pinned) in
    merged_let_go g.T.Hash.Hash32.digest_of g.T.Turns.worker g.T.Turns.faults g.T.Turns.made g.T.Turns.goes g.T.Turns.named c.args.who c.args.id c.args.left c.args.right c.args.tops.now bytes (tree_of c.in-Ok.update) has c.args.turns.now c.pin_both.new.turns g.met.T.Turns.further c.in-Ok-pin_both.parents both c.join_over.new.turns c.let_both_go.new.turns c.in-Err-Refused.why (Ok (tt {0})) under c.in-Ok-let_both_go.ensures

pub returns-in-Err-let_both_go : goal.returns-in-Err-let_both_go
returns-in-Err-let_both_go g c bytes spelled =
    let has = has_update g.T.Hash.Hash32.digest_of bytes (bag_trees c.args.bag.now) (tree_of c.in-Ok.update) spelled c.in-Ok.ensures.root c.in-Ok.ensures.exact in
    let both = c.in-Ok-pin_both.ensures in
    let under = rw c.in-Err-Refused.field-0-is at (c.in-Err-Refused.ensures both.a both.b both.are_pinned) in
    merged_let_go g.T.Hash.Hash32.digest_of g.T.Turns.worker g.T.Turns.faults g.T.Turns.made g.T.Turns.goes g.T.Turns.named c.args.who c.args.id c.args.left c.args.right c.args.tops.now bytes (tree_of c.in-Ok.update) has c.args.turns.now c.pin_both.new.turns g.met.T.Turns.further c.in-Ok-pin_both.parents both c.join_over.new.turns c.let_both_go.new.turns c.in-Err-Refused.why (Err c.in-Err-let_both_go.fault) under c.in-Err-let_both_go.ensures
