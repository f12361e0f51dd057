use Rattle.std.proofs.Common.{sym, ◌∙◌}
use Rattle.std.specs.Option.{option_to_list}
use Rattle.cd_core.proofs.InTurn.{first-goes, second-goes, goes-first, goes-second, goes-none}
use Rattle.cd_core.proofs.merging.goes.Goals as goal

pub returns-then-waits_for : goal.returns-then-waits_for
returns-then-waits_for c =
    let w = c.args.world.now in
    let ends = c.args.ends.now in
    goes-first w ends.first (option_to_list ends.second) c.args.block.now (first-goes w ends.first c.args.block.now ∙ sym c.waits_for.ensures ∙ c.if-waits_for.true)

pub returns-in-Some : goal.returns-in-Some
returns-in-Some c =
    let w = c.args.world.now in
    let ends = c.args.ends.now in
    goes-second w ends.first c.in-Some.second ends.second c.args.block.now c.waits_for-in-Some.result (first-goes w ends.first c.args.block.now ∙ sym c.waits_for.ensures ∙ c.if-waits_for.false) c.in-Some.is
    (c.waits_for-in-Some.ensures ∙ sym (second-goes w ends.first c.args.block.now c.in-Some.second))

pub returns-in-None : goal.returns-in-None
returns-in-None c =
    let w = c.args.world.now in
    let ends = c.args.ends.now in
    goes-none w ends.first ends.second c.args.block.now (first-goes w ends.first c.args.block.now ∙ sym c.waits_for.ensures ∙ c.if-waits_for.false) c.in-None.is
