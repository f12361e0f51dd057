use Rattle.std.proofs.Common.{FitsSigned, w32, rules}
use Rattle.std.proofs.lemmas.Int.{to_z-of_z}
use Rattle.cd_block.proofs.Halves.{is_child_of-made, is_child_of-parts, same_parent}
use Rattle.cd_block.proofs.shard.ShardId.parent.Goals as goal

pub returns-in_err-shard-clause-only : goal.returns-in_err-shard-clause-only
returns-in_err-shard-clause-only c = λ parent known child.
    let parts = is_child_of-parts c.args.self.now parent child in
    let none = c.in_err-shard.ensures.only parent.shard known.shard parts.1 in
    absurd cc

pub returns-clause-child : goal.returns-clause-child
returns-clause-child c =
    let fits : FitsSigned w32 c.args.self.now.workchain = search rules in
    rw (to_z-of_z w32 c.args.self.now.workchain fits) (is_child_of-made c.args.self.now.workchain c.args.self.now.shard c.in_ok-shard.shard c.in_ok-shard.ensures.child)

pub returns-clause-only : goal.returns-clause-only
returns-clause-only c = λ parent known child.
    let fits : FitsSigned w32 c.args.self.now.workchain = search rules in
    let parts = is_child_of-parts c.args.self.now parent child in
    rw (to_z-of_z w32 c.args.self.now.workchain fits) (same_parent c.args.self.now parent c.in_ok-shard.shard parts.0 (c.in_ok-shard.ensures.only parent.shard known.shard parts.1))
