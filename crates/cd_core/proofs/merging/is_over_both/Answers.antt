use Rattle.std.proofs.Common.{◌≤◌, max, arith}
use Rattle.cd_cell.specs.Infos.{info_depth}
use Rattle.cd_core.proofs.Halves.{too-deep}
use Rattle.cd_core.proofs.merging.is_over_both.Goals as goal

pub returns-then-from-ge-GREATEST_DEPTH : goal.returns-then-from-ge-GREATEST_DEPTH
returns-then-from-ge-GREATEST_DEPTH g c =
    let deep : 1024 ≤ max (info_depth c.args.left.now 0) (info_depth c.args.right.now 0) = omega (arith, c.depth_at.ensures, c.depth_at-2.ensures, c.max.ensures, c.from.ensures, c.if-from-ge-GREATEST_DEPTH.true) in
    too-deep g.H.Hash32.digest_of c.args.left.now c.args.right.now c.args.prepared.now c.requires.left c.requires.right deep
