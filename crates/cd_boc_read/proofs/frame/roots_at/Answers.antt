use Rattle.std.proofs.Common.{◌≡◌, length, ap, arith}
use Rattle.cd_boc_read.specs.Reading.{numbers_in}
use Rattle.cd_boc_read.proofs.NumberFields.{length-numbers_in}
use Rattle.cd_boc_read.proofs.frame.roots_at.Goals as goal

pub are_cells-requires : goal.are_cells-requires
are_cells-requires c =
    let read : numbers_in c.args.size c.args.counts.now.roots c.in_ok-part.part.now ≡ c.in_ok-roots.roots.items = cc c.in_ok-roots.ensures in
    omega (arith, ap length read, length-numbers_in c.args.size c.args.counts.now.roots c.in_ok-part.part.now)
