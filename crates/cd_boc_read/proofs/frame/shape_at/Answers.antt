use Rattle.std.proofs.Common.{sym}
use Rattle.cd_boc_read.proofs.NumberFields.{shape_is}
use Rattle.cd_boc_read.proofs.frame.shape_at.Goals as goal

pub returns-clause-shape : goal.returns-clause-shape
returns-clause-shape c =
    rw c.shape_of.ensures (shape_is c.in_ok-flags.flags c.in_ok-off_bytes.off_bytes (sym c.if-not-are_flags.ensures) (sym c.if-not-are_sizes.ensures))
