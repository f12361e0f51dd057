use Rattle.std.proofs.Common.{arith}
use Rattle.cd_boc_read.proofs.NumberFields.{small_fits}
use Rattle.cd_boc_read.proofs.fields.small.Goals as goal

pub overflow_cast-result : goal.overflow_cast-result
overflow_cast-result c = omega (arith, small_fits c.from_be.result _ c.from_be.ensures.fits c.requires)
