use Rattle.std.proofs.Common.{ap, arith}
use Rattle.cd_boc_write.specs.Layouts.{data_len}
use Rattle.cd_boc_write.proofs.HeaderLaws.{length-export_text, data_len-export}
use Rattle.cd_boc_write.proofs.layout.Layout.total.Goals as goal

pub returns-clause-text : goal.returns-clause-text
returns-clause-text c = λ cells is.
    omega (arith, length-export_text cells, data_len-export cells, is.header, ap data_len is.index, c.data_len.ensures)
