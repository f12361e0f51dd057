use Rattle.cd_boc_read.proofs.NumberFields.{four_numbers}
use Rattle.cd_boc_read.proofs.texts.four.Goals as goal

pub returns : goal.returns
returns c =
    rw (c.small.ensures, c.small-2.ensures, c.small-3.ensures, c.small-4.ensures, c.parted.ensures.front, c.parted-2.ensures.front, c.parted-3.ensures.front, c.parted-4.ensures.front, c.parted-3.ensures.rest, c.parted-2.ensures.rest, c.parted.ensures.rest, c.from-size.ensures)
    (four_numbers c.args.size c.args.count c.args.bytes.now c.requires.count)
