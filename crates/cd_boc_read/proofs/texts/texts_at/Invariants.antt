use Rattle.std.proofs.Common.{◌≡◌, ◌≤◌, length}
use Rattle.cd_boc_read.specs.Reading.{texts_at}
use Rattle.cd_boc_read.specs.Views.{text_views}
use Rattle.cd_boc_read.proofs.Loops.{with_front, left_at}
use Rattle.cd_boc_read.proofs.texts.texts_at.Given as goal

abbrev pub invariant-loop-number : goal.invariant-loop-number
invariant-loop-number l =
    (with_front (text_views l.texts.items) (left_at l.frame.shape l.frame.cells (length l.frame.cell_data.now) l.number l.index l.rest)
    ≡ texts_at l.frame.shape l.frame.cells (length l.frame.cell_data.now) l.frame.cells 0 l.frame.index.now l.frame.cell_data.now)
    × (length l.rest ≤ length l.frame.cell_data.now)
