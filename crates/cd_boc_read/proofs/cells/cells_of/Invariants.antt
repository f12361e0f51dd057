use Rattle.cd_boc_read.specs.Views.{text_views}
use Rattle.cd_boc_read.proofs.CellLoop.{AreFilled}
use Rattle.cd_boc_read.proofs.cells.cells_of.Given as goal

abbrev pub invariant-loop-left : goal.invariant-loop-left
invariant-loop-left g l = AreFilled g.H.Hash32.digest_of (text_views l.texts) l.left l.faces.items l.infos.items

abbrev pub decreases-loop-left : goal.decreases-loop-left
decreases-loop-left g l = l.left
