use Rattle.std.proofs.Common.{All}
use Rattle.cd_cell.specs.GoodFace.{IsGoodFace}
use Rattle.cd_boc_tests.proofs.export.export.Given as goal

abbrev pub invariant-loop-face : goal.invariant-loop-face
invariant-loop-face l = All (λ c. IsGoodFace c.face) l.cells.items
