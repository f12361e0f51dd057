use Rattle.std.proofs.Common.{◌≡◌, length, All}
use Rattle.cd_cell.specs.GoodFace.{IsGoodFace}
use Rattle.cd_boc_tests.proofs.export.chain.Given as goal

abbrev pub invariant-loop : goal.invariant-loop
invariant-loop l = (length l.cells.items ≡ l.counter) × All (λ c. IsGoodFace c.face) l.cells.items
