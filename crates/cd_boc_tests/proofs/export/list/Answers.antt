use Rattle.std.proofs.Common.{All, sym, subst}
use Rattle.std.proofs.lemmas.List.Elements.{All-push}
use Rattle.cd_cell.specs.GoodFace.{IsGoodFace}
use Rattle.cd_boc_tests.proofs.export.list.Goals as goal

pub returns-clause-good : goal.returns-clause-good
returns-clause-good c = λ all.
    subst (All (λ x. IsGoodFace x.face)) (sym c.in_ok-push.ensures.items) (All-push (λ x. IsGoodFace x.face) c.args.cells.now.items _ all c.in_ok-check.ensures.good)
