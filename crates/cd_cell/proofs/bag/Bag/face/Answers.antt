-- The entry that was read is the face of its cell.
use Rattle.std.proofs.Common.{◌≡◌, ap, sym, subst, ◌∙◌, get_or}
use Rattle.std.proofs.lemmas.List.{get_or_default}
use Rattle.cd_cell.specs.GoodFace.{IsGoodFace}
use Rattle.cd_cell.specs.Bags.{face_at, no_face}
use Rattle.cd_cell.proofs.BagLaws.{face_of-bag}
use Rattle.cd_cell.proofs.bag.Bag.face.Goals as goal

pub returns-clause-good : goal.returns-clause-good
returns-clause-good g c =
    let face = c.index-cells-number.result in
    let read : face ≡ face_at c.args.self.now.cells c.args.number =
    c.index-cells-number.is
    ∙ ap (λ fs. get_or fs c.args.number face) c.cells-cells.ensures.value
    ∙ get_or_default c.args.self.now.cells c.args.number face no_face c.requires
    in
    subst IsGoodFace (sym read) (c.cells-cells.ensures.kept.good c.args.number c.requires)

pub returns-clause-cell : goal.returns-clause-cell
returns-clause-cell g c =
    let face = c.index-cells-number.result in
    let read : face ≡ face_at c.args.self.now.cells c.args.number =
    c.index-cells-number.is
    ∙ ap (λ fs. get_or fs c.args.number face) c.cells-cells.ensures.value
    ∙ get_or_default c.args.self.now.cells c.args.number face no_face c.requires
    in
    let bag = c.args.self.now in
    face_of-bag g.H.Hash32.digest_of bag.cells bag.refs bag.roots c.cells-cells.ensures.kept c.args.number ∙ sym read
