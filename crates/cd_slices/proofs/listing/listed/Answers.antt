use Rattle.std.proofs.Common.{List, map, All, ap, sym, subst, ◌∙◌}
use Rattle.std.proofs.lemmas.Result.{IfOk-weaker}
use Rattle.cd_cell.specs.FaceView.{FaceView}
use Rattle.cd_cell.specs.GoodFace.{IsGoodFace}
use Rattle.cd_cell.specs.declared.new_cell.NewCell.{NewCell}
use Rattle.cd_slices.specs.Gathering.{cell_in}
use Rattle.cd_slices.proofs.ListingLaws.{places-low, good-cells, listed-distinct}
use Rattle.cd_slices.proofs.listing.listed.Goals as goal

pub cells_of-requires : goal.cells_of-requires
cells_of-requires c = places-low c.args.all.now c.deref.result.now c.requires.whole c.requires.done c.deref.ensures.value

pub returns-clause-good : goal.returns-clause-good
returns-clause-good c =
    let all = c.args.all.now in
    IfOk-weaker c.cells_of.result _ _
    (λ cells is. subst (All (λ (x : NewCell). IsGoodFace x.face)) (sym (is ∙ ap (λ (fs : List FaceView). map (cell_in fs) all.places.entries) c.deref.ensures.value)) (good-cells all c.requires.whole c.requires.done))
    c.cells_of.ensures

pub returns-clause-tree : goal.returns-clause-tree
returns-clause-tree c =
    let all = c.args.all.now in
    IfOk-weaker c.cells_of.result _ _
    (λ cells is. λ H told root t whole is_told is_root. is ∙ (ap (λ (fs : List FaceView). map (cell_in fs) all.places.entries) c.deref.ensures.value ∙ listed-distinct H told root all c.requires.whole whole t is_told is_root))
    c.cells_of.ensures
