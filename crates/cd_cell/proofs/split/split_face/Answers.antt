-- The face is that of the joined tree, which is good.
use Rattle.std.proofs.Common.{◌≡◌, List, [], ◌∷◌, Bool, false, ap, sym, subst, ◌∙◌}
use Rattle.cd_cell.specs.FaceView.{FaceView}
use Rattle.cd_cell.specs.GoodFace.{IsGoodFace}
use Rattle.cd_cell.specs.Joined.{joined_face}
use Rattle.cd_cell.proofs.JoinedTrees.{IsGoodFace-joined_face}
use Rattle.cd_cell.proofs.split.split_face.Goals as goal

pub returns-clause-good : goal.returns-clause-good
returns-clause-good c plain_left plain_right low_left low_right =
    let left = c.args.left.now in
    let right = c.args.right.now in
    let over : List Bool → FaceView = λ bs. record { exotic = false; bits = bs; kids = left ∷ right ∷ [] } in
    let is : c.new.result ≡ joined_face left right = c.new.ensures ∙ ap over c.in-Some.ensures.value in
    subst IsGoodFace (sym is) (IsGoodFace-joined_face left right plain_left plain_right low_left low_right)
