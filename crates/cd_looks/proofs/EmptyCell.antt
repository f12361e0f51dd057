-- A face that isn't given counts as the empty cell's, which passes the check.
use Rattle.std.proofs.Common.{◌≡◌, ℕ, zero, suc, ◌≤◌, Bool, true, false, Option, Some, None, refl, ap, arith, lit≤}
use Rattle.std.specs.Prelude.{if◌then◌else◌, IfSome}
use Rattle.cd_cell.specs.FaceView.{FaceView}
use Rattle.cd_cell.specs.GoodFace.{IsGoodFace}
use Rattle.cd_cell.specs.Levels.{plain_depth}
use Rattle.cd_looks.specs.Answers.{empty_face, face_or_empty}

pub face_given : (found : Option FaceView) (face : FaceView) → found ≡ Some face → face_or_empty found ≡ face
face_given found face is = ap face_or_empty is

-- the empty cell's face passes the check
no_depth : (l : ℕ) → plain_depth empty_face l ≡ 0
unfolding plain_depth
no_depth zero = refl
no_depth (suc l) = if_zero _ _ (no_depth l)
  where
    if_zero : (b : Bool) (n : ℕ) → n ≡ 0 → (if b then 0 else n) ≡ 0
    if_zero true n is = refl
    if_zero false n is = is

pub empty_is_good : IsGoodFace empty_face
empty_is_good = record {
  bits = lit≤ tt;
  kids = lit≤ tt;
  fit = record { known = λ e. cc; pruned = λ e. cc; library = λ e. cc; proof = λ e. cc; update = λ e. cc; depths = λ l few. let none = no_depth l in omega arith };
}

pub good_given : (found : Option FaceView) → IfSome found IsGoodFace → IsGoodFace (face_or_empty found)
good_given None good = empty_is_good
good_given (Some face) good = good
