-- Whether a value was prepared over the joined tree of two states.
use Rattle.std.proofs.Common.{◌≡◌, ℕ, ◌+◌, ◌≤◌, max, Bool, true, false, List, Some, refl, ◌∙◌, arith}
use Rattle.std.specs.Prelude.{nat_le, ◌&&◌}
use Rattle.std.specs.Option.{option_to_list}
use Rattle.std.specs.List.{list_any}
use Rattle.std.proofs.lemmas.Bool.{leb-true}
use Rattle.cd_base.specs.declared.hash.Hash256.{Hash256}
use Rattle.cd_cell.specs.declared.info.ChildInfo.{ChildInfo}
use Rattle.cd_cell.specs.declared.limits.TheConstants.{GREATEST_DEPTH}
use Rattle.cd_cell.specs.Equality.{same_hash}
use Rattle.cd_cell.specs.Infos.{info_depth, rep_of_info, height_of_info}
use Rattle.cd_cell.specs.Joined.{joined_face}
use Rattle.cd_cell.specs.Levels.{info_of_face}
use Rattle.cd_cell.specs.PreparedView.{PreparedView}
use Rattle.cd_cell.proofs.JoinedTrees.{depth-joined_face, depths-joined_face}
use Rattle.cd_world.specs.Machine.{is_over}

-- no value is one over a tree that is too deep
pub too-deep : (H : List ℕ → Hash256) (left right : ChildInfo) (p : PreparedView) → left.mask ≡ 0 → right.mask ≡ 0 → 1024 ≤ max (info_depth left 0) (info_depth right 0)
    → false ≡ is_over p (Some (info_of_face H (joined_face left right)))
too-deep H left right p plain_left plain_right deep = by (nat_le (height_of_info info) GREATEST_DEPTH) refl
  where
    info : ChildInfo
    info = info_of_face H (joined_face left right)

    height : height_of_info info ≡ max (info_depth left 0 + 1) (info_depth right 0 + 1)
    height = depths-joined_face left right plain_left plain_right 3 (omega arith) ∙ depth-joined_face left right

    by : (b : Bool) → nat_le (height_of_info info) GREATEST_DEPTH ≡ b → false ≡ (b && list_any (λ stated. same_hash stated (rep_of_info info)) (option_to_list p.old))
    by true low = absurd (let most = leb-true (height_of_info info) GREATEST_DEPTH low in omega (arith, most, height))
    by false low = refl
