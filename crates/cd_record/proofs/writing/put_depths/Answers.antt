-- The pieces of the four levels are those of the significant ones.
use Rattle.cd_cell.specs.Masks.{is_significant}
use Rattle.cd_cell.specs.StoredText.{depth_text, stored_depths}
use Rattle.cd_record.proofs.KidTexts.{four_levels}
use Rattle.cd_record.proofs.writing.put_depths.Goals as goal

pub returns : goal.returns
unfolding stored_depths
returns c =
    let kid = c.args.kid.now in
    four_levels (is_significant kid.mask) (depth_text kid) _ _ _ _ _ c.in_ok-put_depth.ensures c.in_ok-put_depth-2.ensures c.in_ok-put_depth-3.ensures c.in_ok-put_depth-4.ensures
