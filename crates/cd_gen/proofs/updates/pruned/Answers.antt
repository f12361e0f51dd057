use Rattle.std.proofs.Common.{◌≡◌, length, ap, ◌∙◌, arith}
use Rattle.cd_gen.specs.States.{sha}
use Rattle.cd_cell.specs.FaceView.{FaceView}
use Rattle.cd_cell.specs.Levels.{info_of_face}
use Rattle.cd_gen.specs.Listing.{at_level_0}
use Rattle.cd_gen.proofs.PrunedLaws.{pruned-shows}
use Rattle.cd_gen.proofs.updates.pruned.Goals as goal

pub returns-clause-shown : goal.returns-clause-shown
returns-clause-shown c =
    let text = c.pruned_text-text.result in
    let k = c.pruned_text-text.type_inv in
    let long : length text ≡ 36 = omega (arith, k) in
    ap (λ (face : FaceView). at_level_0 (info_of_face sha face)) c.new.ensures
    ∙ pruned-shows c.args.info.now text c.bits_of.result c.pruned_text-text.ensures.text long c.bits_of.ensures.bits c.bits_of.ensures.data c.pruned_text-text.ensures.low
