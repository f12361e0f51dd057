-- The root is visible, and is compared with the face that was given.
use Rattle.std.proofs.Common.{◌≡◌, Some, inr, ap, sym, ◌∙◌}
use Rattle.std.specs.Option.{option_map}
use Rattle.cd_cell.specs.Updates.{old_half}
use Rattle.cd_update.specs.Visits.{place_of}
use Rattle.cd_update.specs.Pairing.{unlike, visible_hash}
use Rattle.cd_update.proofs.PairingLaws.{misfit_at-visible}
use Rattle.cd_update.proofs.pairing.check_top.Goals as goal

pub returns-in-Some-unlike_stored : goal.returns-in-Some-unlike_stored
returns-in-Some-unlike_stored g c =
    let H = g.H.Hash32.digest_of in
    let top = c.args.top.now in
    let hash = c.in-Some.hash in
    let p = place_of c.args.bag.now c.args.first.now.node in
    let some : visible_hash H p ≡ Some hash = sym c.hash_of_visible.ensures ∙ c.in-Some.is in
    let here = misfit_at-visible H (λ h. Some top) p hash some ∙ ap (unlike p.depth hash (Some top)) c.face-shown.ensures.cell in
    inr (c.in-Some-unlike_stored.ensures ∙ ap (option_map (λ x. old_half x)) (sym here))
