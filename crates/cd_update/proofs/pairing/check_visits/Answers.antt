-- A hidden visit wants nothing; a visible one is compared with what stands beside its hash.
use Rattle.std.proofs.Common.{◌≡◌, ◌<◌, length, get_or, flat_map, None, Some, sym, ap, ◌∙◌, arith}
use Rattle.cd_cell.specs.Equality.{same_hash}
use Rattle.cd_update.specs.EachOnce.{with_new, each_once, first_of}
use Rattle.cd_update.specs.Visits.{visit_at, place_of, visited}
use Rattle.cd_update.specs.Pairing.{beside, unlike, visible_hash, wanted_at, misfit_at}
use Rattle.cd_update.proofs.PlaceLaws.{first_of-more, first_of-stop}
use Rattle.cd_update.proofs.PairingLaws.{misfit_at-hidden, wanted-hidden, wanted-visible, misfit-here, first-misfit}
use Rattle.cd_update.proofs.pairing.check_visits.Goals as goal

pub loop-visit-preserved-in_default : goal.loop-visit-preserved-in_default
loop-visit-preserved-in_default g c =
    let H = g.H.Hash32.digest_of in
    let bag = c.args.bag.now in
    let visits = c.args.visits.now in
    let i = c.loop-visit.visit-index in
    let p = place_of bag (visit_at visits i).node in
    let look = beside (each_once same_hash (flat_map (wanted_at H) (visited bag visits))) c.args.faces.now in
    let in' : i < length visits = omega arith in
    let none : visible_hash H p ≡ None = sym c.hash_of_visible.ensures ∙ c.in_default.is in
    record {
      all = c.loop-visit.invariant.all ∙ sym (wanted-hidden H bag visits i in' none);
      agree = first_of-more bag visits i in' (misfit_at H look) c.loop-visit.invariant.agree ∙ misfit_at-hidden H look p none;
    }

pub returns-in-Some-unlike_face : goal.returns-in-Some-unlike_face
returns-in-Some-unlike_face g c =
    let H = g.H.Hash32.digest_of in
    let bag = c.args.bag.now in
    let visits = c.args.visits.now in
    let faces = c.args.faces.now in
    let i = c.loop-visit.visit-index in
    let ask = misfit_at H (beside (each_once same_hash (flat_map (wanted_at H) (visited bag visits))) faces) in
    let in' : i < length visits = omega arith in
    let here =
    misfit-here H bag visits i in' faces c.in-Some.hash c.in-Ok.place c.face-shown.result.now _
    (c.in-Ok.ensures.all ∙ ap (λ hs. with_new same_hash hs c.in-Some.hash) c.loop-visit.invariant.all)
    (sym c.hash_of_visible.ensures ∙ c.in-Some.is) c.in-Ok.ensures.below c.in-Ok.ensures.place c.face-shown.ensures.cell
    in
    first-misfit c.in-Some-unlike_face.fault (unlike (visit_at visits i).node.depth c.in-Some.hash (get_or faces c.in-Ok.place None) c.face-shown.result.now) (first_of ask (visited bag visits)) c.in-Some-unlike_face.ensures
    (λ m e. first_of-stop bag visits i in' ask c.loop-visit.invariant.agree m (here ∙ e))

pub loop-visit-preserved : goal.loop-visit-preserved
loop-visit-preserved g c =
    let H = g.H.Hash32.digest_of in
    let bag = c.args.bag.now in
    let visits = c.args.visits.now in
    let faces = c.args.faces.now in
    let i = c.loop-visit.visit-index in
    let ask = misfit_at H (beside (each_once same_hash (flat_map (wanted_at H) (visited bag visits))) faces) in
    let in' : i < length visits = omega arith in
    let some : visible_hash H (place_of bag (visit_at visits i).node) ≡ Some c.in-Some.hash = sym c.hash_of_visible.ensures ∙ c.in-Some.is in
    let grown = c.in-Ok.ensures.all ∙ ap (λ hs. with_new same_hash hs c.in-Some.hash) c.loop-visit.invariant.all in
    let here = misfit-here H bag visits i in' faces c.in-Some.hash c.in-Ok.place c.face-shown.result.now _ grown some c.in-Ok.ensures.below c.in-Ok.ensures.place c.face-shown.ensures.cell in
    record {
      all = grown ∙ sym (wanted-visible H bag visits i in' c.in-Some.hash some);
      agree = first_of-more bag visits i in' ask c.loop-visit.invariant.agree ∙ here ∙ c.in_default-unlike_face.ensures;
    }
