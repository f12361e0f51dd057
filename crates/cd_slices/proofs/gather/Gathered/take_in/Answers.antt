use Rattle.std.proofs.Common.{◌≡◌, List, length, ap, sym, subst, ◌∙◌, arith}
use Rattle.std.specs.Prelude.{Contains}
use Rattle.std.proofs.lemmas.List.{get_or_default}
use Rattle.cd_cell.specs.declared.info.ChildInfo.{ChildInfo}
use Rattle.cd_slices.specs.declared.gather.Gathered.{Gathered}
use Rattle.cd_slices.proofs.PlaceLaws.{adds-more, adds-wider}
use Rattle.cd_slices.proofs.GatherLaws.{kids-more, kids-known, gathered-face}
use Rattle.cd_slices.proofs.gather.Gathered.take_in.Goals as goal

pub returns-in_err-know-clause-places : goal.returns-in_err-know-clause-places
returns-in_err-know-clause-places c =
    let kids = c.kids-kid-items.result.now in
    let kid = c.kid-item.result in
    adds-wider (Contains kids) (Contains c.args.face.kids) c.args.self.now.places c.know.new.self.places (λ info there. subst (λ (ks : List ChildInfo). Contains ks info) c.kids-kid-items.ensures.value there)
    (adds-more (Contains kids) (λ i. i ≡ kid) c.args.self.now.places c.loop-kid.self.places c.know.new.self.places
    (λ info same. (c.loop-kid.kid-index, c.loop-kid-test.true, get_or_default kids c.loop-kid.kid-index info kid c.loop-kid-test.true ∙ (sym c.kid-item.is ∙ sym same))) c.loop-kid.invariant.adds c.know.ensures.places)

pub loop-kid-preserved : goal.loop-kid-preserved
loop-kid-preserved c =
    let known = c.in_ok-know.ensures in
    kids-more c.args.self.now c.loop-kid.self c.know.new.self c.kids-kid-items.result.now c.loop-kid.kid-index c.kid-item.result c.loop-kid.invariant c.loop-kid-test.true c.kid-item.is known.whole known.grows known.faces known.known known.places

pub returns-in_err-push-clause-places : goal.returns-in_err-push-clause-places
returns-in_err-push-clause-places c =
    adds-wider (Contains c.kids-kid-items.result.now) (Contains c.args.face.kids) c.args.self.now.places c.loop-kid.self.places (λ info there. subst (λ (ks : List ChildInfo). Contains ks info) c.kids-kid-items.ensures.value there) c.loop-kid.invariant.adds

pub returns-clause-places : goal.returns-clause-places
returns-clause-places c =
    adds-wider (Contains c.kids-kid-items.result.now) (Contains c.args.face.kids) c.args.self.now.places c.loop-kid.self.places (λ info there. subst (λ (ks : List ChildInfo). Contains ks info) c.kids-kid-items.ensures.value there) c.loop-kid.invariant.adds

pub returns-clause-whole : goal.returns-clause-whole
returns-clause-whole c =
    let old = c.loop-kid.self in
    let kept = c.loop-kid.invariant in
    let new : Gathered = record { hashes = old.hashes; places = old.places; faces = c.push.new.self } in
    gathered-face old new c.args.face (λ i. old.hashes) (λ i. old.places) c.in_ok-push.ensures.items kept.whole (omega (arith, ap length kept.faces, kept.grows.longer, c.requires.next)) c.requires.good
    (kids-known c.args.self.now old c.kids-kid-items.result.now c.args.face.kids c.loop-kid.kid-index kept c.loop-kid-test.false c.kids-kid-items.ensures.value)
