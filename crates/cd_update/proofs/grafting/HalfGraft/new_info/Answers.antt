-- A hidden cell gives way to the one info that stands for it; a visible one shows what its face says.
use Rattle.std.proofs.Common.{ap, sym, subst, ◌∙◌}
use Rattle.cd_cell.specs.Levels.{info_of_face}
use Rattle.cd_cell.specs.Fit.{IsFaceFit}
use Rattle.cd_cell.specs.Updates.{is_hidden}
use Rattle.cd_cell.proofs.Subtrees.{info_of-face_of}
use Rattle.cd_update.specs.Pairing.{upto}
use Rattle.cd_update.specs.GraftWalks.{tree_at}
use Rattle.cd_update.proofs.GraftInfos.{face-good, info-visible}
use Rattle.cd_update.proofs.GraftVisits.{info-hidden, visit-ready, visit-shown}
use Rattle.cd_update.proofs.grafting.HalfGraft.new_info.Goals as goal

pub shown_info-info-requires : goal.shown_info-info-requires
shown_info-info-requires g c = visit-shown c.args.self.now.grafting c.args.visit.now c.requires.visited

pub returns-then-is_hidden : goal.returns-then-is_hidden
returns-then-is_hidden g c =
    let v = c.args.visit.now in
    let hidden = ap (is_hidden v.node.depth) c.face-shown.ensures.cell ∙ sym c.is_hidden.ensures ∙ c.if-is_hidden.true in
    c.info_upto.ensures
    ∙ ap (upto v.node.depth) c.shown_info-info.ensures.info
    ∙ sym (info-hidden c.args.self.now.grafting v c.requires.visited hidden)

pub returns-then-is_unchanged : goal.returns-then-is_unchanged
returns-then-is_unchanged g c =
    let H = g.H.Hash32.digest_of in
    let it = c.args.self.now in
    let n = c.args.visit.now.node in
    let shown = ap (is_hidden n.depth) c.face-shown.ensures.cell ∙ sym c.is_hidden.ensures ∙ c.if-is_hidden.false in
    let same = c.is_unchanged.ensures.0 c.if-is_unchanged.true in
    c.shown_info-info.ensures.info
    ∙ info_of-face_of H (tree_at it n)
    ∙ ap (info_of_face H) (c.face-shown.ensures.cell ∙ c.face-shown.ensures.face ∙ sym same)
    ∙ sym (info-visible H it.known.now.infos it.grafting.old (tree_at it n) n.depth shown)

pub face_info-requires : goal.face_info-requires
face_info-requires g c =
    let H = g.H.Hash32.digest_of in
    let it = c.args.self.now in
    let v = c.args.visit.now in
    let shown = ap (is_hidden v.node.depth) c.face-shown.ensures.cell ∙ sym c.is_hidden.ensures ∙ c.if-is_hidden.false in
    subst IsFaceFit (sym c.new_face.ensures) (face-good H it.known.now.infos it.grafting.old (tree_at it v.node) v.node.depth (visit-ready it.grafting v c.requires.visited) shown).good.fit

pub returns : goal.returns
returns g c =
    let H = g.H.Hash32.digest_of in
    let it = c.args.self.now in
    let n = c.args.visit.now.node in
    let shown = ap (is_hidden n.depth) c.face-shown.ensures.cell ∙ sym c.is_hidden.ensures ∙ c.if-is_hidden.false in
    c.face_info.ensures.face ∙ ap (info_of_face H) c.new_face.ensures ∙ sym (info-visible H it.known.now.infos it.grafting.old (tree_at it n) n.depth shown)
