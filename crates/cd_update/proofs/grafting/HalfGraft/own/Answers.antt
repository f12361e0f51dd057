-- A hidden visit has no own cell, a visible one its grafted face.
use Rattle.std.proofs.Common.{◌<◌, ◌+◌, ◌∷◌, [], length, take, fold, sym, ap, ap₂, ◌∙◌, arith}
use Rattle.std.specs.Prelude.{if◌then◌else◌}
use Rattle.std.proofs.lemmas.List.{get_or_default}
use Rattle.cd_cell.specs.CellFaults.{no_info}
use Rattle.cd_cell.specs.Equality.{same_face}
use Rattle.cd_cell.specs.Levels.{info_of_face}
use Rattle.cd_cell.specs.Updates.{is_hidden}
use Rattle.cd_update.specs.EachOnce.{with_new, each_once}
use Rattle.cd_update.specs.Visits.{spot, place_of, visited}
use Rattle.cd_update.specs.Grafts.{own_face_at, own_faces_at}
use Rattle.cd_update.specs.GraftWalks.{visits_of, tree_at, new_info_at, new_face_at}
use Rattle.cd_update.proofs.PlaceLaws.{each_once-more}
use Rattle.cd_update.proofs.GraftInfos.{info-visible}
use Rattle.cd_update.proofs.GraftVisits.{grafted-weaker}
use Rattle.cd_update.proofs.grafting.HalfGraft.own.Goals as goal

pub loop-number-preserved-then-is_hidden : goal.loop-number-preserved-then-is_hidden
loop-number-preserved-then-is_hidden g c =
    let H = g.H.Hash32.digest_of in
    let it = c.args.self.now in
    let i = c.loop-number.number in
    let in' : i < length (visits_of it) = omega (arith, c.len-number-end.ensures, it.half.walk.visits.ok) in
    let n = c.at-visit.result.now.node in
    let hidden = ap (is_hidden n.depth) c.face-shown.ensures.cell ∙ sym c.is_hidden.ensures ∙ c.if-is_hidden.true in
    let none = ap (λ v. own_face_at H it.known.now.infos (place_of it.half.bag.now v.node)) (sym c.at-visit.ensures.value) ∙ ap (λ b. if b then [] else new_face_at H it n ∷ []) hidden in
    record {
      cells =
          c.loop-number.invariant.cells
          ∙ sym (each_once-more it.half.bag.now (visits_of it) i in' same_face (own_face_at H it.known.now.infos)
          ∙ ap (fold (with_new same_face) (each_once same_face (own_faces_at H it.known.now.infos (visited it.half.bag.now (take i (visits_of it)))))) none);
      infos = c.loop-number.invariant.infos;
    }

pub new_face-requires-clause-done : goal.new_face-requires-clause-done
new_face-requires-clause-done g c = grafted-weaker (spot c.at-visit.result.now.node + 1) c.requires

pub add-requires-clause-info : goal.add-requires-clause-info
add-requires-clause-info g c =
    let H = g.H.Hash32.digest_of in
    let it = c.args.self.now in
    let infos = c.args.infos.now in
    let i = c.loop-number.number in
    let in' : i < length (visits_of it) = omega (arith, c.len-number-end.ensures, it.half.walk.visits.ok) in
    let in-infos : i < length infos = omega (arith, c.requires.counted) in
    let n = c.at-visit.result.now.node in
    let shown = ap (is_hidden n.depth) c.face-shown.ensures.cell ∙ sym c.is_hidden.ensures ∙ c.if-is_hidden.false in
    c.index-infos-number.is
    ∙ get_or_default infos i c.index-infos-number.result no_info in-infos
    ∙ c.requires.done i in' (omega arith)
    ∙ ap (λ v. new_info_at H it v.node) (sym c.at-visit.ensures.value)
    ∙ info-visible H it.known.now.infos it.grafting.old (tree_at it n) n.depth shown
    ∙ ap (info_of_face H) (sym c.new_face.ensures)

pub loop-number-preserved : goal.loop-number-preserved
loop-number-preserved g c =
    let H = g.H.Hash32.digest_of in
    let it = c.args.self.now in
    let i = c.loop-number.number in
    let in' : i < length (visits_of it) = omega (arith, c.len-number-end.ensures, it.half.walk.visits.ok) in
    let n = c.at-visit.result.now.node in
    let shown = ap (is_hidden n.depth) c.face-shown.ensures.cell ∙ sym c.is_hidden.ensures ∙ c.if-is_hidden.false in
    let one = ap (λ v. own_face_at H it.known.now.infos (place_of it.half.bag.now v.node)) (sym c.at-visit.ensures.value) ∙ ap (λ b. if b then [] else new_face_at H it n ∷ []) shown in
    record {
      cells =
          c.in_ok-add.ensures.cells
          ∙ ap₂ (with_new same_face) c.loop-number.invariant.cells c.new_face.ensures
          ∙ sym (each_once-more it.half.bag.now (visits_of it) i in' same_face (own_face_at H it.known.now.infos)
          ∙ ap (fold (with_new same_face) (each_once same_face (own_faces_at H it.known.now.infos (visited it.half.bag.now (take i (visits_of it)))))) one);
      infos = c.in_ok-add.ensures.infos;
    }
