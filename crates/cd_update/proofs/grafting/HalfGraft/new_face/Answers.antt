-- The children of a visible visit were visited, and worked out before it.
use Rattle.std.proofs.Common.{ℕ, ◌≤◌, ◌+◌, ◌∷◌, ◌++◌, [], List, length, take, map, sym, ap, ap₂, ◌∙◌, arith}
use Rattle.std.proofs.lemmas.List.{map_more, take_all, length-map, length-take-le}
use Rattle.cd_cell.specs.declared.info.ChildInfo.{ChildInfo}
use Rattle.cd_cell.specs.FaceView.{FaceView}
use Rattle.cd_cell.specs.Levels.{kid_level}
use Rattle.cd_update.specs.Nodes.{node}
use Rattle.cd_update.specs.Visits.{spot}
use Rattle.cd_update.specs.GraftWalks.{tree_at, face_in, new_info_at}
use Rattle.cd_update.proofs.GraftVisits.{child-visited, child-behind, face-made}
use Rattle.cd_update.proofs.grafting.HalfGraft.new_face.Goals as goal

pub info_at-requires-clause-visited : goal.info_at-requires-clause-visited
info_at-requires-clause-visited g c =
    let v = c.args.visit.now in
    child-visited c.args.self.now.grafting v c.children-child-items.result.now c.kid_level-depth.result c.loop-child.child-index c.requires.visited c.requires.visible
    (c.kid_level-depth.ensures.value ∙ ap (λ f. kid_level f v.node.depth) c.face-shown.ensures.face) c.children-child-items.ensures.numbers c.loop-child-test.true

pub push-requires : goal.push-requires
push-requires g c =
    let children = c.children-child-items.result.now in
    let place = c.loop-child.child-index in
    let info = λ (r : ℕ). new_info_at g.H.Hash32.digest_of c.args.self.now (node c.kid_level-depth.result r) in
    let few : length children ≤ 4 = omega (arith, c.children-child-items.ensures.count, c.face-shown.ensures.good.kids, ap (λ f. length f.kids) c.face-shown.ensures.face) in
    omega (arith, few, ap (λ f. length f.kids) c.loop-child.invariant, length-map (take place children) info, length-take-le place children (omega arith))

pub loop-child-preserved : goal.loop-child-preserved
loop-child-preserved g c =
    let it = c.args.self.now in
    let v = c.args.visit.now in
    let children = c.children-child-items.result.now in
    let place = c.loop-child.child-index in
    let depth = c.kid_level-depth.result in
    let info = c.info_at.ensures (spot v.node + 1) (child-behind it.grafting v children depth place c.requires.visited c.children-child-items.ensures.behind c.loop-child-test.true) c.requires.done in
    let pushed : FaceView → ChildInfo → FaceView = λ f k. record { exotic = f.exotic; bits = f.bits; kids = f.kids ++ k ∷ [] } in
    let of_kids : List ChildInfo → FaceView = λ ks. record { exotic = (face_in it v.node).exotic; bits = (face_in it v.node).bits; kids = ks } in
    c.push.ensures
    ∙ ap₂ pushed c.loop-child.invariant info
    ∙ ap of_kids (sym (map_more (λ r. new_info_at g.H.Hash32.digest_of it (node depth r)) children place 0 c.loop-child-test.true))

pub returns : goal.returns
returns g c =
    let it = c.args.self.now in
    let n = c.args.visit.now.node in
    let children = c.children-child-items.result.now in
    let depth = c.kid_level-depth.result in
    let same = sym c.face-shown.ensures.face ∙ sym c.face-shown.ensures.cell in
    c.loop-child.invariant
    ∙ face-made it.grafting (tree_at it n) children n.depth depth _ _ _ c.children-child-items.ensures.cells
    (c.kid_level-depth.ensures.value ∙ ap (λ f. kid_level f n.depth) (sym c.face-shown.ensures.cell))
    (ap (map (λ r. new_info_at g.H.Hash32.digest_of it (node depth r))) (take_all c.loop-child.child-index children c.loop-child-test.false))
    (ap (λ f. f.exotic) same)
    (ap (λ f. f.bits) same)
