-- A face is the shown one exactly where each kid is.
use Rattle.std.proofs.Common.{◌≡◌, ◌<◌, ◌≤◌, ◌+◌, ◌∷◌, ◌++◌, [], length, get_or, map, true≢false, refl, sym, ap, ap₂, ◌∙◌, arith}
use Rattle.std.proofs.lemmas.List.{map_more, take_more, take_all, get_or-map, get_or_default}
use Rattle.cd_cell.specs.CellFaults.{no_info, kid_at}
use Rattle.cd_cell.specs.Levels.{kid_level}
use Rattle.cd_update.specs.Nodes.{node}
use Rattle.cd_update.specs.Visits.{spot}
use Rattle.cd_update.specs.GraftWalks.{tree_at, face_in, new_info_at}
use Rattle.cd_update.proofs.IndexLaws.{infos-equal, infos-apart}
use Rattle.cd_update.proofs.GraftVisits.{child-visited, child-behind, face-kept, kids-kept}
use Rattle.cd_update.proofs.grafting.HalfGraft.is_unchanged.Goals as goal

pub info_at-requires-clause-visited : goal.info_at-requires-clause-visited
info_at-requires-clause-visited g c =
    let v = c.args.visit.now in
    let below : c.loop-place.place < length c.children-children.result.now = omega arith in
    child-visited c.args.self.now.grafting v c.children-children.result.now c.kid_level-depth.result c.loop-place.place c.requires.visited c.requires.visible
    (c.kid_level-depth.ensures.value ∙ ap (λ f. kid_level f v.node.depth) c.face-shown.ensures.face) c.children-children.ensures.numbers below

pub loop-place-preserved : goal.loop-place-preserved
loop-place-preserved g c =
    let it = c.args.self.now in
    let v = c.args.visit.now in
    let face = face_in it v.node in
    let children = c.children-children.result.now in
    let place = c.loop-place.place in
    let depth = c.kid_level-depth.result in
    let below : place < length children = omega arith in
    let in-kids : place < length face.kids = omega (arith, c.children-children.ensures.count) in
    let info = c.info_at.ensures (spot v.node + 1) (child-behind it.grafting v children depth place c.requires.visited c.children-children.ensures.behind below) c.requires.done in
    let kids = c.kids-kids.ensures.value ∙ ap (λ f. f.kids) c.face-shown.ensures.face in
    let kid : c.index-kids-place.result ≡ kid_at face place =
    c.index-kids-place.is ∙ ap (λ ks. get_or ks place c.index-kids-place.result) kids ∙ get_or_default face.kids place c.index-kids-place.result no_info in-kids
    in
    let same = infos-equal c.info_at.result.now c.index-kids-place.result (sym c.if-ne.false ∙ c.ne.ensures) in
    map_more (λ r. new_info_at g.H.Hash32.digest_of it (node depth r)) children place 0 below
    ∙ ap₂ (λ ks k. ks ++ k ∷ []) c.loop-place.invariant (sym info ∙ same ∙ kid)
    ∙ sym (take_more face.kids place no_info in-kids)

pub returns-then-ne : goal.returns-then-ne
returns-then-ne g c =
    let it = c.args.self.now in
    let v = c.args.visit.now in
    let face = face_in it v.node in
    let children = c.children-children.result.now in
    let place = c.loop-place.place in
    let depth = c.kid_level-depth.result in
    let below : place < length children = omega arith in
    let in-kids : place < length face.kids = omega (arith, c.children-children.ensures.count) in
    let info = c.info_at.ensures (spot v.node + 1) (child-behind it.grafting v children depth place c.requires.visited c.children-children.ensures.behind below) c.requires.done in
    let kids = c.kids-kids.ensures.value ∙ ap (λ f. f.kids) c.face-shown.ensures.face in
    let kid : c.index-kids-place.result ≡ kid_at face place =
    c.index-kids-place.is ∙ ap (λ ks. get_or ks place c.index-kids-place.result) kids ∙ get_or_default face.kids place c.index-kids-place.result no_info in-kids
    in (
      λ impossible. absurd (true≢false (sym impossible)),
      λ kept.
          let all = kids-kept it.grafting (tree_at it v.node) children v.node.depth depth face
          (c.face-shown.ensures.cell ∙ c.face-shown.ensures.face) c.children-children.ensures.cells
          (c.kid_level-depth.ensures.value ∙ ap (λ f. kid_level f v.node.depth) c.face-shown.ensures.face) kept
          in
          absurd
          (infos-apart c.info_at.result.now c.index-kids-place.result (sym c.if-ne.true ∙ c.ne.ensures)
          (info
          ∙ sym (get_or-map (λ r. new_info_at g.H.Hash32.digest_of it (node depth r)) children place 0 no_info below)
          ∙ ap (λ ks. get_or ks place no_info) all
          ∙ sym kid)),
    )

pub returns : goal.returns
returns g c =
    let it = c.args.self.now in
    let n = c.args.visit.now.node in
    let face = face_in it n in
    let children = c.children-children.result.now in
    let place = c.loop-place.place in
    let depth = c.kid_level-depth.result in
    let all : length face.kids ≤ place = omega (arith, c.children-children.ensures.count, c.loop-place-test.false) in
    let same =
    ap (map (λ r. new_info_at g.H.Hash32.digest_of it (node depth r))) (sym (take_all place children c.loop-place-test.false))
    ∙ c.loop-place.invariant
    ∙ take_all place face.kids all
    in (
      λ _. face-kept it.grafting (tree_at it n) children n.depth depth face
          (c.face-shown.ensures.cell ∙ c.face-shown.ensures.face) c.children-children.ensures.cells
          (c.kid_level-depth.ensures.value ∙ ap (λ f. kid_level f n.depth) c.face-shown.ensures.face) same,
      λ _. refl,
    )
