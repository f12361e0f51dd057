-- The numbers that were cut off are those of the children.
use Rattle.std.proofs.Common.{◌≡◌, ◌<◌, length, map, All, get_or, take, [], ap, ap₂, sym, subst, ◌∙◌}
use Rattle.cd_cell.specs.Tree.{height_of}
use Rattle.cd_cell.specs.Bags.{bag_tree, face_at}
use Rattle.cd_cell.proofs.BagLaws.{children-bag, lower-bag, behind-bag}
use Rattle.cd_cell.proofs.bag.Bag.children.Goals as goal

pub returns-clause-cells : goal.returns-clause-cells
returns-clause-cells g c =
    let bag = c.args.self.now in
    let count : c.refs-count.result ≡ length (face_at bag.cells c.args.number).kids = c.refs-count.ensures.value ∙ ap (λ f. length f.kids) c.face.ensures.face in
    let numbers : take c.refs-count.result (get_or c.refs-refs.result.now c.args.number []) ≡ take (length (face_at bag.cells c.args.number).kids) (get_or bag.refs c.args.number []) =
    ap₂ take count (ap (λ rs. get_or rs c.args.number []) c.refs-refs.ensures.value)
    in
    children-bag g.H.Hash32.digest_of bag.cells bag.refs bag.roots c.refs-refs.ensures.kept c.args.number c.requires ∙ ap (map (bag_tree bag)) (sym numbers)

pub returns-clause-lower : goal.returns-clause-lower
returns-clause-lower g c =
    let bag = c.args.self.now in
    let count : c.refs-count.result ≡ length (face_at bag.cells c.args.number).kids = c.refs-count.ensures.value ∙ ap (λ f. length f.kids) c.face.ensures.face in
    let numbers : take c.refs-count.result (get_or c.refs-refs.result.now c.args.number []) ≡ take (length (face_at bag.cells c.args.number).kids) (get_or bag.refs c.args.number []) =
    ap₂ take count (ap (λ rs. get_or rs c.args.number []) c.refs-refs.ensures.value)
    in
    subst
    (All (λ r. height_of g.H.Hash32.digest_of (bag_tree bag r) < height_of g.H.Hash32.digest_of (bag_tree bag c.args.number)))
    (sym numbers)
    (lower-bag g.H.Hash32.digest_of bag.cells bag.refs bag.roots c.refs-refs.ensures.kept c.args.number c.requires)

pub returns-clause-behind : goal.returns-clause-behind
returns-clause-behind g c =
    let bag = c.args.self.now in
    let count : c.refs-count.result ≡ length (face_at bag.cells c.args.number).kids = c.refs-count.ensures.value ∙ ap (λ f. length f.kids) c.face.ensures.face in
    let numbers : take c.refs-count.result (get_or c.refs-refs.result.now c.args.number []) ≡ take (length (face_at bag.cells c.args.number).kids) (get_or bag.refs c.args.number []) =
    ap₂ take count (ap (λ rs. get_or rs c.args.number []) c.refs-refs.ensures.value)
    in
    subst (All (λ r. (c.args.number < r) × (r < length bag.cells))) (sym numbers)
    (behind-bag g.H.Hash32.digest_of bag.cells bag.refs bag.roots c.refs-refs.ensures.kept c.args.number c.requires)
