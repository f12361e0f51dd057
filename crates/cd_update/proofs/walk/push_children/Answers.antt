-- Each child that is pushed is shown by its parent's face in its place.
use Rattle.std.proofs.Common.{◌≡◌, ◌<◌, ◌-◌, ◌++◌, length, drop, map, reverse, All, refl, ap, ap₂, sym, subst, ◌∙◌, get_or, arith}
use Rattle.std.proofs.lemmas.List.Elements.{All-push}
use Rattle.cd_cell.specs.Bags.{face_at}
use Rattle.cd_cell.specs.Levels.{kid_level}
use Rattle.cd_cell.specs.Updates.{is_hidden}
use Rattle.cd_update.specs.declared.visit.Visit.{Visit}
use Rattle.cd_update.specs.Nodes.{node, IsShown}
use Rattle.cd_update.specs.Visits.{nodes_of}
use Rattle.cd_update.proofs.Walking.{pushed-more, next_nodes-shown, IsShown-child}
use Rattle.cd_update.proofs.walk.push_children.Goals as goal

pub loop-left-preserved : goal.loop-left-preserved
loop-left-preserved g c =
    let H = g.H.Hash32.digest_of in
    let bag = c.args.bag.now in
    let k = c.args.visit.node.entry in
    let left = c.loop-left.left - 1 in
    let children = c.children-children.result.now in
    let v : Visit = record { node = node c.kid_level-depth.result (get_or children left 0); parent = k; place = left } in
    let in' : left < length children = omega (arith, c.loop-left.invariant.low) in
    let in-kids : left < length (face_at bag.cells k).kids = omega (arith, in', c.children-children.ensures.count) in
    record {
      low = omega (arith, c.loop-left.invariant.low);
      nodes =
          ap nodes_of c.in_ok-push.ensures.items
          ∙ pushed-more c.args.pending.now.items c.loop-left.pending.items v children c.kid_level-depth.result left c.loop-left.left in' (omega arith) refl c.loop-left.invariant.nodes;
      shown =
          λ all.
          subst (All (IsShown H bag)) (sym c.in_ok-push.ensures.items)
          (All-push (IsShown H bag) c.loop-left.pending.items v (c.loop-left.invariant.shown all)
          (IsShown-child H bag c.face-face.ensures.kept k left c.kid_level-depth.result (get_or children left 0) c.requires.entry in-kids c.kid_level-depth.ensures.small (ap (λ xs. get_or xs left 0) c.children-children.ensures.numbers)));
    }

pub returns-clause-nodes : goal.returns-clause-nodes
returns-clause-nodes g c =
    let bag = c.args.bag.now in
    let n = c.args.visit.node in
    let none : c.loop-left.left ≡ 0 = omega arith in
    let face = c.face-face.ensures.face in
    let shown = ap (is_hidden n.depth) (sym face) ∙ sym c.is_hidden.ensures ∙ c.if-is_hidden.false in
    let depth : c.kid_level-depth.result ≡ kid_level (face_at bag.cells n.entry) n.depth = c.kid_level-depth.ensures.value ∙ ap (λ f. kid_level f n.depth) face in
    c.loop-left.invariant.nodes
    ∙ ap (λ left. nodes_of c.args.pending.now.items ++ reverse (map (node c.kid_level-depth.result) (drop left c.children-children.result.now))) none
    ∙ ap₂ (λ d xs. nodes_of c.args.pending.now.items ++ reverse (map (node d) xs)) depth c.children-children.ensures.numbers
    ∙ ap (λ ns. nodes_of c.args.pending.now.items ++ reverse ns) (sym (next_nodes-shown bag n shown))
