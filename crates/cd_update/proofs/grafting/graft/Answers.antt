-- The visits are the places of the new half, each once; over known trees the graft is that of the trees.
use Rattle.std.proofs.Common.{◌+◌, ◌^◌, ◌<◌, ap, ap₂, sym, subst, inr, ◌∙◌}
use Rattle.std.specs.Option.{option_map}
use Rattle.cd_cell.specs.Equality.{same_face, same_face-Decides}
use Rattle.cd_cell.specs.Tree.{mask_of}
use Rattle.cd_cell.specs.Bags.{bag_tree}
use Rattle.cd_update.specs.declared.graft_fault.GraftFault.TheVariants.{Foreign}
use Rattle.cd_update.specs.EachOnce.{each_once, first_of}
use Rattle.cd_update.specs.Grafts.{grafted_info, own_face_at, foreign_at}
use Rattle.cd_update.specs.UpdateTrees.{tree_of, new_half_of}
use Rattle.cd_update.proofs.OldTrees.{mask-new}
use Rattle.cd_update.proofs.HalfVisits.{update-tree, each_once-half, half-places, foreign-half}
use Rattle.cd_update.proofs.GraftTrees.{foreign-tree, info-tree, own-tree}
use Rattle.cd_update.proofs.grafting.graft.Goals as goal

pub unknown-requires : goal.unknown-requires
unknown-requires g c = c.visits.ensures.shown

pub returns-in-Some-clause-refused : goal.returns-in-Some-clause-refused
returns-in-Some-clause-refused g c =
    let here = foreign-half c.in-Ok.half.walked c.in-Ok.ensures c.args.known.now.infos c.visits.ensures.value c.unknown.ensures in
    inr (ap (option_map (λ h. Foreign h)) (sym here ∙ c.in-Some.is))

pub returns-in-Some-clause-refused_tree : goal.returns-in-Some-clause-refused_tree
returns-in-Some-clause-refused_tree g c ts are =
    let known = c.args.known.now.infos in
    let here = foreign-half c.in-Ok.half.walked c.in-Ok.ensures known c.visits.ensures.value c.unknown.ensures in
    inr (ap (option_map (λ h. Foreign h)) (sym (foreign-tree g.H.Hash32.digest_of ts known are (new_half_of c.args.update.now) 0) ∙ sym here ∙ c.in-Some.is))

pub invariant_of-it : goal.invariant_of-it
invariant_of-it g c =
    let H = g.H.Hash32.digest_of in
    let update = c.args.update.now in
    let is_update = update-tree H update.bag.now update.root update.is_bag update.is_update in
    let half = c.in-Ok.half in
    let is = c.in-Ok.ensures in
    let known = c.args.known.now.infos in
    let low = mask-new H (tree_of update) is_update.well is_update.kind is_update.plain in
    record {
      grafting = record {
        walked = half.walked;
        low =
            subst (λ d. mask_of H (bag_tree half.bag.now half.start.node.entry) < 2 ^ (d + 1)) (sym is.depth)
            (subst (λ t. mask_of H t < 2) (sym is.cell) low);
        found = ap (first_of (foreign_at H known)) (half-places half.walked is) ∙ sym (foreign-half half.walked is known c.visits.ensures.value c.unknown.ensures) ∙ c.in_default-unknown.is;
        old = c.args.known.now.old;
      };
    }

pub returns-in-Ok-grafted-clause-refused : goal.returns-in-Ok-grafted-clause-refused
returns-in-Ok-grafted-clause-refused g c = sym (foreign-half c.in-Ok.half.walked c.in-Ok.ensures c.args.known.now.infos c.visits.ensures.value c.unknown.ensures) ∙ c.in_default-unknown.is

pub returns-in-Ok-grafted-clause-root : goal.returns-in-Ok-grafted-clause-root
returns-in-Ok-grafted-clause-root g c = c.in-Ok-grafted.ensures.root ∙ ap₂ (grafted_info g.H.Hash32.digest_of c.args.known.now.infos) c.in-Ok.ensures.cell c.in-Ok.ensures.depth

pub returns-in-Ok-grafted-clause-cells : goal.returns-in-Ok-grafted-clause-cells
returns-in-Ok-grafted-clause-cells g c =
    c.in-Ok-grafted.ensures.cells
    ∙ each_once-half c.in-Ok.half.walked c.in-Ok.ensures same_face same_face-Decides (own_face_at g.H.Hash32.digest_of c.args.known.now.infos)

pub returns-in-Ok-grafted-clause-refused_tree : goal.returns-in-Ok-grafted-clause-refused_tree
returns-in-Ok-grafted-clause-refused_tree g c ts are =
    sym (foreign-tree g.H.Hash32.digest_of ts c.args.known.now.infos are (new_half_of c.args.update.now) 0) ∙ returns-in-Ok-grafted-clause-refused g c

pub returns-in-Ok-grafted-clause-tree : goal.returns-in-Ok-grafted-clause-tree
returns-in-Ok-grafted-clause-tree g c ts are =
    let H = g.H.Hash32.digest_of in
    let known = c.args.known.now.infos in
    let half = new_half_of c.args.update.now in
    record {
      root_is = returns-in-Ok-grafted-clause-root g c ∙ info-tree H ts known are half 0;
      cells_are = returns-in-Ok-grafted-clause-cells g c ∙ ap (each_once same_face) (own-tree H ts known are half 0);
    }
