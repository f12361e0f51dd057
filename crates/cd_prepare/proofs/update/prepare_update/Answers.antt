-- The update is well-formed and of mask 0, so what is grafted of it is too; over an old tree its faults are the tree's.
use Rattle.std.proofs.Common.{◌≡◌, Contains, refl, ap, ap₂, sym, subst, ◌∙◌, ◌⊎◌, ⊎_elim, inl, inr, [], ◌∷◌}
use Rattle.std.proofs.lemmas.List.Elements.{Contains-append_left}
use Rattle.cd_cell.specs.declared.info.ChildInfo.{ChildInfo}
use Rattle.cd_cell.specs.FaceView.{FaceView}
use Rattle.cd_cell.specs.Infos.{rep_of_info}
use Rattle.cd_cell.specs.Levels.{info_of_face}
use Rattle.cd_cell.specs.Tree.{subtrees}
use Rattle.cd_cell.specs.Listings.{known_infos, Fits, IsOldOrListed, tree_of}
use Rattle.cd_cell.specs.Updates.{found_in, known_of, grafted, new_cells}
use Rattle.cd_cell.proofs.NewCells.{applied-cell, tree_of-new_cells}
use Rattle.cd_update.specs.Grafts.{grafted_info, own_faces}
use Rattle.cd_update.specs.Pairing.{pair_refusal}
use Rattle.cd_update.specs.UpdateTrees as update
use Rattle.cd_prepare.specs.Applied.{grafted_faces, new_faces}
use Rattle.cd_update.proofs.HalfVisits.{update-tree}
use Rattle.cd_prepare.proofs.NewLists.{Fits-faces, known-listed}
use Rattle.cd_prepare.proofs.OwnFaces.{WasHidden, clear-faces, good-faces, valid-listing, root-is, kids-shown, root-shown}
use Rattle.cd_prepare.proofs.UpdateLaws.{each-face, refused-pair, refused-graft, refused-none, refused-clash, clash-none, answer-pair, answer-graft, answer-none, answer-clash, applied-is, known-old, listed-new_cells, own-listed}
use Rattle.cd_prepare.proofs.update.prepare_update.Goals as goal

pub returns-in-Err-clause-exact : goal.returns-in-Err-clause-exact
returns-in-Err-clause-exact g c t are = answer-pair g.H.Hash32.digest_of (update.tree_of c.args.update.now) t (new_faces g.H.Hash32.digest_of (update.tree_of c.args.update.now) t) c.in-Err.fault c.from.result c.from.ensures (c.in-Err.ensures.refused_tree t are)

pub returns-in-Err-graft-clause-exact : goal.returns-in-Err-graft-clause-exact
returns-in-Err-graft-clause-exact g c t are =
    let H = g.H.Hash32.digest_of in
    let u = update.tree_of c.args.update.now in
    answer-graft H u t (new_faces H u t) (c.in-Ok.ensures.refused_tree t are) c.in-Err-graft.fault c.from-in-Err-graft.result c.from-in-Err-graft.ensures
    (c.in-Err-graft.ensures.refused_tree (known_of H u t) (c.in-Ok.ensures.tree t are))

pub new_cells-requires-clause-good : goal.new_cells-requires-clause-good
new_cells-requires-clause-good g c =
    let u = c.args.update.now in
    good-faces (update-tree g.H.Hash32.digest_of u.bag.now u.root u.is_bag u.is_update) c.in-Ok.known.infos c.in-Ok.known.old c.in-Ok-graft.ensures.refused c.as_slice.result.now (c.as_slice.ensures ∙ c.in-Ok-graft.ensures.cells)

pub new-requires : goal.new-requires
new-requires g c =
    let H = g.H.Hash32.digest_of in
    let u = c.args.update.now in
    let faces = c.as_slice.result.now in
    valid-listing (update-tree H u.bag.now u.root u.is_bag u.is_update) c.in-Ok.known.infos c.in-Ok.known.old c.in-Ok-graft.ensures.refused faces (c.as_slice.ensures ∙ c.in-Ok-graft.ensures.cells)
    c.in-Ok-new_cells.cells.items c.in-Ok-new_cells.ensures.cells (clash-none H faces c.in-Ok-new_cells.ensures.exact) _ _ c.in-Ok-graft.ensures.root refl

pub returns-in-Ok-new_cells-clause-valid : goal.returns-in-Ok-new_cells-clause-valid
returns-in-Ok-new_cells-clause-valid g c =
    let H = g.H.Hash32.digest_of in
    let u = c.args.update.now in
    let faces = c.as_slice.result.now in
    valid-listing (update-tree H u.bag.now u.root u.is_bag u.is_update) c.in-Ok.known.infos c.in-Ok.known.old c.in-Ok-graft.ensures.refused faces (c.as_slice.ensures ∙ c.in-Ok-graft.ensures.cells)
    c.in-Ok-new_cells.cells.items c.in-Ok-new_cells.ensures.cells (clash-none H faces c.in-Ok-new_cells.ensures.exact) _ _ (c.new.ensures.root ∙ c.in-Ok-graft.ensures.root) c.new.ensures.cells

pub returns-in-Ok-new_cells-clause-rep : goal.returns-in-Ok-new_cells-clause-rep
returns-in-Ok-new_cells-clause-rep g c =
    let u = c.args.update.now in
    let root = root-is (update-tree g.H.Hash32.digest_of u.bag.now u.root u.is_bag u.is_update) c.in-Ok.known.infos c.in-Ok.known.old c.in-Ok-graft.ensures.refused in
    ap rep_of_info (c.new.ensures.root ∙ c.in-Ok-graft.ensures.root) ∙ root.1

pub returns-in-Ok-new_cells-clause-exact : goal.returns-in-Ok-new_cells-clause-exact
returns-in-Ok-new_cells-clause-exact g c t are =
    let H = g.H.Hash32.digest_of in
    let u = update.tree_of c.args.update.now in
    let known = c.in-Ok.ensures.tree t are in
    answer-none H u t (new_faces H u t) (c.in-Ok.ensures.refused_tree t are) (c.in-Ok-graft.ensures.refused_tree (known_of H u t) known) c.as_slice.result.now
    (c.as_slice.ensures ∙ (c.in-Ok-graft.ensures.tree (known_of H u t) known).cells_are) c.in-Ok-new_cells.ensures.exact

pub returns-clause-exact : goal.returns-clause-exact
returns-clause-exact g c t are =
    let H = g.H.Hash32.digest_of in
    let u = update.tree_of c.args.update.now in
    let known = c.in-Ok.ensures.tree t are in
    answer-clash H u t (new_faces H u t) (c.in-Ok.ensures.refused_tree t are) (c.in-Ok-graft.ensures.refused_tree (known_of H u t) known) c.as_slice.result.now
    (c.as_slice.ensures ∙ (c.in-Ok-graft.ensures.tree (known_of H u t) known).cells_are) c.in-Err-new_cells.fault c.in-Err-new_cells.ensures.exact

pub returns-in-Ok-new_cells-clause-applied : goal.returns-in-Ok-new_cells-clause-applied
returns-in-Ok-new_cells-clause-applied g c t are =
    let H = g.H.Hash32.digest_of in
    let up = c.args.update.now in
    let u = update.tree_of up in
    let half = update.new_half_of up in
    let is = update-tree H up.bag.now up.root up.is_bag up.is_update in
    let known = c.in-Ok.known.infos in
    let old = c.in-Ok.known.old in
    let faces = c.as_slice.result.now in
    let made = c.as_slice.ensures ∙ c.in-Ok-graft.ensures.cells in
    let none = c.in-Ok-graft.ensures.refused in
    let cells = c.in-Ok-new_cells.cells.items in
    let listed = c.in-Ok-new_cells.ensures.cells in
    let clear = clear-faces H faces (clash-none H faces c.in-Ok-new_cells.ensures.exact) in
    let paired = c.in-Ok.ensures.refused_tree t are in
    let met = c.in-Ok.ensures.tree t are in
    let new = c.in-Ok-graft.ensures.tree (known_of H u t) met in
    let tree = grafted H (found_in H (known_of H u t)) half 0 in
    let applies = applied-is H u t paired (c.in-Ok-graft.ensures.refused_tree (known_of H u t) met) in
    let root_made = c.new.ensures.root in
    let cells_made = c.new.ensures.cells in
    let root_is = root_made ∙ new.root_is in
    let cells_are = cells_made ∙ listed-new_cells H (new_cells H u t) faces (each-face H (new_cells H u t) faces (c.as_slice.ensures ∙ new.cells_are)) clear cells listed in
    let shown : (k : ChildInfo) → ((f : FaceView) × Contains faces f × (info_of_face H f ≡ k)) ⊎ WasHidden is known old none faces made k → Contains (known_infos H cells (t ∷ [])) k =
    λ k h.
    ⊎_elim
    (λ own. subst (Contains (known_infos H cells (t ∷ []))) own.2 (known-listed H faces cells listed (t ∷ []) own.0 own.1))
    (λ there. known-old H u t known met cells k there.0)
    h
    in
    record {
      tree = tree;
      is_applied = applies;
      root_is = root_is;
      cells_are = cells_are;
      fits =
          subst (λ r. Fits H r c.new.result.cells (t ∷ [])) (sym (root_made ∙ c.in-Ok-graft.ensures.root))
          (subst (λ cs. Fits H (grafted_info H known half 0) cs (t ∷ [])) (sym cells_made)
          (Fits-faces H faces cells listed (grafted_info H known half 0) (t ∷ [])
          (shown (grafted_info H known half 0) (root-shown is known old none faces made))
          (λ f h k kid. shown k (kids-shown is known old none faces made f h k kid))));
      stands = λ free.
          ap₂ (λ r cs. tree_of H r cs (t ∷ [])) root_is cells_are
          ∙ tree_of-new_cells H u t is.well are.well is.kind is.plain tree applies free;
      known = λ s in-new.
          subst (λ cs. IsOldOrListed H cs (t ∷ []) s) (sym cells_made)
          (⊎_elim
          (λ own. inr (own-listed H (new_cells H u t) faces (each-face H (new_cells H u t) faces (c.as_slice.ensures ∙ new.cells_are)) clear cells listed s own))
          (λ old. inl (Contains-append_left (subtrees t) [] s old))
          (applied-cell H u t is.well are.well is.kind is.plain tree applies s in-new));
    }

pub returns-in-Err-clause-refused : goal.returns-in-Err-clause-refused
returns-in-Err-clause-refused g c = refused-pair g.H.Hash32.digest_of (update.tree_of c.args.update.now) (pair_refusal g.H.Hash32.digest_of (update.tree_of c.args.update.now) c.args.root.now c.args.faces.now) (grafted_faces g.H.Hash32.digest_of (update.tree_of c.args.update.now)) c.in-Err.fault c.from.result c.from.ensures c.in-Err.ensures.refused

pub returns-in-Err-graft-clause-refused : goal.returns-in-Err-graft-clause-refused
returns-in-Err-graft-clause-refused g c =
    refused-graft g.H.Hash32.digest_of (update.tree_of c.args.update.now) (pair_refusal g.H.Hash32.digest_of (update.tree_of c.args.update.now) c.args.root.now c.args.faces.now) (grafted_faces g.H.Hash32.digest_of (update.tree_of c.args.update.now)) c.in-Ok.ensures.refused c.in-Ok.known.infos c.in-Ok.ensures.infos c.in-Err-graft.fault c.from-in-Err-graft.result c.from-in-Err-graft.ensures c.in-Err-graft.ensures.refused

pub returns-in-Ok-new_cells-clause-refused : goal.returns-in-Ok-new_cells-clause-refused
returns-in-Ok-new_cells-clause-refused g c =
    refused-none g.H.Hash32.digest_of (update.tree_of c.args.update.now) (pair_refusal g.H.Hash32.digest_of (update.tree_of c.args.update.now) c.args.root.now c.args.faces.now) (grafted_faces g.H.Hash32.digest_of (update.tree_of c.args.update.now)) c.in-Ok.ensures.refused c.in-Ok.known.infos c.in-Ok.ensures.infos c.in-Ok-graft.ensures.refused c.as_slice.result.now (c.as_slice.ensures ∙ c.in-Ok-graft.ensures.cells ∙ ap (λ ks. own_faces g.H.Hash32.digest_of ks (update.new_half_of c.args.update.now)) c.in-Ok.ensures.infos) c.in-Ok-new_cells.ensures.exact

pub returns-clause-refused : goal.returns-clause-refused
returns-clause-refused g c =
    refused-clash g.H.Hash32.digest_of (update.tree_of c.args.update.now) (pair_refusal g.H.Hash32.digest_of (update.tree_of c.args.update.now) c.args.root.now c.args.faces.now) (grafted_faces g.H.Hash32.digest_of (update.tree_of c.args.update.now)) c.in-Ok.ensures.refused c.in-Ok.known.infos c.in-Ok.ensures.infos c.in-Ok-graft.ensures.refused c.as_slice.result.now (c.as_slice.ensures ∙ c.in-Ok-graft.ensures.cells ∙ ap (λ ks. own_faces g.H.Hash32.digest_of ks (update.new_half_of c.args.update.now)) c.in-Ok.ensures.infos) c.in-Err-new_cells.fault c.in-Err-new_cells.ensures.exact
