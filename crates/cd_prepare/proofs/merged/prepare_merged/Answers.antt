-- What is grafted of the update is well-formed, and so is the joined cell.
use Rattle.std.proofs.Common.{◌≡◌, ◌⊎◌, [], ◌∷◌, ◌++◌, All, Some, inl, inr, ⊎_elim, refl, ap, ap₂, sym, subst, ◌∙◌}
use Rattle.std.specs.Option.{option_or}
use Rattle.cd_cell.specs.FaceView.{FaceView}
use Rattle.cd_cell.specs.Infos.{rep_of_info}
use Rattle.cd_cell.specs.Steady.{IsSteady}
use Rattle.cd_cell.specs.Tree.{face_of}
use Rattle.cd_cell.specs.Joined.{joined_tree}
use Rattle.cd_cell.specs.Listings.{IsOldOrListed, tree_of}
use Rattle.cd_cell.specs.Updates.{found_in, known_of, grafted, new_cells}
use Rattle.cd_update.specs.Grafts.{own_faces}
use Rattle.cd_update.specs.Hides.{hides}
use Rattle.cd_update.specs.PairingBelow.{refusal_below}
use Rattle.cd_update.specs.UpdateTrees as update
use Rattle.cd_update.proofs.HalfVisits.{update-tree}
use Rattle.cd_prepare.specs.declared.prepare_fault.PrepareFault.TheVariants.{Memory}
use Rattle.cd_prepare.specs.Applied.{grafted_faces, new_faces, fault_over}
use Rattle.cd_prepare.specs.Merged.{listed_if, is_given, merged_cells}
use Rattle.cd_prepare.proofs.OwnFaces.{clear-faces, root-is}
use Rattle.cd_prepare.proofs.MergedFaces.{split-steady, good-merged, valid-merged, fits-merged, merged-faces_of}
use Rattle.cd_prepare.proofs.MergedTrees.{merged-cell, tree_of-merged}
use Rattle.cd_prepare.proofs.SplitFaults.{split-is, both-deep, merged-is, states, below, known-both, kid-state}
use Rattle.cd_prepare.proofs.UpdateLaws.{refused-pair, refused-graft, refused-none, refused-clash, clash-none, answer-pair, answer-graft, answer-none, answer-clash, applied-is, listed-new_cells, own-listed}
use Rattle.cd_prepare.proofs.merged.prepare_merged.Goals as goal

pub new_cells-requires-clause-good : goal.new_cells-requires-clause-good
new_cells-requires-clause-good g c =
    let H = g.H.Hash32.digest_of in
    let up = c.args.update.now in
    let own = c.in-Ok-graft.own.cells in
    let top = c.in-Ok.split.face in
    let steady = subst (λ (f : FaceView). All IsSteady f.kids) (sym c.in-Ok.ensures.face) (split-steady c.args.left.now c.args.right.now) in
    good-merged (update-tree H up.bag.now up.root up.is_bag up.is_update) c.in-Ok-pair_below.known.infos c.in-Ok-pair_below.known.old c.in-Ok-graft.ensures.refused own c.in-Ok-graft.ensures.cells top c.in-Ok.ensures.good steady
    c.as_slice.result.now (c.as_slice.ensures ∙ c.in-Ok-with_split.ensures.cells ∙ ap (λ k. own ++ listed_if (hides H k (update.new_half_of up)) top) c.in-Ok.ensures.info)

pub new-requires : goal.new-requires
new-requires g c =
    let H = g.H.Hash32.digest_of in
    let up = c.args.update.now in
    let own = c.in-Ok-graft.own.cells in
    let top = c.in-Ok.split.face in
    let steady = subst (λ (f : FaceView). All IsSteady f.kids) (sym c.in-Ok.ensures.face) (split-steady c.args.left.now c.args.right.now) in
    let faces = c.as_slice.result.now in
    valid-merged (update-tree H up.bag.now up.root up.is_bag up.is_update) c.in-Ok-pair_below.known.infos c.in-Ok-pair_below.known.old c.in-Ok-graft.ensures.refused own c.in-Ok-graft.ensures.cells top c.in-Ok.ensures.good steady
    faces (c.as_slice.ensures ∙ c.in-Ok-with_split.ensures.cells ∙ ap (λ k. own ++ listed_if (hides H k (update.new_half_of up)) top) c.in-Ok.ensures.info)
    c.in-Ok-new_cells.cells.items c.in-Ok-new_cells.ensures.cells (clash-none H faces c.in-Ok-new_cells.ensures.exact) _ _ (c.in-Ok-with_split.ensures.root ∙ c.in-Ok-graft.ensures.root) refl

pub returns-in-Ok-new_cells-clause-rep : goal.returns-in-Ok-new_cells-clause-rep
returns-in-Ok-new_cells-clause-rep g c =
    let up = c.args.update.now in
    let root = root-is (update-tree g.H.Hash32.digest_of up.bag.now up.root up.is_bag up.is_update) c.in-Ok-pair_below.known.infos c.in-Ok-pair_below.known.old c.in-Ok-graft.ensures.refused in
    ap rep_of_info (c.new.ensures.root ∙ c.in-Ok-with_split.ensures.root ∙ c.in-Ok-graft.ensures.root) ∙ root.1

-- ---- by the faces alone

pub returns-in-Err-pair_below-clause-refused : goal.returns-in-Err-pair_below-clause-refused
returns-in-Err-pair_below-clause-refused g c =
    let H = g.H.Hash32.digest_of in
    let u = update.tree_of c.args.update.now in
    let split = c.in-Ok.split in
    let faces = c.args.faces.now in
    let is = split-is H u c.args.left.now c.args.right.now faces split.face split.info c.in-Ok.ensures.deep c.in-Ok.ensures.face c.in-Ok.ensures.info in
    subst (λ o. (c.from.result ≡ Memory) ⊎ (o ≡ Some c.from.result)) (sym is)
    (refused-pair H u (refusal_below H u split.info split.face faces) (grafted_faces H u ++ listed_if (hides H split.info (update.new_half_of c.args.update.now)) split.face) c.in-Err-pair_below.fault c.from.result c.from.ensures c.in-Err-pair_below.ensures.refused)

pub returns-in-Err-graft-clause-refused : goal.returns-in-Err-graft-clause-refused
returns-in-Err-graft-clause-refused g c =
    let H = g.H.Hash32.digest_of in
    let u = update.tree_of c.args.update.now in
    let split = c.in-Ok.split in
    let faces = c.args.faces.now in
    let answer = c.from-in-Err-graft.result in
    let is = split-is H u c.args.left.now c.args.right.now faces split.face split.info c.in-Ok.ensures.deep c.in-Ok.ensures.face c.in-Ok.ensures.info in
    subst (λ o. (answer ≡ Memory) ⊎ (o ≡ Some answer)) (sym is)
    (refused-graft H u (refusal_below H u split.info split.face faces) (grafted_faces H u ++ listed_if (hides H split.info (update.new_half_of c.args.update.now)) split.face) c.in-Ok-pair_below.ensures.refused c.in-Ok-pair_below.known.infos c.in-Ok-pair_below.ensures.infos c.in-Err-graft.fault answer c.from-in-Err-graft.ensures c.in-Err-graft.ensures.refused)

pub returns-in-Ok-new_cells-clause-refused : goal.returns-in-Ok-new_cells-clause-refused
returns-in-Ok-new_cells-clause-refused g c =
    let H = g.H.Hash32.digest_of in
    let up = c.args.update.now in
    let u = update.tree_of up in
    let split = c.in-Ok.split in
    let faces = c.args.faces.now in
    let met = c.in-Ok-pair_below.ensures.infos in
    let half = update.new_half_of up in
    split-is H u c.args.left.now c.args.right.now faces split.face split.info c.in-Ok.ensures.deep c.in-Ok.ensures.face c.in-Ok.ensures.info
    ∙ refused-none H u (refusal_below H u split.info split.face faces) (grafted_faces H u ++ listed_if (hides H split.info half) split.face) c.in-Ok-pair_below.ensures.refused c.in-Ok-pair_below.known.infos met c.in-Ok-graft.ensures.refused c.as_slice.result.now
    (c.as_slice.ensures ∙ c.in-Ok-with_split.ensures.cells ∙ ap (λ cs. cs ++ listed_if (hides H split.info half) split.face) (c.in-Ok-graft.ensures.cells ∙ ap (λ ks. own_faces H ks half) met))
    c.in-Ok-new_cells.ensures.exact

pub returns-clause-refused : goal.returns-clause-refused
returns-clause-refused g c =
    let H = g.H.Hash32.digest_of in
    let up = c.args.update.now in
    let u = update.tree_of up in
    let split = c.in-Ok.split in
    let faces = c.args.faces.now in
    let met = c.in-Ok-pair_below.ensures.infos in
    let half = update.new_half_of up in
    let answer = c.in-Err-new_cells.fault in
    let is = split-is H u c.args.left.now c.args.right.now faces split.face split.info c.in-Ok.ensures.deep c.in-Ok.ensures.face c.in-Ok.ensures.info in
    subst (λ o. (answer ≡ Memory) ⊎ (o ≡ Some answer)) (sym is)
    (refused-clash H u (refusal_below H u split.info split.face faces) (grafted_faces H u ++ listed_if (hides H split.info half) split.face) c.in-Ok-pair_below.ensures.refused c.in-Ok-pair_below.known.infos met c.in-Ok-graft.ensures.refused c.as_slice.result.now
    (c.as_slice.ensures ∙ c.in-Ok-with_split.ensures.cells ∙ ap (λ cs. cs ++ listed_if (hides H split.info half) split.face) (c.in-Ok-graft.ensures.cells ∙ ap (λ ks. own_faces H ks half) met))
    answer c.in-Err-new_cells.ensures.exact)

-- ---- over the trees of two states

pub returns-in-Err-clause-exact : goal.returns-in-Err-clause-exact
returns-in-Err-clause-exact g c a b are =
    let H = g.H.Hash32.digest_of in
    let u = update.tree_of c.args.update.now in
    let t = joined_tree a b in
    inr
    (ap (λ o. option_or o (fault_over H u t (new_faces H u t ++ listed_if (is_given H u a b) (face_of H t)))) (both-deep are ∙ c.in-Err.ensures.deep))

pub returns-in-Err-pair_below-clause-exact : goal.returns-in-Err-pair_below-clause-exact
returns-in-Err-pair_below-clause-exact g c a b are =
    let H = g.H.Hash32.digest_of in
    let u = update.tree_of c.args.update.now in
    let t = joined_tree a b in
    let split = c.in-Ok.split in
    let faces = new_faces H u t ++ listed_if (is_given H u a b) (face_of H t) in
    let there = below are c.in-Ok.ensures.deep split.face split.info c.in-Ok.ensures.face c.in-Ok.ensures.info in
    subst (λ o. (c.from.result ≡ Memory) ⊎ (o ≡ Some c.from.result)) (sym (merged-is are c.in-Ok.ensures.deep))
    (answer-pair H u t faces c.in-Err-pair_below.fault c.from.result c.from.ensures (c.in-Err-pair_below.ensures.refused_tree t there))

pub returns-in-Err-graft-clause-exact : goal.returns-in-Err-graft-clause-exact
returns-in-Err-graft-clause-exact g c a b are =
    let H = g.H.Hash32.digest_of in
    let u = update.tree_of c.args.update.now in
    let t = joined_tree a b in
    let split = c.in-Ok.split in
    let faces = new_faces H u t ++ listed_if (is_given H u a b) (face_of H t) in
    let there = below are c.in-Ok.ensures.deep split.face split.info c.in-Ok.ensures.face c.in-Ok.ensures.info in
    let answer = c.from-in-Err-graft.result in
    subst (λ o. (answer ≡ Memory) ⊎ (o ≡ Some answer)) (sym (merged-is are c.in-Ok.ensures.deep))
    (answer-graft H u t faces (c.in-Ok-pair_below.ensures.refused_tree t there) c.in-Err-graft.fault answer c.from-in-Err-graft.ensures
    (c.in-Err-graft.ensures.refused_tree (known_of H u t) (c.in-Ok-pair_below.ensures.tree t there)))

pub returns-in-Ok-new_cells-clause-exact : goal.returns-in-Ok-new_cells-clause-exact
returns-in-Ok-new_cells-clause-exact g c a b are =
    let H = g.H.Hash32.digest_of in
    let u = update.tree_of c.args.update.now in
    let t = joined_tree a b in
    let split = c.in-Ok.split in
    let half = update.new_half_of c.args.update.now in
    let faces = new_faces H u t ++ listed_if (is_given H u a b) (face_of H t) in
    let there = below are c.in-Ok.ensures.deep split.face split.info c.in-Ok.ensures.face c.in-Ok.ensures.info in
    let known = c.in-Ok-pair_below.ensures.tree t there in
    merged-is are c.in-Ok.ensures.deep
    ∙ answer-none H u t faces (c.in-Ok-pair_below.ensures.refused_tree t there) (c.in-Ok-graft.ensures.refused_tree (known_of H u t) known) c.as_slice.result.now
    (c.as_slice.ensures ∙ c.in-Ok-with_split.ensures.cells
    ∙ ap (λ cs. cs ++ listed_if (hides H split.info half) split.face) (c.in-Ok-graft.ensures.tree (known_of H u t) known).cells_are
    ∙ ap₂ (λ k f. new_faces H u t ++ listed_if (hides H k half) f) there.shown there.face)
    c.in-Ok-new_cells.ensures.exact

pub returns-clause-exact : goal.returns-clause-exact
returns-clause-exact g c a b are =
    let H = g.H.Hash32.digest_of in
    let u = update.tree_of c.args.update.now in
    let t = joined_tree a b in
    let split = c.in-Ok.split in
    let half = update.new_half_of c.args.update.now in
    let faces = new_faces H u t ++ listed_if (is_given H u a b) (face_of H t) in
    let there = below are c.in-Ok.ensures.deep split.face split.info c.in-Ok.ensures.face c.in-Ok.ensures.info in
    let known = c.in-Ok-pair_below.ensures.tree t there in
    let answer = c.in-Err-new_cells.fault in
    subst (λ o. (answer ≡ Memory) ⊎ (o ≡ Some answer)) (sym (merged-is are c.in-Ok.ensures.deep))
    (answer-clash H u t faces (c.in-Ok-pair_below.ensures.refused_tree t there) (c.in-Ok-graft.ensures.refused_tree (known_of H u t) known) c.as_slice.result.now
    (c.as_slice.ensures ∙ c.in-Ok-with_split.ensures.cells
    ∙ ap (λ cs. cs ++ listed_if (hides H split.info half) split.face) (c.in-Ok-graft.ensures.tree (known_of H u t) known).cells_are
    ∙ ap₂ (λ k f. new_faces H u t ++ listed_if (hides H k half) f) there.shown there.face)
    answer c.in-Err-new_cells.ensures.exact)

pub returns-in-Ok-new_cells-clause-applied : goal.returns-in-Ok-new_cells-clause-applied
returns-in-Ok-new_cells-clause-applied g c a b are =
    let H = g.H.Hash32.digest_of in
    let up = c.args.update.now in
    let u = update.tree_of up in
    let t = joined_tree a b in
    let split = c.in-Ok.split in
    let half = update.new_half_of up in
    let is = update-tree H up.bag.now up.root up.is_bag up.is_update in
    let olds = a ∷ b ∷ [] in
    let own = c.in-Ok-graft.own.cells in
    let faces = c.as_slice.result.now in
    let cells = c.in-Ok-new_cells.cells.items in
    let listed = c.in-Ok-new_cells.ensures.cells in
    let deep = c.in-Ok.ensures.deep in
    let there = below are deep split.face split.info c.in-Ok.ensures.face c.in-Ok.ensures.info in
    let met = c.in-Ok-pair_below.ensures.tree t there in
    let new = c.in-Ok-graft.ensures.tree (known_of H u t) met in
    let tree = grafted H (found_in H (known_of H u t)) half 0 in
    let applies = applied-is H u t (c.in-Ok-pair_below.ensures.refused_tree t there) (c.in-Ok-graft.ensures.refused_tree (known_of H u t) met) in
    let made = c.as_slice.ensures ∙ c.in-Ok-with_split.ensures.cells in
    let made_tree =
    made ∙ ap (λ cs. cs ++ listed_if (hides H split.info half) split.face) new.cells_are
    ∙ ap₂ (λ k f. new_faces H u t ++ listed_if (hides H k half) f) there.shown there.face
    in
    let clear = clear-faces H faces (clash-none H faces c.in-Ok-new_cells.ensures.exact) in
    let root_made = c.new.ensures.root ∙ c.in-Ok-with_split.ensures.root in
    let root_is = root_made ∙ new.root_is in
    let cells_are = c.new.ensures.cells ∙ listed-new_cells H (merged_cells H u a b) faces (merged-faces_of H (new_cells H u t) (is_given H u a b) t faces made_tree) clear cells listed in
    record {
      tree = tree;
      is_applied = applies;
      root_is = root_is;
      cells_are = cells_are;
      fits =
          fits-merged is c.in-Ok-pair_below.known.infos c.in-Ok-pair_below.known.old c.in-Ok-graft.ensures.refused own c.in-Ok-graft.ensures.cells split.face c.in-Ok.ensures.good
          (subst (λ (f : FaceView). All IsSteady f.kids) (sym c.in-Ok.ensures.face) (split-steady c.args.left.now c.args.right.now))
          faces (made ∙ ap (λ k. own ++ listed_if (hides H k half) split.face) c.in-Ok.ensures.info)
          cells listed olds
          (λ k h. known-both H u a b c.in-Ok-pair_below.known.infos met split.face there.face k h)
          (λ k kid. kid-state H a b split.face there.face k kid)
          c.new.result.root c.new.result.cells (root_made ∙ c.in-Ok-graft.ensures.root) c.new.ensures.cells;
      stands = λ free. ap₂ (λ r cs. tree_of H r cs olds) root_is cells_are ∙ tree_of-merged is a b (states are deep) tree applies free;
      known = λ s in-new.
          subst (λ cs. IsOldOrListed H cs olds s) (sym c.new.ensures.cells)
          (⊎_elim
          (λ own. inr (own-listed H (merged_cells H u a b) faces (merged-faces_of H (new_cells H u t) (is_given H u a b) t faces made_tree) clear cells listed s own))
          inl
          (merged-cell is a b (states are deep) tree applies s in-new));
    }
