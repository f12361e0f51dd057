-- What comes with a block that is stored: its tree, the listed cells of it, and the world that has it.
use Rattle.std.proofs.Common.{◌≡◌, ℕ, zero, suc, ◌<◌, Bool, true, false, cond, List, [], ◌∷◌, ◌++◌, length, length-take, get_or-take, map, take, get_or, flat_map, None, Contains, refl, sym, ap, ap₂, ◌∙◌, subst, subst₂, inl, inr, ⊎_elim, ◌⊎◌, arith}
use Rattle.std.specs.Prelude.{is_some, ◌||◌}
use Rattle.std.specs.List.{list_any}
use Rattle.std.specs.Ordering.{is_lt}
use Rattle.std.proofs.lemmas.Bool.{true≢false}
use Rattle.std.proofs.lemmas.List.{map-append, length-map, get_or_default, get_or-map}
use Rattle.std.proofs.lemmas.List.Elements.{All-contains, Contains-append_cases, Contains-append_left, Contains-append_right, Contains-get_or}
use Rattle.cd_base.specs.declared.hash.Hash256.{Hash256}
use Rattle.cd_block.specs.declared.block.BlockId.{BlockId}
use Rattle.cd_block.specs.declared.description.Descr.{Descr}
use Rattle.cd_block.specs.Block.{id_cmp}
use Rattle.cd_cell.specs.declared.info.ChildInfo.{ChildInfo}
use Rattle.cd_cell.specs.declared.new_cell.NewCell.{NewCell}
use Rattle.cd_cell.specs.FaceView.{FaceView}
use Rattle.cd_cell.specs.Equality.{same_info, same_info-Decides}
use Rattle.cd_cell.specs.Infos.{rep_of_info}
use Rattle.cd_cell.specs.Levels.{rep_of_face}
use Rattle.cd_cell.specs.Tree.{Tree, children, subtrees, info_of, face_of, rep_of, IsWellFormed}
use Rattle.cd_cell.specs.Export.{AreClashFree}
use Rattle.cd_cell.specs.Unfolding.{no_tree}
use Rattle.cd_cell.specs.Listings.{no_cell, listed_at, new_cell_of, info_of_new, old_cells, listed_trees, Fits}
use Rattle.cd_cell.specs.PreparedView.{PreparedView}
use Rattle.cd_cell.proofs.Subtrees.{Contains-first, Contains-later, Contains-cases, Contains-map, Contains-mapped, flat_map-cases, flat_map-listed, well_formed-subtree, same_subtrees, subtree-itself, subtrees-subtree, child-is-subtree, kids-face_of}
use Rattle.cd_cell.proofs.ListTests.{list_any-Contains}
use Rattle.cd_cell.proofs.ListedTrees.{rep_of-face_of}
use Rattle.cd_world.specs.World.{Block}
use Rattle.cd_world.specs.Standing.{same_id, block_at}
use Rattle.cd_world.specs.Changes.{placed, stored}
use Rattle.cd_world.specs.Told.{ToldWorld, block_of, shown, states_of, made, with_stored, first_clash, IsSoundBlock, IsSound}
use Rattle.cd_world.specs.Preparing.{IsCellOf}
use Rattle.cd_world.specs.Soundness.{IsStorable}
use Rattle.cd_world.proofs.PinsStay.{same_id-Decides, same_id-self, false_from}
use Rattle.cd_world.proofs.TidyWorlds.{IsThere, found-there}
use Rattle.cd_world.proofs.Orders.{Contains-placed}
use Rattle.cd_world.proofs.EqualImages.{cells_of, cell_is_held}
use Rattle.cd_world.proofs.BesideHeld.{known-clear, beside-clear}
use Rattle.cd_world.proofs.MadeTrees.{are-made, info-made, cell-made, cells-good, cells-behind, listed-closed}
use Rattle.cd_count.specs.Changes.{states, AreTogether}
use Rattle.cd_count.specs.Bringing.{IsBrought}
use Rattle.cd_count.proofs.Changes.{block_comes}

-- ---- lists

pub map-same : {A B : Type 0} (f g : A → B) (xs : List A) → ((x : A) → Contains xs x → f x ≡ g x) → map f xs ≡ map g xs
map-same f g [] same = refl
map-same {B = B} f g (x ∷ xs) same = ap₂ (λ (y : B) (ys : List B). y ∷ ys) (same x (Contains-first x xs)) (map-same f g xs (λ y h. same y (Contains-later x xs y h)))

-- a block in its place stands among the others
pub record IsPlaced (d : Descr) (xs : List Descr) : Type 0 where
  pub lower : List Descr
  pub higher : List Descr
  pub before : xs ≡ lower ++ higher
  pub after : placed d xs ≡ lower ++ d ∷ higher

pub is-placed : (d : Descr) (xs : List Descr) → IsPlaced d xs
is-placed d [] = record { lower = []; higher = []; before = refl; after = refl }
is-placed d (x ∷ xs) = by (is-placed d xs) (is_lt (id_cmp d.id x.id)) refl
  where
    by : IsPlaced d xs → (b : Bool) → is_lt (id_cmp d.id x.id) ≡ b → IsPlaced d (x ∷ xs)
    by rest true e = record { lower = []; higher = x ∷ xs; before = refl; after = ap (λ b. cond b (d ∷ x ∷ xs) (x ∷ placed d xs)) e }
    by rest false e = record {
      lower = x ∷ rest.lower;
      higher = rest.higher;
      before = ap (λ (ys : List Descr). x ∷ ys) rest.before;
      after = ap (λ b. cond b (d ∷ x ∷ xs) (x ∷ placed d xs)) e ∙ ap (λ (ys : List Descr). x ∷ ys) rest.after;
    }

-- the states of a told world's blocks
pub states-shown : (t : ToldWorld) (ds : List Descr) → states (map (block_of t) ds) ≡ map (λ d. t.state d.id) ds
states-shown t [] = refl
states-shown t (d ∷ ds) = ap (λ (ts : List Tree). t.state d.id ∷ ts) (states-shown t ds)

module _ (H : List ℕ → Hash256) where
  -- the trees of listed cells are listed as these
  named-by : (ts : List Tree) (cs : List NewCell) → map (face_of H) ts ≡ map (λ c. c.face) cs → ((c : NewCell) → Contains cs c → c.hash ≡ rep_of_face H c.face) → map (new_cell_of H) ts ≡ cs
  named-by [] [] e hashed = refl
  named-by [] (c ∷ cs) e hashed = absurd cc
  named-by (t ∷ ts) [] e hashed = absurd cc
  named-by (t ∷ ts) (c ∷ cs) e hashed =
      let face : face_of H t ≡ c.face = cc in
      let rest : map (face_of H) ts ≡ map (λ (c : NewCell). c.face) cs = cc in
      let hash : rep_of H t ≡ c.hash = rep_of-face_of H t ∙ ap (rep_of_face H) face ∙ sym (hashed c (Contains-first c cs)) in
      let first : new_cell_of H t ≡ c = λ i. record { hash = hash i; face = face i } in
      ap₂ (λ (x : NewCell) (xs : List NewCell). x ∷ xs) first (named-by ts cs rest (λ x h. hashed x (Contains-later c cs x h)))

  module _ (t : ToldWorld) (sound : IsSound H t) (id : BlockId) (parents tops : List BlockId) (p : PreparedView) (storable : IsStorable H id tops p)
      (fresh : block_at t.world id ≡ None) (there : (q : BlockId) → Contains parents q → IsThere t.world q) (fits : Fits H p.root p.cells (map t.state parents))
      (none : first_clash H t p.cells ≡ None) where
    abbrev olds : List Tree
    olds = map t.state parents

    abbrev new : Tree
    new = made H p olds

    abbrev pub v : ToldWorld
    v = with_stored H t id parents tops p

    abbrev pub come : Block
    come = block_of v (stored id parents tops p)

    sound-block : (d : Descr) → Contains t.world.blocks d → IsSoundBlock H t.state d
    sound-block d h = All-contains (IsSoundBlock H t.state) t.world.blocks d sound.blocks h

    -- the cells of the old trees are held
    old-cell : (s : Tree) → Contains (old_cells olds) s → Contains (cells_of H t) s
    old-cell s h =
        let from = flat_map-cases olds s h in
        let q = Contains-map t.state parents from.0 from.1 in
        let block = there q.0 q.1 in
        let state : t.state (block.0).id ≡ from.0 = ap t.state block.2 ∙ q.2 in
        flat_map-listed (states_of t) (t.state (block.0).id) s (Contains-mapped (λ (d : Descr). t.state d.id) t.world.blocks block.0 block.1) (subst (λ (r : Tree). Contains (subtrees r) s) (sym state) from.2)

    good-old : (s : Tree) → Contains (old_cells olds) s → IsWellFormed H s
    good-old s h =
        let from = flat_map-cases (states_of t) s (old-cell s h) in
        let block = Contains-map (λ (d : Descr). t.state d.id) t.world.blocks from.0 from.1 in
        let good = sound-block block.0 block.1 in
        well_formed-subtree H from.0 s (subst (IsWellFormed H) block.2 good.good) from.2

    abbrev pub listed : List Tree
    listed = listed_trees H (old_cells olds) p.cells

    pub state-new : v.state id ≡ new
    state-new = ap (λ b. cond b new (t.state id)) (same_id-self id)

    pub rep-come : rep_of H (v.state id) ≡ rep_of_info p.root
    rep-come = ap rep_of_info (ap (info_of H) state-new ∙ info-made H olds good-old p.root p.cells storable.valid fits)

    other-id : (d : Descr) → Contains t.world.blocks d → same_id d.id id ≡ false
    other-id d h = false_from (same_id d.id id) (λ same.
        true≢false (sym (found-there t.world id (d, h, (same_id-Decides d.id id).0 same)) ∙ ap is_some fresh))

    pub state-old : (d : Descr) → Contains t.world.blocks d → v.state d.id ≡ t.state d.id
    state-old d h = ap (λ b. cond b new (t.state d.id)) (other-id d h)

    -- ---- the listed cells

    infos-listed : map (info_of H) listed ≡ map (info_of_new H) p.cells
    infos-listed = let made = are-made H olds good-old p.root p.cells storable.valid fits in made.infos

    faces-listed : map (face_of H) listed ≡ map (λ (c : NewCell). c.face) p.cells
    faces-listed = let made = are-made H olds good-old p.root p.cells storable.valid fits in made.faces

    many : length listed ≡ length p.cells
    many = sym (length-map listed (face_of H)) ∙ ap length faces-listed ∙ length-map p.cells (λ (c : NewCell). c.face)

    hashed : (c : NewCell) → Contains p.cells c → c.hash ≡ rep_of_face H c.face
    hashed c h =
        let valid = storable.valid in
        let at : listed_at p.cells h.0 ≡ c = get_or_default p.cells h.0 no_cell c h.1 ∙ h.2 in
        subst (λ (x : NewCell). x.hash ≡ rep_of_face H x.face) at (valid.hashed h.0 h.1)

    pub named-listed : map (new_cell_of H) listed ≡ p.cells
    named-listed = named-by listed p.cells faces-listed hashed

    info-at : (k : ℕ) → k < length p.cells → info_of H (get_or listed k no_tree) ≡ info_of_new H (listed_at p.cells k)
    info-at k h =
        let few : k < length listed = omega (arith, many) in
        sym (get_or-map (info_of H) listed k no_tree (info_of H no_tree) few) ∙ ap (λ (is : List ChildInfo). get_or is k (info_of H no_tree)) infos-listed
        ∙ get_or-map (info_of_new H) p.cells k no_cell (info_of H no_tree) h

    face-at : (k : ℕ) → k < length p.cells → face_of H (get_or listed k no_tree) ≡ (listed_at p.cells k).face
    face-at k h =
        let few : k < length listed = omega (arith, many) in
        sym (get_or-map (face_of H) listed k no_tree (face_of H no_tree) few) ∙ ap (λ (is : List FaceView). get_or is k (face_of H no_tree)) faces-listed
        ∙ get_or-map (λ (c : NewCell). c.face) p.cells k no_cell (face_of H no_tree) h

    -- ---- each cell is held or listed

    known : (s : Tree) → Contains listed s ⊎ Contains (old_cells olds) s → IsCellOf H t p s
    known s (inl one) =
        inr (Contains-map (λ (c : NewCell). c.face) p.cells (face_of H s) (subst (λ (fs : List FaceView). Contains fs (face_of H s)) faces-listed (Contains-mapped (face_of H) listed s one)))
    known s (inr old_one) = inl (old-cell s old_one)

    new-cell : (s : Tree) → Contains (subtrees new) s → Contains listed s ⊎ Contains (old_cells olds) s
    new-cell s h = cell-made H olds good-old p.root p.cells storable.valid fits s h

    below-listed : (s u : Tree) → Contains listed s → Contains (subtrees s) u → Contains listed u ⊎ Contains (old_cells olds) u
    below-listed s u h below =
        Contains-append_cases listed (old_cells olds) u
        (listed-closed H olds good-old p.cells (cells-good H olds good-old p.root p.cells storable.valid fits) (cells-behind H olds good-old p.root p.cells storable.valid fits) s u (Contains-append_left listed (old_cells olds) s h) below)

    abbrev pool : List Tree
    pool = states_of t ++ (new ∷ listed)

    pool-clear : AreClashFree H pool
    pool-clear = beside-clear H t sound.clear p storable.valid none (new ∷ listed) (λ s h. side s (flat_map-cases (new ∷ listed) s h))
      where
        side : (s : Tree) → ((r : Tree) × Contains (new ∷ listed) r × Contains (subtrees r) s) → IsCellOf H t p s
        side s from = ⊎_elim
            (λ same. known s (new-cell s (subst (λ (r : Tree). Contains (subtrees r) s) (sym same) from.2)))
            (λ later. known s (below-listed from.0 s later from.2))
            (Contains-cases new listed from.0 from.1)

    in-new : (s : Tree) → Contains (subtrees new) s → Contains (flat_map subtrees pool) s
    in-new s h = flat_map-listed pool new s (Contains-append_right (states_of t) (new ∷ listed) new (Contains-first new listed)) h

    in-listed : (s : Tree) → Contains listed s → Contains (flat_map subtrees pool) s
    in-listed s h = flat_map-listed pool s s (Contains-append_right (states_of t) (new ∷ listed) s (Contains-later new listed s h)) (subtree-itself s)

    one-tree : (a b : Tree) → Contains (flat_map subtrees pool) a → Contains (flat_map subtrees pool) b → info_of H a ≡ info_of H b → a ≡ b
    one-tree a b in-a in-b same = same_subtrees H pool pool-clear a b in-a in-b (ap rep_of_info same)

    -- ---- each listed cell is one of the new tree

    at-listed : (k : ℕ) → k < length p.cells → Contains listed (get_or listed k no_tree)
    at-listed k h = Contains-get_or listed k no_tree (omega (arith, many))

    taken-at : (k : ℕ) (c : NewCell) → Contains (take k p.cells) c → (j : ℕ) × (j < k) × (j < length p.cells) × (listed_at p.cells j ≡ c)
    taken-at k c h =
        let few : (h.0 < k) × (h.0 < length p.cells) = (omega (arith, h.1, length-take k p.cells), omega (arith, h.1, length-take k p.cells)) in
        (h.0, few.0, few.1, get_or_default p.cells h.0 no_cell c few.1 ∙ sym (get_or-take k p.cells h.0 c few.0) ∙ h.2)

    reached : (n k : ℕ) → k < n → k < length p.cells → Contains (subtrees new) (get_or listed k no_tree)
    reached zero k low h = absurd (omega arith)
    reached (suc n) k low h = by (λ j less few. reached n j less few) (same_info info p.root) refl (let valid = storable.valid in valid.reached k h)
      where
        s : Tree
        s = get_or listed k no_tree

        info : ChildInfo
        info = info_of_new H (listed_at p.cells k)

        by : ((j : ℕ) → j < n → j < length p.cells → Contains (subtrees new) (get_or listed j no_tree)) → (b : Bool) → same_info info p.root ≡ b → (b || list_any (λ (c : NewCell). list_any (same_info info) c.face.kids) (take k p.cells)) ≡ true → Contains (subtrees new) (get_or listed k no_tree)
        by before true e passes =
            let same = one-tree s new (in-listed s (at-listed k h)) (in-new new (subtree-itself new))
            (info-at k h ∙ (same_info-Decides info p.root).0 e ∙ sym (info-made H olds good-old p.root p.cells storable.valid fits)) in
            subst (Contains (subtrees new)) (sym same) (subtree-itself new)
        by before false e passes =
            let from = list_any-Contains (λ (c : NewCell). list_any (same_info info) c.face.kids) (take k p.cells) passes in
            let kid = list_any-Contains (same_info info) (from.0).face.kids from.2 in
            let at = taken-at k from.0 from.1 in
            let above : Tree = get_or listed at.0 no_tree in
            let there_above : Contains (subtrees new) above = before at.0 (omega (arith, at.1)) at.2 in
            let face : face_of H above ≡ (from.0).face = face-at at.0 at.2 ∙ ap (λ (c : NewCell). c.face) at.3 in
            let kids : (from.0).face.kids ≡ map (info_of H) (children above) = sym (ap (λ (f : FaceView). f.kids) face) ∙ kids-face_of H above in
            let child = Contains-map (info_of H) (children above) kid.0 (subst (λ (ks : List ChildInfo). Contains ks kid.0) kids kid.1) in
            let below : Contains (subtrees new) child.0 = subtrees-subtree new above child.0 there_above (child-is-subtree above child.0 child.1) in
            let same = one-tree s child.0 (in-listed s (at-listed k h)) (in-new child.0 below) (info-at k h ∙ (same_info-Decides info kid.0).0 kid.2 ∙ sym child.2) in
            subst (Contains (subtrees new)) (sym same) below

    pub within : (c : Tree) → Contains listed c → Contains (subtrees new) c
    within c h =
        let low : h.0 < length p.cells = omega (arith, h.1, many) in
        subst (Contains (subtrees new)) (get_or_default listed h.0 no_tree c h.1 ∙ h.2) (reached (suc h.0) h.0 (omega arith) low)

    -- ---- the block comes

    block-old : (x : Descr) → Contains t.world.blocks x → block_of v x ≡ block_of t x
    block-old x h = ap (λ (s : Tree). let b : Block = record { id = x.id; parents = x.parents; state = s; tops = x.tops; leaving = x.leaving } in b) (state-old x h)

    pub came : AreTogether H (let w = shown t in w.blocks) (come ∷ []) (let w = shown v in w.blocks)
    came =
        let d = stored id parents tops p in
        let place = is-placed d t.world.blocks in
        let lower = map (block_of v) place.lower in
        let higher = map (block_of v) place.higher in
        let few : lower ++ higher ≡ map (block_of t) t.world.blocks =
        sym (map-append (block_of v) place.lower place.higher) ∙ ap (map (block_of v)) (sym place.before) ∙ map-same (block_of v) (block_of t) t.world.blocks block-old in
        let many : lower ++ come ∷ higher ≡ map (block_of v) (placed d t.world.blocks) = sym (map-append (block_of v) place.lower (d ∷ place.higher)) ∙ ap (map (block_of v)) (sym place.after) in
        subst₂ (λ (a b : List Block). AreTogether H a (come ∷ []) b) few many (block_comes H lower higher come)

    -- ---- all trees together

    v-cell : (s : Tree) → Contains (cells_of H v) s → IsCellOf H t p s
    v-cell s h =
        let from = flat_map-cases (states_of v) s h in
        let at = Contains-map (λ (d : Descr). v.state d.id) v.world.blocks from.0 from.1 in
        ⊎_elim
        (λ (same : stored id parents tops p ≡ at.0).
        known s (new-cell s (subst (λ (r : Tree). Contains (subtrees r) s) (sym at.2 ∙ ap (λ (d : Descr). v.state d.id) (sym same) ∙ state-new) from.2)))
        (λ old_one.
        inl (flat_map-listed (states_of t) (t.state (at.0).id) s (Contains-mapped (λ (d : Descr). t.state d.id) t.world.blocks at.0 old_one) (subst (λ (r : Tree). Contains (subtrees r) s) (sym at.2 ∙ state-old at.0 old_one) from.2)))
        (Contains-placed (stored id parents tops p) t.world.blocks at.0 at.1)

    pub clear-v : AreClashFree H (states_of v)
    clear-v a b in-a in-b rep = known-clear H t sound.clear p storable.valid none a b (v-cell a in-a) (v-cell b in-b) rep

    pub brought : IsBrought H (shown t) (shown v) come p.cells listed
    brought = record {
      came = came;
      clear = subst (AreClashFree H) (sym (states-shown v v.world.blocks)) clear-v;
      named = named-listed;
      within = λ c h. subst (λ (r : Tree). Contains (subtrees r) c) (sym state-new) (within c h);
      every = λ c h. ⊎_elim inl (λ old_one. inr (ap is_some (cell_is_held H t sound.clear c (old-cell c old_one)))) (new-cell c (subst (λ (r : Tree). Contains (subtrees r) c) state-new h));
    }
