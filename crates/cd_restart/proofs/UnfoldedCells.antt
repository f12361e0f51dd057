-- From records that fit one another to trees: what is unfolded has the faces that are stored.
use Rattle.std.proofs.Common.{◌≡◌, ℕ, zero, suc, ◌<◌, List, [], ◌∷◌, map, Option, Some, Contains, refl, sym, ap, ap₂, ◌∙◌, subst, ⊎_elim, arith}
use Rattle.cd_base.specs.declared.hash.Hash256.{Hash256}
use Rattle.cd_cell.specs.declared.info.ChildInfo.{ChildInfo}
use Rattle.cd_cell.specs.FaceView.{FaceView}
use Rattle.cd_cell.specs.GoodFace.{IsGoodFace}
use Rattle.cd_cell.specs.Infos.{rep_of_info, height_of_info}
use Rattle.cd_cell.specs.Levels.{info_of_face, rep_of_face, height_of_face}
use Rattle.cd_cell.specs.Steady.{IsSteady}
use Rattle.cd_cell.specs.Tree.{Tree, trees_of, children, subtrees, info_of, infos_of, face_of, rep_of, IsWellFormed}
use Rattle.cd_cell.proofs.Heights.{height_of_face-kid}
use Rattle.cd_cell.proofs.Subtrees.{Contains-first, Contains-later, Contains-map, Contains-mapped, list_of-trees_of, subtrees-cases, IsWellFormed-from, info_of-face_of}
use Rattle.cd_keeper.specs.Contents.{Contents}
use Rattle.cd_world.specs.Unfolded.{face_in, over, kids_of, tree_in}
use Rattle.cd_world.proofs.Held.{rep_bytes}

abbrev pub hash_of : List ℕ → Hash256
hash_of q = record { 0 = q }

-- each stored face is good, its hash is its key, and each of its kids is what a stored face shows
pub record AreFitting (H : List ℕ → Hash256) (contents : Contents) : Type 0 where
  pub key : (q : List ℕ) (f : FaceView) → face_in contents q ≡ Some f → rep_of_face H f ≡ hash_of q
  pub good : (q : List ℕ) (f : FaceView) → face_in contents q ≡ Some f → IsGoodFace f
  pub steady : (q : List ℕ) (f : FaceView) → face_in contents q ≡ Some f → (k : ChildInfo) → Contains f.kids k → IsSteady k
  pub kids : (q : List ℕ) (f : FaceView) → face_in contents q ≡ Some f → (k : ChildInfo) → Contains f.kids k
      → (g : FaceView) × (face_in contents (rep_of_info k).0 ≡ Some g) × (info_of_face H g ≡ k)

map-each : {A B : Type 0} (a b : A → B) (xs : List A) → ((x : A) → Contains xs x → a x ≡ b x) → map a xs ≡ map b xs
map-each a b [] same = refl
map-each a b (x ∷ xs) same = ap₂ (λ y ys. y ∷ ys) (same x (Contains-first x xs)) (map-each a b xs (λ y h. same y (Contains-later x xs y h)))

module _ (H : List ℕ → Hash256) (contents : Contents) (fitting : AreFitting H contents) where
  infos-told : (levels : ℕ) (ks : List ChildInfo) → ((k : ChildInfo) → Contains ks k → info_of H (tree_in contents levels (rep_of_info k)) ≡ k)
      → infos_of H (trees_of (map (tree_in contents levels) (map rep_of_info ks))) ≡ ks
  infos-told levels [] each = refl
  infos-told levels (k ∷ ks) each =
      ap₂ (λ (x : ChildInfo) xs. x ∷ xs) (each k (Contains-first k ks)) (infos-told levels ks (λ x h. each x (Contains-later k ks x h)))

  -- a kid's face is lower
  pub kid-lower : (q : List ℕ) (f : FaceView) → face_in contents q ≡ Some f → (k : ChildInfo) → Contains f.kids k → (g : FaceView) → info_of_face H g ≡ k → height_of_face g < height_of_face f
  kid-lower q f at k h g is =
      let lower = height_of_face-kid f (fitting.good q f at).fit k h (fitting.steady q f at k h) in
      subst (λ (x : ChildInfo). height_of_info x < height_of_face f) (sym is) lower

  abbrev IsFaceTold : ℕ → Type 0
  IsFaceTold levels = (q : Hash256) (f : FaceView) → face_in contents q.0 ≡ Some f → height_of_face f < levels → face_of H (tree_in contents levels q) ≡ f

  kid-told : (levels : ℕ) → IsFaceTold levels → (q : Hash256) (f : FaceView) → face_in contents q.0 ≡ Some f → height_of_face f < suc levels
      → (k : ChildInfo) → Contains f.kids k → info_of H (tree_in contents levels (rep_of_info k)) ≡ k
  kid-told levels below q f at low k h =
      let kid = fitting.kids q.0 f at k h in
      let lower = kid-lower q.0 f at k h kid.0 kid.2 in
      info_of-face_of H (tree_in contents levels (rep_of_info k))
      ∙ ap (info_of_face H) (below (rep_of_info k) kid.0 kid.1 (omega arith))
      ∙ kid.2

  face-step : (levels : ℕ) → IsFaceTold levels → IsFaceTold (suc levels)
  unfolding tree_in
  face-step levels below q f at low =
      ap (λ (o : Option FaceView). face_of H (over o (map (tree_in contents levels) (kids_of o)))) at
      ∙ ap (λ (ks : List ChildInfo). record { exotic = f.exotic; bits = f.bits; kids = ks }) (infos-told levels f.kids (kid-told levels below q f at low))

  -- what is unfolded has the stored face
  pub tree-face : (levels : ℕ) → IsFaceTold levels
  tree-face zero q f at low = absurd (omega arith)
  tree-face (suc levels) q f at low = face-step levels (tree-face levels) q f at low

  -- and its children are unfolded from the hashes of the kids
  child-told : (levels : ℕ) (q : Hash256) (f : FaceView) → face_in contents q.0 ≡ Some f → (c : Tree) → Contains (children (tree_in contents (suc levels) q)) c
      → (k : ChildInfo) × Contains f.kids k × (tree_in contents levels (rep_of_info k) ≡ c)
  unfolding tree_in
  child-told levels q f at c h =
      let kids = map (tree_in contents levels) (map rep_of_info f.kids) in
      let are : children (over (face_in contents q.0) (map (tree_in contents levels) (kids_of (face_in contents q.0)))) ≡ kids =
      ap (λ (o : Option FaceView). children (over o (map (tree_in contents levels) (kids_of o)))) at ∙ list_of-trees_of kids in
      let tree = Contains-map (tree_in contents levels) (map rep_of_info f.kids) c (subst (λ (cs : List Tree). Contains cs c) are h) in
      let kid = Contains-map rep_of_info f.kids tree.0 tree.1 in
      (kid.0, kid.1, ap (tree_in contents levels) kid.2 ∙ tree.2)

  pub kid-child : (levels : ℕ) (q : Hash256) (f : FaceView) → face_in contents q.0 ≡ Some f → (k : ChildInfo) → Contains f.kids k
      → Contains (children (tree_in contents (suc levels) q)) (tree_in contents levels (rep_of_info k))
  unfolding tree_in
  kid-child levels q f at k h =
      let kids = map (tree_in contents levels) (map rep_of_info f.kids) in
      let are : children (over (face_in contents q.0) (map (tree_in contents levels) (kids_of (face_in contents q.0)))) ≡ kids =
      ap (λ (o : Option FaceView). children (over o (map (tree_in contents levels) (kids_of o)))) at ∙ list_of-trees_of kids in
      subst (λ (cs : List Tree). Contains cs (tree_in contents levels (rep_of_info k))) (sym are)
      (Contains-mapped (tree_in contents levels) (map rep_of_info f.kids) (rep_of_info k) (Contains-mapped rep_of_info f.kids k h))

  pub tree-well : (levels : ℕ) (q : Hash256) (f : FaceView) → face_in contents q.0 ≡ Some f → height_of_face f < levels → IsWellFormed H (tree_in contents levels q)
  tree-well zero q f at low = absurd (omega arith)
  tree-well (suc levels) q f at low =
      IsWellFormed-from H (tree_in contents (suc levels) q) (subst IsGoodFace (sym (tree-face (suc levels) q f at low)) (fitting.good q.0 f at))
      (λ c h.
      let from = child-told levels q f at c h in
      let kid = fitting.kids q.0 f at from.0 from.1 in
      let lower = kid-lower q.0 f at from.0 from.1 kid.0 kid.2 in
      subst (IsWellFormed H) from.2 (tree-well levels (rep_of_info from.0) kid.0 kid.1 (omega arith)))

  pub tree-rep : (levels : ℕ) (q : Hash256) (f : FaceView) → face_in contents q.0 ≡ Some f → height_of_face f < levels → rep_of H (tree_in contents levels q) ≡ q
  tree-rep levels q f at low =
      ap rep_of_info (info_of-face_of H (tree_in contents levels q) ∙ ap (info_of_face H) (tree-face levels q f at low)) ∙ fitting.key q.0 f at

  -- each cell below has the face that is stored under its hash
  pub cell-told : (levels : ℕ) (q : Hash256) (f : FaceView) → face_in contents q.0 ≡ Some f → height_of_face f < levels → (s : Tree) → Contains (subtrees (tree_in contents levels q)) s
      → face_in contents (rep_bytes H s) ≡ Some (face_of H s)
  cell-told zero q f at low s h = absurd (omega arith)
  cell-told (suc levels) q f at low s h = ⊎_elim
      (λ same.
      let rep = tree-rep (suc levels) q f at low in
      let face = tree-face (suc levels) q f at low in
      let here : face_in contents (rep_bytes H (tree_in contents (suc levels) q)) ≡ Some (face_of H (tree_in contents (suc levels) q)) =
      ap (λ (r : Hash256). face_in contents r.0) rep ∙ at ∙ ap (λ (g : FaceView). Some g) (sym face) in
      subst (λ (x : Tree). face_in contents (rep_bytes H x) ≡ Some (face_of H x)) same here)
      (λ below.
      let from = child-told levels q f at below.0 below.1 in
      let kid = fitting.kids q.0 f at from.0 from.1 in
      let lower = kid-lower q.0 f at from.0 from.1 kid.0 kid.2 in
      cell-told levels (rep_of_info from.0) kid.0 kid.1 (omega arith) s (subst (λ (x : Tree). Contains (subtrees x) s) (sym from.2) below.2))
      (subtrees-cases (tree_in contents (suc levels) q) s h)

  -- however far it is unfolded
  pub same_levels : (m n : ℕ) (q : Hash256) (f : FaceView) → face_in contents q.0 ≡ Some f → height_of_face f < m → height_of_face f < n → tree_in contents m q ≡ tree_in contents n q
  unfolding tree_in
  same_levels zero n q f at low low' = absurd (omega arith)
  same_levels (suc m) zero q f at low low' = absurd (omega arith)
  same_levels (suc m) (suc n) q f at low low' =
      let each : (h : Hash256) → Contains (map rep_of_info f.kids) h → tree_in contents m h ≡ tree_in contents n h =
      λ h in'.
      let from = Contains-map rep_of_info f.kids h in' in
      let kid = fitting.kids q.0 f at from.0 from.1 in
      let lower = kid-lower q.0 f at from.0 from.1 kid.0 kid.2 in
      subst (λ (x : Hash256). tree_in contents m x ≡ tree_in contents n x) from.2 (same_levels m n (rep_of_info from.0) kid.0 kid.1 (omega arith) (omega arith)) in
      ap (λ (o : Option FaceView). over o (map (tree_in contents m) (kids_of o))) at
      ∙ ap (λ (ts : List Tree). over (Some f) ts) (map-each (tree_in contents m) (tree_in contents n) (map rep_of_info f.kids) each)
      ∙ sym (ap (λ (o : Option FaceView). over o (map (tree_in contents n) (kids_of o))) at)
