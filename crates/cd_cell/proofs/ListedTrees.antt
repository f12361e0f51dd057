-- Laws of listed cells: the list of some trees' cells is a valid one, and it stands for those trees.
use Rattle.std.proofs.Common.{◌≡◌, ℕ, zero, suc, ◌<◌, ◌≤◌, List, [], ◌∷◌, ◌++◌, length, get_or, take, drop, map, find, Some, Contains, All, AllPairs, Less, Bool, true, false, cond, refl, ap, ap₂, sym, ◌∙◌, subst, inl, inr, ⊎_elim, ◌⊎◌, get_or-take, arith}
use Rattle.std.specs.List.{list_any}
use Rattle.std.specs.Option.{unwrap_or}
use Rattle.std.specs.Ordering.{nat_cmp, ordering_then}
use Rattle.std.proofs.lemmas.Bool.{or_left, or_right}
use Rattle.std.proofs.lemmas.Cmp.{tied_itself}
use Rattle.std.proofs.lemmas.List.{length-map, get_or-map, get_or_default, length-take-le, map-append}
use Rattle.std.proofs.lemmas.List.Folds.{list_any_at}
use Rattle.std.proofs.lemmas.List.Elements.{All-map, Contains-get_or, Contains-append_cases, Contains-append_left, Contains-append_right}
use Rattle.cd_base.specs.declared.hash.Hash256.{Hash256}
use Rattle.cd_cell.specs.declared.info.ChildInfo.{ChildInfo}
use Rattle.cd_cell.specs.declared.new_cell.NewCell.{NewCell}
use Rattle.cd_cell.specs.Infos.{rep_of_info, height_of_info}
use Rattle.cd_cell.specs.Levels.{rep_of_face, height_of_face}
use Rattle.cd_cell.specs.Tree.{Tree, cell, Trees, no_trees, tree_and, trees_of, list_of, children, subtrees, info_of, infos_of, face_of, mask_of, rep_of, height_of, IsWellFormed}
use Rattle.cd_cell.specs.Unfolding.{no_tree}
use Rattle.cd_cell.specs.Equality.{same_info, same_info-Decides}
use Rattle.cd_cell.specs.Steady.{IsSteady}
use Rattle.cd_cell.specs.GoodFace.{IsGoodFace}
use Rattle.cd_cell.specs.Export.{hash_cmp, export_cmp, distinct_cells, IsClashFree}
use Rattle.cd_cell.specs.Listings.{no_cell, listed_at, listing_cmp, new_cell_of, info_of_new, is_named, IsValid, old_cells, known_infos, Fits, IsOldOrListed, tree_with, listed_trees, tree_of}
use Rattle.cd_cell.proofs.Subtrees.{Contains-first, Contains-later, Contains-cases, Contains-nil, Contains-mapped, info_of-face_of, kids-face_of, IsGoodFace-face_of, well_formed-subtree, subtree-itself, child-is-subtree, subtrees-subtree, subtree-parent}
use Rattle.cd_cell.proofs.Heights.{height_of-child, IsSteady-infos_of}
use Rattle.cd_cell.proofs.Distinct.{before-rising, one_place-rising}
use Rattle.cd_cell.proofs.ExportOrder.{export_cmp-total, export_cmp-higher, same_rep, AreDistinct-distinct_cells, Contains-distinct_cells, distinct_cells-later}

Contains-drop : {A : Type 0} (xs : List A) (n : ℕ) (x : A) → Contains (drop n xs) x → Contains xs x
Contains-drop xs zero x h = h
Contains-drop [] (suc n) x h = h
Contains-drop (y ∷ ys) (suc n) x h = Contains-later y ys x (Contains-drop ys n x h)

pub Contains-dropped : {A : Type 0} (xs : List A) (n j : ℕ) (d : A) → n ≤ j → j < length xs → Contains (drop n xs) (get_or xs j d)
Contains-dropped xs zero j d from below = Contains-get_or xs j d below
Contains-dropped [] (suc n) j d from below = absurd (omega arith)
Contains-dropped (x ∷ xs) (suc n) zero d from below = absurd (omega arith)
Contains-dropped (x ∷ xs) (suc n) (suc j) d from below = Contains-dropped xs n j d (omega arith) (omega arith)

-- what is shown of a well-formed cell's children is steady
IsSteady-kids : (H : List ℕ → Hash256) (t : Tree) → IsWellFormed H t → All IsSteady (face_of H t).kids
IsSteady-kids H (cell exotic bits ts) good = IsSteady-infos_of H ts good.3

-- the only element that passes a test is found
find-only : {A : Type 0} (p : A → Bool) (xs : List A) (x : A) → Contains xs x → p x ≡ true → ((y : A) → Contains xs y → p y ≡ true → y ≡ x) → find p xs ≡ Some x
find-only p [] x h pass only = absurd (Contains-nil x h)
find-only p (y ∷ ys) x h pass only = go (p y) refl (λ later. find-only p ys x later pass (λ z in' passes. only z (Contains-later y ys z in') passes))
  where
    go : (b : Bool) → p y ≡ b → (Contains ys x → find p ys ≡ Some x) → cond b (Some y) (find p ys) ≡ Some x
    go true e later = ap Some (only y (Contains-first y ys) e)
    go false e later = ⊎_elim (λ same. absurd (cc (ap p same, pass, e))) later (Contains-cases y ys x h)

module _ (H : List ℕ → Hash256) where
  same_info-true : (a b : ChildInfo) → a ≡ b → same_info a b ≡ true
  same_info-true a b e = (same_info-Decides a b).1 e

  height_of-face_of : (t : Tree) → height_of_face (face_of H t) ≡ height_of H t
  height_of-face_of t = sym (ap height_of_info (info_of-face_of H t))

  pub rep_of-face_of : (t : Tree) → rep_of H t ≡ rep_of_face H (face_of H t)
  rep_of-face_of t = ap rep_of_info (info_of-face_of H t)

  -- trees are ordered as the cells that list them
  pub listing_cmp-new : (a b : Tree) → listing_cmp (new_cell_of H a) (new_cell_of H b) ≡ export_cmp H a b
  listing_cmp-new a b = ap₂ (λ h g. ordering_then (nat_cmp h g) (hash_cmp (rep_of H a) (rep_of H b))) (height_of-face_of b) (height_of-face_of a)

  -- a parent has a kid that is what the child shows
  has_kid-parent : (p c : Tree) → Contains (children p) c → list_any (same_info (info_of H c)) (face_of H p).kids ≡ true
  has_kid-parent p c child =
      let kid = subst (λ ks. Contains ks (info_of H c)) (sym (kids-face_of H p)) (Contains-mapped (info_of H) (children p) c child) in
      list_any_at (same_info (info_of H c)) (face_of H p).kids kid.0 (info_of H c) kid.1 (same_info-true (info_of H c) (get_or (face_of H p).kids kid.0 (info_of H c)) (sym kid.2))

  -- ---- the list is valid

  module _ (root : Tree) (cs : List Tree) (good : (c : Tree) → Contains cs c → IsWellFormed H c) where
    abbrev cells : List NewCell
    cells = map (new_cell_of H) cs

    listed-at : (k : ℕ) → k < length cs → listed_at cells k ≡ new_cell_of H (get_or cs k no_tree)
    listed-at k in' = get_or-map (new_cell_of H) cs k no_tree no_cell in'

    in-trees : (k : ℕ) → k < length cells → k < length cs
    in-trees k in' = omega (arith, length-map cs (new_cell_of H))

    well-at : (k : ℕ) → k < length cs → IsWellFormed H (get_or cs k no_tree)
    well-at k in' = good (get_or cs k no_tree) (Contains-get_or cs k no_tree in')

    ordered-listing : AllPairs (λ a b. export_cmp H a b ≡ Less) cs → AllPairs (λ a b. listing_cmp a b ≡ Less) cells
    ordered-listing up i j d below in' =
        let in-j : j < length cs = in-trees j in' in
        let in-i : i < length cs = omega arith in
        ap₂ listing_cmp (get_or-map (new_cell_of H) cs i no_tree d in-i) (get_or-map (new_cell_of H) cs j no_tree d in-j)
        ∙ listing_cmp-new (get_or cs i no_tree) (get_or cs j no_tree)
        ∙ up i j no_tree below in-j

    -- a child of a cell that is listed is named before it
    named-child : AllPairs (λ a b. export_cmp H a b ≡ Less) cs → (top : ChildInfo) (k : ℕ) (p : Tree) → k < length cs → Contains cs p → Contains (children p) (get_or cs k no_tree) → is_named H top (take k cells) (info_of H (get_or cs k no_tree)) ≡ true
    named-child up top k p in' parent child =
        let c = get_or cs k no_tree in
        let j = parent.0 in
        let at : get_or cs j no_tree ≡ p = get_or_default cs j no_tree p parent.1 ∙ parent.2 in
        let lower : height_of H c < height_of H p = height_of-child H p c (good p parent) child in
        let less = export_cmp-higher H (get_or cs j no_tree) c (subst (λ t. height_of H c < height_of H t) (sym at) lower) in
        let before : j < k = before-rising (export_cmp H) (export_cmp-total H) cs no_tree up j k parent.1 in' less in
        let of_p : listed_at (take k cells) j ≡ new_cell_of H p =
        get_or-take k cells j no_cell before ∙ listed-at j parent.1 ∙ ap (new_cell_of H) at
        in
        let has_kid : NewCell → Bool = λ n. list_any (same_info (info_of H c)) n.face.kids in
        let kid = has_kid-parent p c child in
        let long : j < length (take k cells) = omega (arith, length-take-le k cells (omega (arith, length-map cs (new_cell_of H)))) in
        or_right (same_info (info_of H c) top) (list_any has_kid (take k cells)) (list_any_at has_kid (take k cells) j no_cell long (ap has_kid of_p ∙ kid))

    -- the list is valid below a root of mask 0, where each cell is the root or a child of one
    pub IsValid-listed : IsWellFormed H root → mask_of H root ≡ 0 → AllPairs (λ a b. export_cmp H a b ≡ Less) cs → ((a b : Tree) → Contains cs a → Contains cs b → rep_of H a ≡ rep_of H b → a ≡ b) → ((c : Tree) → Contains cs c → (c ≡ root) ⊎ ((p : Tree) × Contains cs p × Contains (children p) c)) → IsValid H (info_of H root) cells
    IsValid-listed well plain up one reached =
        record {
          good = λ k in'. subst (λ n. IsGoodFace n.face) (sym (listed-at k (in-trees k in'))) (IsGoodFace-face_of H (get_or cs k no_tree) (well-at k (in-trees k in')));
          masks =
              λ k d in'.
              let tree = get_or cs k no_tree in
              subst (λ n. All (λ i. i.mask ≤ 7) n.face.kids) (sym (get_or-map (new_cell_of H) cs k no_tree d (in-trees k in')))
              (λ p e in-kids. (IsSteady-kids H tree (well-at k (in-trees k in')) p e in-kids).small);
          hashed =
              λ k in'.
              subst (λ n. n.hash ≡ rep_of_face H n.face) (sym (listed-at k (in-trees k in'))) (rep_of-face_of (get_or cs k no_tree));
          ordered = ordered-listing up;
          distinct =
              λ i j in-i in-j hashes.
              let x = in-trees i in-i in
              let y = in-trees j in-j in
              let reps : rep_of H (get_or cs i no_tree) ≡ rep_of H (get_or cs j no_tree) = sym (ap (λ n. n.hash) (listed-at i x)) ∙ hashes ∙ ap (λ n. n.hash) (listed-at j y) in
              let same = one (get_or cs i no_tree) (get_or cs j no_tree) (Contains-get_or cs i no_tree x) (Contains-get_or cs j no_tree y) reps in
              one_place-rising (export_cmp H) (export_cmp-total H) cs no_tree up i j x y
              (ap (export_cmp H (get_or cs i no_tree)) (sym same) ∙ tied_itself (export_cmp-total H) (get_or cs i no_tree));
          reached =
              λ k in'.
              let c = get_or cs k no_tree in
              let x = in-trees k in' in
              let shows : info_of H c ≡ info_of_new H (listed_at cells k) = info_of-face_of H c ∙ sym (ap (info_of_new H) (listed-at k x)) in
              subst (λ info. is_named H (info_of H root) (take k cells) info ≡ true) shows
              (⊎_elim
              (λ same. or_left (same_info (info_of H c) (info_of H root)) _ (same_info-true (info_of H c) (info_of H root) (ap (info_of H) same)))
              (λ parent. named-child up (info_of H root) k parent.0 x parent.1 parent.2)
              (reached c (Contains-get_or cs k no_tree x)));
          plain = plain;
          shallow = omega (arith, (IsGoodFace-face_of H root well).fit.depths 3 (omega arith), height_of-face_of root);
        }

  -- ---- the list stands for its trees

  -- what a cell shows finds it, where no other cell shows the same
  tree_with-only : (pool : List Tree) (t : Tree) → Contains pool t → ((a b : Tree) → Contains pool a → Contains pool b → info_of H a ≡ info_of H b → a ≡ b) → tree_with H pool (info_of H t) ≡ t
  tree_with-only pool t in' one =
      ap
      (λ found. unwrap_or found no_tree)
      (find-only (λ s. same_info (info_of H s) (info_of H t)) pool t in' (same_info-true (info_of H t) (info_of H t) refl)
      (λ s in-s same. one s t in-s in' ((same_info-Decides (info_of H s) (info_of H t)).0 same)))

  found_children : (pool : List Tree) (ts : Trees) → ((c : Tree) → Contains (list_of ts) c → Contains pool c) → ((a b : Tree) → Contains pool a → Contains pool b → info_of H a ≡ info_of H b → a ≡ b) → trees_of (map (tree_with H pool) (infos_of H ts)) ≡ ts
  found_children pool no_trees there one = refl
  found_children pool (tree_and t ts) there one =
      ap₂ tree_and (tree_with-only pool t (there t (Contains-first t (list_of ts))) one) (found_children pool ts (λ c h. there c (Contains-later t (list_of ts) c h)) one)

  -- no two of some cells show the same
  abbrev pub OneByInfo : List Tree → Type 0
  OneByInfo pool = (a b : Tree) → Contains pool a → Contains pool b → info_of H a ≡ info_of H b → a ≡ b

  -- each child of a listed cell is listed behind it or is an old cell
  abbrev pub AreBehind : List Tree → List Tree → Type 0
  AreBehind old cs = (k : ℕ) (c : Tree) → k < length cs → Contains (children (get_or cs k no_tree)) c → Contains (drop (suc k) cs ++ old) c

  -- then the trees of the list are those that were listed
  pub listed_trees-are : (old cs : List Tree) → OneByInfo (cs ++ old) → AreBehind old cs → listed_trees H old (map (new_cell_of H) cs) ≡ cs
  unfolding listed_trees
  listed_trees-are old [] one behind = refl
  listed_trees-are old (cell exotic bits ts ∷ cs) one behind =
      let one_later : OneByInfo (cs ++ old) =
      λ a b in-a in-b. one a b (Contains-later (cell exotic bits ts) (cs ++ old) a in-a) (Contains-later (cell exotic bits ts) (cs ++ old) b in-b)
      in
      let rest = listed_trees-are old cs one_later (λ k c in' h. behind (suc k) c (omega arith) h) in
      let kids =
      ap (λ later. trees_of (map (tree_with H (later ++ old)) (infos_of H ts))) rest
      ∙ found_children (cs ++ old) ts (λ c h. behind 0 c (omega arith) h) one_later
      in
      ap₂ (λ us later. cell exotic bits us ∷ later) kids rest

  -- and the value stands for its root
  pub tree_of-listed : (root : Tree) (cs : List Tree) (old : List Tree) → OneByInfo (cs ++ old_cells old) → AreBehind (old_cells old) cs → Contains (cs ++ old_cells old) root → tree_of H (info_of H root) (map (new_cell_of H) cs) old ≡ root
  tree_of-listed root cs old one behind in' =
      ap (λ later. tree_with H (later ++ old_cells old) (info_of H root)) (listed_trees-are (old_cells old) cs one behind)
      ∙ tree_with-only (cs ++ old_cells old) root in' one

  infos-new : (cs : List Tree) → map (info_of_new H) (map (new_cell_of H) cs) ≡ map (info_of H) cs
  infos-new [] = refl
  infos-new (c ∷ cs) = ap₂ (λ k ks. k ∷ ks) (sym (info_of-face_of H c)) (infos-new cs)

  -- and it fits
  known_infos-trees : (cs : List Tree) (old : List Tree) → known_infos H (map (new_cell_of H) cs) old ≡ map (info_of H) (cs ++ old_cells old)
  known_infos-trees cs old =
      ap (λ ks. ks ++ map (info_of H) (old_cells old)) (infos-new cs) ∙ sym (map-append (info_of H) cs (old_cells old))

  shown-listed : (cs : List Tree) (old : List Tree) (t : Tree) → Contains (cs ++ old_cells old) t → Contains (known_infos H (map (new_cell_of H) cs) old) (info_of H t)
  shown-listed cs old t in' = subst (λ ks. Contains ks (info_of H t)) (sym (known_infos-trees cs old)) (Contains-mapped (info_of H) (cs ++ old_cells old) t in')

  -- a child listed behind a cell, or old, is listed or old
  behind-among : (cs old : List Tree) (n : ℕ) (c : Tree) → Contains (drop n cs ++ old) c → Contains (cs ++ old) c
  behind-among cs old n c in' =
      ⊎_elim
      (λ later. Contains-append_left cs old c (Contains-drop cs n c later))
      (λ there. Contains-append_right cs old c there)
      (Contains-append_cases (drop n cs) old c in')

  kids-known : (cs : List Tree) (old : List Tree) → AreBehind (old_cells old) cs → (k : ℕ) → k < length cs → All (Contains (known_infos H (map (new_cell_of H) cs) old)) (face_of H (get_or cs k no_tree)).kids
  kids-known cs old behind k in' =
      let c = get_or cs k no_tree in
      let known = known_infos H (map (new_cell_of H) cs) old in
      subst (All (Contains known)) (sym (kids-face_of H c))
      (All-map (Contains known) (info_of H) (children c)
      (λ p d in-children.
      let child = get_or (children c) p d in
      shown-listed cs old child (behind-among cs (old_cells old) (suc k) child (behind k child in' (Contains-get_or (children c) p d in-children)))))

  pub Fits-listed : (root : Tree) (cs : List Tree) (old : List Tree) → AreBehind (old_cells old) cs → Contains (cs ++ old_cells old) root → Fits H (info_of H root) (map (new_cell_of H) cs) old
  Fits-listed root cs old behind in' =
      record {
        top = shown-listed cs old root in';
        kids =
            λ k d in-cells.
            let in-trees : k < length cs = omega (arith, length-map cs (new_cell_of H), in-cells) in
            subst
            (λ n. All (Contains (known_infos H (map (new_cell_of H) cs) old)) n.face.kids)
            (sym (get_or-map (new_cell_of H) cs k no_tree d in-trees))
            (kids-known cs old behind k in-trees);
      }

  -- ---- all cells of a tree

  -- a well-formed tree of mask 0 that is free of clashes, listed whole
  module _ (t : Tree) (good : IsWellFormed H t) (clear : IsClashFree H t) where
    abbrev all_cells : List Tree
    all_cells = distinct_cells H t

    all-subtrees : (c : Tree) → Contains all_cells c → Contains (subtrees t) c
    all-subtrees = (AreDistinct-distinct_cells H t).within

    one_by_rep : (a b : Tree) → Contains all_cells a → Contains all_cells b → rep_of H a ≡ rep_of H b → a ≡ b
    one_by_rep a b in-a in-b rep = same_rep H t clear a b (all-subtrees a in-a) (all-subtrees b in-b) rep

    pub IsValid-all_cells : mask_of H t ≡ 0 → IsValid H (info_of H t) (map (new_cell_of H) (distinct_cells H t))
    IsValid-all_cells plain =
        IsValid-listed t all_cells (λ c in'. well_formed-subtree H t c good (all-subtrees c in')) good plain (AreDistinct-distinct_cells H t).ordered one_by_rep
        (λ c in'.
        ⊎_elim
        inl
        (λ parent. inr (parent.0, Contains-distinct_cells H t clear parent.0 parent.1, parent.2))
        (subtree-parent t c (all-subtrees c in')))

    pub all_cells-listed : (s : Tree) → Contains (subtrees t) s → IsOldOrListed H (map (new_cell_of H) (distinct_cells H t)) [] s
    all_cells-listed s in' = inr (new_cell_of H s, Contains-mapped (new_cell_of H) all_cells s (Contains-distinct_cells H t clear s in'), refl)

    all-behind : AreBehind [] all_cells
    all-behind k c in' child =
        let parent = get_or all_cells k no_tree in
        let listed = Contains-distinct_cells H t clear c (subtrees-subtree t parent c (all-subtrees parent (Contains-get_or all_cells k no_tree in')) (child-is-subtree parent c child)) in
        let j = listed.0 in
        let at : get_or all_cells j no_tree ≡ c = get_or_default all_cells j no_tree c listed.1 ∙ listed.2 in
        let behind : k < j = distinct_cells-later H t clear good no_tree k j in' listed.1 (subst (Contains (children parent)) (sym at) child) in
        Contains-append_left (drop (suc k) all_cells) [] c (subst (Contains (drop (suc k) all_cells)) at (Contains-dropped all_cells (suc k) j no_tree behind listed.1))

    one_by_info : OneByInfo (all_cells ++ [])
    one_by_info a b in-a in-b shows =
        let in-cells : (s : Tree) → Contains (all_cells ++ []) s → Contains all_cells s = λ s h. ⊎_elim (λ in'. in') (λ none. absurd (Contains-nil s none)) (Contains-append_cases all_cells [] s h) in
        one_by_rep a b (in-cells a in-a) (in-cells b in-b) (ap rep_of_info shows)

    root-listed : Contains (all_cells ++ []) t
    root-listed = Contains-append_left all_cells [] t (Contains-distinct_cells H t clear t (subtree-itself t))

    pub Fits-all_cells : Fits H (info_of H t) (map (new_cell_of H) (distinct_cells H t)) []
    Fits-all_cells = Fits-listed t all_cells [] all-behind root-listed

    pub tree_of-all_cells : tree_of H (info_of H t) (map (new_cell_of H) (distinct_cells H t)) [] ≡ t
    tree_of-all_cells = tree_of-listed t all_cells [] one_by_info all-behind root-listed
