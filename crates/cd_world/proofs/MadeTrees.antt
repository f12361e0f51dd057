-- The tree that a valid value stands for over trees that it fits: its root shows what the value says, it is well-formed,
-- and its cells are listed or old ones.
use Rattle.std.proofs.Common.{◌≡◌, ℕ, ◌<◌, ◌≤◌, List, [], ◌∷◌, ◌++◌, map, Option, Some, None, Contains, All, Less, Equal, Greater, Ordering, refl, sym, ap, ap₂, ◌∙◌, subst, inl, inr, ⊎_elim, ◌⊎◌, arith}
use Rattle.std.specs.Prelude.{find, IsSome, is_some}
use Rattle.std.specs.Option.{unwrap_or}
use Rattle.std.specs.Ordering.{nat_cmp, ordering_then}
use Rattle.std.specs.Cmp.{ranked}
use Rattle.std.proofs.lemmas.Bool.{true≢false}
use Rattle.std.proofs.lemmas.List.{map-append, get_or_default}
use Rattle.std.proofs.lemmas.List.Elements.{All-contains, Contains-append_cases, Contains-append_left, Contains-append_right}
use Rattle.cd_base.specs.declared.hash.Hash256.{Hash256}
use Rattle.cd_cell.specs.declared.info.ChildInfo.{ChildInfo}
use Rattle.cd_cell.specs.declared.new_cell.NewCell.{NewCell}
use Rattle.cd_cell.specs.FaceView.{FaceView}
use Rattle.cd_cell.specs.Infos.{height_of_info}
use Rattle.cd_cell.specs.Levels.{info_of_face, height_of_face}
use Rattle.cd_cell.specs.Equality.{same_info, same_info-Decides}
use Rattle.cd_cell.specs.GoodFace.{IsGoodFace}
use Rattle.cd_cell.specs.Steady.{IsSteady}
use Rattle.cd_cell.specs.Unfolding.{no_tree}
use Rattle.cd_cell.specs.Tree.{Tree, cell, trees_of, children, subtrees, info_of, infos_of, face_of, IsWellFormed}
use Rattle.cd_cell.specs.Listings.{no_cell, listing_cmp, old_cells, info_of_new, known_infos, tree_with, listed_trees, tree_of, IsValid, Fits}
use Rattle.cd_cell.proofs.Subtrees.{Contains-first, Contains-later, Contains-cases, Contains-nil, Contains-map, Contains-mapped, list_of-trees_of, subtrees-cases, flat_map-subtree, infos_of-list_of, IsWellFormed-from, info_of-face_of}
use Rattle.cd_cell.proofs.Heights.{IsSteady-info_of_face, IsSteady-info_of, height_of_face-kid}
use Rattle.cd_world.proofs.Searches.{find-passes, find-contains, find-some}
use Rattle.cd_world.proofs.Orders.{InOrder, order_from_AllPairs}

not_more : (a b : ℕ) (o p : Ordering) → nat_cmp a b ≡ o → ordering_then o p ≡ Less → a ≤ b
not_more a b Less p is e = let less = ranked a b Less (sym is) in omega (arith, less)
not_more a b Equal p is e = let same = ranked a b Equal (sym is) in omega (arith, same)
not_more a b Greater p is e = absurd cc

module _ (H : List ℕ → Hash256) where
  -- what is looked up by what it shows
  found-kid : (pool : List Tree) (k : ChildInfo) → Contains (map (info_of H) pool) k → Contains pool (tree_with H pool k) × (info_of H (tree_with H pool k) ≡ k)
  found-kid pool k h = by (find (λ t. same_info (info_of H t) k) pool) refl
    where
      shows : IsSome (find (λ t. same_info (info_of H t) k) pool)
      shows = let there = Contains-map (info_of H) pool k h in find-some (λ t. same_info (info_of H t) k) pool there.0 there.1 ((same_info-Decides (info_of H there.0) k).1 there.2)

      by : (o : Option Tree) → find (λ t. same_info (info_of H t) k) pool ≡ o → Contains pool (unwrap_or o no_tree) × (info_of H (unwrap_or o no_tree) ≡ k)
      by None e = absurd (true≢false (sym shows ∙ ap is_some e))
      by (Some s) e = (find-contains (λ t. same_info (info_of H t) k) pool s e, (same_info-Decides (info_of H s) k).0 (find-passes (λ t. same_info (info_of H t) k) pool s e))

  found-kids : (pool : List Tree) (ks : List ChildInfo) → ((k : ChildInfo) → Contains ks k → Contains (map (info_of H) pool) k) → map (info_of H) (map (tree_with H pool) ks) ≡ ks
  found-kids pool [] known = refl
  found-kids pool (k ∷ ks) known =
      ap₂ (λ (x : ChildInfo) (xs : List ChildInfo). x ∷ xs) (found-kid pool k (known k (Contains-first k ks))).1 (found-kids pool ks (λ x h. known x (Contains-later k ks x h)))

  module _ (olds : List Tree) (good_olds : (s : Tree) → Contains (old_cells olds) s → IsWellFormed H s) where
    abbrev old : List Tree
    old = old_cells olds

    -- each kid of a listed cell is that of a cell listed behind it, or of an old one
    abbrev pub AreKidsBehind : List NewCell → Type 0
    AreKidsBehind [] = Unit {0}
    AreKidsBehind (c ∷ cs) = ((k : ChildInfo) → Contains c.face.kids k → Contains (map (info_of_new H) cs ++ map (info_of H) old) k) × AreKidsBehind cs

    abbrev pub AreGood : List NewCell → Type 0
    AreGood [] = Unit {0}
    AreGood (c ∷ cs) = IsGoodFace c.face × AreGood cs

    -- what the listed trees show
    pub record AreMade (cells : List NewCell) (ts : List Tree) : Type 0 where
      pub infos : map (info_of H) ts ≡ map (info_of_new H) cells
      pub faces : map (face_of H) ts ≡ map (λ c. c.face) cells
      pub good : (s : Tree) → Contains ts s → IsWellFormed H s

    pooled-infos : (cells : List NewCell) (later : List Tree) → map (info_of H) later ≡ map (info_of_new H) cells → map (info_of_new H) cells ++ map (info_of H) old ≡ map (info_of H) (later ++ old)
    pooled-infos cells later is = ap (λ ks. ks ++ map (info_of H) old) (sym is) ∙ sym (map-append (info_of H) later old)

    module _ (c : NewCell) (cs : List NewCell) (later : List Tree) (made : AreMade cs later) (good : IsGoodFace c.face)
        (behind : (k : ChildInfo) → Contains c.face.kids k → Contains (map (info_of_new H) cs ++ map (info_of H) old) k) where
      abbrev pool : List Tree
      pool = later ++ old

      abbrev top : Tree
      top = cell c.face.exotic c.face.bits (trees_of (map (tree_with H pool) c.face.kids))

      known-kid : (k : ChildInfo) → Contains c.face.kids k → Contains (map (info_of H) pool) k
      known-kid k h = subst (λ ks. Contains ks k) (pooled-infos cs later made.infos) (behind k h)

      kids-top : infos_of H (trees_of (map (tree_with H pool) c.face.kids)) ≡ c.face.kids
      kids-top =
          infos_of-list_of H (trees_of (map (tree_with H pool) c.face.kids))
          ∙ ap (map (info_of H)) (list_of-trees_of (map (tree_with H pool) c.face.kids))
          ∙ found-kids pool c.face.kids known-kid

      face-top : face_of H top ≡ c.face
      face-top = ap (λ (ks : List ChildInfo). let f : FaceView = record { exotic = c.face.exotic; bits = c.face.bits; kids = ks } in f) kids-top

      info-top : info_of H top ≡ info_of_new H c
      info-top = info_of-face_of H top ∙ ap (info_of_face H) face-top

      -- a child is in the pool
      child-pooled : (x : Tree) → Contains (children top) x → Contains pool x
      child-pooled x h =
          let from = Contains-map (tree_with H pool) c.face.kids x (subst (λ (ts : List Tree). Contains ts x) (list_of-trees_of (map (tree_with H pool) c.face.kids)) h) in
          subst (Contains pool) from.2 (found-kid pool from.0 (known-kid from.0 from.1)).0

      good-top : IsWellFormed H top
      good-top = IsWellFormed-from H top (subst IsGoodFace (sym face-top) good) (λ x h. ⊎_elim (made.good x) (good_olds x) (Contains-append_cases later old x (child-pooled x h)))

    pub listed-made : (cells : List NewCell) → AreGood cells → AreKidsBehind cells → AreMade cells (listed_trees H old cells)
    unfolding listed_trees
    listed-made [] good behind = record { infos = refl; faces = refl; good = λ s h. absurd (Contains-nil s h) }
    listed-made (c ∷ cs) good behind =
        let later = listed_trees H old cs in
        let made = listed-made cs good.1 behind.1 in
        record {
          infos = ap₂ (λ (x : ChildInfo) (xs : List ChildInfo). x ∷ xs) (info-top c cs later made good.0 behind.0) made.infos;
          faces = ap₂ (λ (x : FaceView) (xs : List FaceView). x ∷ xs) (face-top c cs later made good.0 behind.0) made.faces;
          good = λ s h. ⊎_elim (λ same. subst (IsWellFormed H) same (good-top c cs later made good.0 behind.0)) (made.good s) (Contains-cases (top c cs later made good.0 behind.0) later s h);
        }

    -- the cells below listed and old ones are such cells
    pub listed-closed : (cells : List NewCell) → AreGood cells → AreKidsBehind cells → (s u : Tree) → Contains (listed_trees H old cells ++ old) s → Contains (subtrees s) u → Contains (listed_trees H old cells ++ old) u
    unfolding listed_trees
    listed-closed [] good behind s u h below = flat_map-subtree olds s u h below
    listed-closed (c ∷ cs) good behind s u h below =
        let later = listed_trees H old cs in
        let made = listed-made cs good.1 behind.1 in
        let first = top c cs later made good.0 behind.0 in
        let rest = listed-closed cs good.1 behind.1 in
        ⊎_elim
        (λ same.
        ⊎_elim
        (λ itself. subst (Contains (first ∷ later ++ old)) itself (Contains-first first (later ++ old)))
        (λ child. Contains-later first (later ++ old) u (rest child.0 u (child-pooled c cs later made good.0 behind.0 child.0 child.1) child.2))
        (subtrees-cases first u (subst (λ (x : Tree). Contains (subtrees x) u) (sym same) below)))
        (λ old_one. Contains-later first (later ++ old) u (rest s u old_one below))
        (Contains-cases first (later ++ old) s h)

    -- ---- kids of a valid list are listed behind

    good-listed : (root : ChildInfo) (cells : List NewCell) → IsValid H root cells → (c : NewCell) → Contains cells c → IsGoodFace c.face
    good-listed root cells valid c h = subst (λ (x : NewCell). IsGoodFace x.face) (get_or_default cells h.0 no_cell c h.1 ∙ h.2) (valid.good h.0 h.1)

    module _ (whole : List NewCell) (good : (c : NewCell) → Contains whole c → IsGoodFace c.face) (masks : (c : NewCell) → Contains whole c → All (λ k. k.mask ≤ 7) c.face.kids)
        (known : (c : NewCell) → Contains whole c → (k : ChildInfo) → Contains c.face.kids k → Contains (map (info_of_new H) whole ++ map (info_of H) old) k) where
      steady-known : (k : ChildInfo) → Contains (map (info_of_new H) whole ++ map (info_of H) old) k → IsSteady k
      steady-known k h = ⊎_elim
          (λ new. let from = Contains-map (info_of_new H) whole k new in subst IsSteady from.2 (IsSteady-info_of_face H (from.0).face (good from.0 from.1).fit (masks from.0 from.1)))
          (λ there. let from = Contains-map (info_of H) old k there in subst IsSteady from.2 (IsSteady-info_of H from.0 (good_olds from.0 from.1)))
          (Contains-append_cases (map (info_of_new H) whole) (map (info_of H) old) k h)

      lower-kid : (c : NewCell) → Contains whole c → (k : ChildInfo) → Contains c.face.kids k → height_of_info k < height_of_face c.face
      lower-kid c h k kid = height_of_face-kid c.face (good c h).fit k kid (steady-known k (known c h k kid))

      abbrev IsSplit : List NewCell → Type 0
      IsSplit cs = (x : NewCell) → Contains whole x → Contains cs x ⊎ ((y : NewCell) → Contains cs y → height_of_face y.face ≤ height_of_face x.face)

      behind-from : (cs : List NewCell) → InOrder (λ a b. listing_cmp a b ≡ Less) cs → ((c : NewCell) → Contains cs c → Contains whole c) → IsSplit cs → AreKidsBehind cs
      behind-from [] up within split = tt
      behind-from (c ∷ cs) up within split = (kid_behind, behind-from cs up.1 (λ x h. within x (Contains-later c cs x h)) next)
        where
          lower : (y : NewCell) → Contains cs y → height_of_face y.face ≤ height_of_face c.face
          lower y h = not_more (height_of_face y.face) (height_of_face c.face) _ _ refl (up.0 y h)

          next : (x : NewCell) → Contains whole x → Contains cs x ⊎ ((y : NewCell) → Contains cs y → height_of_face y.face ≤ height_of_face x.face)
          next x h = ⊎_elim
              (λ here. ⊎_elim (λ same. inr (λ y in'. subst (λ (z : NewCell). height_of_face y.face ≤ height_of_face z.face) same (lower y in'))) (λ later. inl later) (Contains-cases c cs x here))
              (λ before. inr (λ y in'. before y (Contains-later c cs y in')))
              (split x h)

          low : (k : ChildInfo) → Contains c.face.kids k → height_of_info k < height_of_face c.face
          low k h = lower-kid c (within c (Contains-first c cs)) k h

          kid_behind : (k : ChildInfo) → Contains c.face.kids k → Contains (map (info_of_new H) cs ++ map (info_of H) old) k
          kid_behind k h = ⊎_elim
              (λ new.
              let from = Contains-map (info_of_new H) whole k new in
              let height : height_of_face (from.0).face ≡ height_of_info k = ap height_of_info from.2 in
              ⊎_elim
              (λ here. ⊎_elim
              (λ same. absurd (let own : height_of_face c.face ≡ height_of_face (from.0).face = ap (λ (z : NewCell). height_of_face z.face) same in omega (arith, low k h, own, height)))
              (λ later. Contains-append_left (map (info_of_new H) cs) (map (info_of H) old) k (subst (Contains (map (info_of_new H) cs)) from.2 (Contains-mapped (info_of_new H) cs from.0 later)))
              (Contains-cases c cs from.0 here))
              (λ before. absurd (omega (arith, before c (Contains-first c cs), low k h, height)))
              (split from.0 from.1))
              (λ there. Contains-append_right (map (info_of_new H) cs) (map (info_of H) old) k there)
              (Contains-append_cases (map (info_of_new H) whole) (map (info_of H) old) k (known c (within c (Contains-first c cs)) k h))

    module _ (root : ChildInfo) (cells : List NewCell) (valid : IsValid H root cells) (fits : Fits H root cells olds) where
      all-good : (cs : List NewCell) → ((c : NewCell) → Contains cs c → Contains cells c) → AreGood cs
      all-good [] within = tt
      all-good (c ∷ cs) within = (good-listed root cells valid c (within c (Contains-first c cs)), all-good cs (λ x h. within x (Contains-later c cs x h)))

      pub cells-good : AreGood cells
      cells-good = all-good cells (λ c h. h)

      pub cells-behind : AreKidsBehind cells
      cells-behind = behind-from cells (good-listed root cells valid) (λ c h. All-contains (λ (c : NewCell). All (λ k. k.mask ≤ 7) c.face.kids) cells c valid.masks h)
          (λ c h k kid. All-contains (Contains (known_infos H cells olds)) c.face.kids k (All-contains (λ (c : NewCell). All (Contains (known_infos H cells olds)) c.face.kids) cells c fits.kids h) kid)
          cells (order_from_AllPairs (λ a b. listing_cmp a b ≡ Less) cells valid.ordered) (λ c h. h) (λ x h. inl h)

      abbrev pub made_cells : List Tree
      made_cells = listed_trees H old cells

      pub are-made : AreMade cells made_cells
      are-made = listed-made cells cells-good cells-behind

      top-found : Contains (made_cells ++ old) (tree_of H root cells olds) × (info_of H (tree_of H root cells olds) ≡ root)
      top-found = found-kid (made_cells ++ old) root (subst (λ ks. Contains ks root) (pooled-infos cells made_cells (let made = are-made in made.infos)) fits.top)

      pub info-made : info_of H (tree_of H root cells olds) ≡ root
      info-made = top-found.1

      pub good-made : IsWellFormed H (tree_of H root cells olds)
      good-made = ⊎_elim (let made = are-made in made.good (tree_of H root cells olds)) (good_olds (tree_of H root cells olds)) (Contains-append_cases made_cells old (tree_of H root cells olds) top-found.0)

      -- each of its cells is a listed or an old one
      pub cell-made : (u : Tree) → Contains (subtrees (tree_of H root cells olds)) u → Contains made_cells u ⊎ Contains old u
      cell-made u h = Contains-append_cases made_cells old u (listed-closed cells cells-good cells-behind (tree_of H root cells olds) u top-found.0 h)
