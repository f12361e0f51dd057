-- Laws of the own cells of a graft, by their faces: they are good, each but the root is a kid of one, and each kid is
-- what one of them or a known cell shows.
use Rattle.std.proofs.Common.{◌≡◌, ℕ, ◌+◌, ◌<◌, ◌≤◌, Bool, true, false, true≢false, List, [], ◌∷◌, length, get_or, flat_map, All, Contains, Option, Some, None, refl, ap, sym, ◌∙◌, subst, inl, inr, ⊎_elim, ◌⊎◌, arith}
use Rattle.std.specs.Prelude.{if◌then◌else◌, is_some}
use Rattle.std.specs.Option.{unwrap_or}
use Rattle.std.specs.Int.{bit_at}
use Rattle.std.proofs.lemmas.Nat.Bits.{bit_at-zero}
use Rattle.std.proofs.lemmas.List.{length-map, get_or_default}
use Rattle.std.proofs.lemmas.List.Elements.{All-contains, Contains-get_or}
use Rattle.std.proofs.lemmas.Bool.{and_parts, and_from}
use Rattle.std.specs.List.{list_any}
use Rattle.cd_base.specs.declared.hash.Hash256.{Hash256}
use Rattle.cd_cell.specs.declared.info.ChildInfo.{ChildInfo}
use Rattle.cd_cell.specs.declared.kind.Kind.TheVariants.{Update}
use Rattle.cd_cell.specs.FaceView.{FaceView}
use Rattle.cd_cell.specs.Infos.{info_hash, info_depth, rep_of_info, height_of_info}
use Rattle.cd_cell.specs.Levels.{info_of_face, stated_hash, rep_of_face}
use Rattle.cd_cell.specs.Masks.{is_significant}
use Rattle.cd_cell.specs.Steady.{IsSteady}
use Rattle.cd_cell.specs.Fit.{IsFaceFit}
use Rattle.cd_cell.specs.GoodFace.{IsGoodFace}
use Rattle.cd_cell.specs.Tree.{Tree, cell, children, info_of, face_of, kind_of, mask_of, hash_at, IsWellFormed}
use Rattle.cd_cell.specs.Unfolding.{no_tree}
use Rattle.cd_cell.specs.Bags.{no_face}
use Rattle.cd_cell.specs.Equality.{same_face, same_face-Decides, same_info, same_info-Decides}
use Rattle.cd_cell.specs.Updates.{half_of, is_hidden, some_unless, stands_for}
use Rattle.cd_cell.proofs.Subtrees.{Contains-cases, Contains-nil, Contains-first, IsGoodFace-face_of, info_of-face_of, kids-face_of, well_formed-child}
use Rattle.cd_cell.proofs.Heights.{clear-bit}
use Rattle.cd_cell.proofs.AppliedUpdates.{find-Some}
use Rattle.cd_cell.specs.Clashes.{clash_of}
use Rattle.cd_cell.proofs.ClashLaws.{clear-clash_of}
use Rattle.cd_cell.proofs.OwnCells.{place-itself}
use Rattle.cd_update.specs.EachOnce.{first_of}
use Rattle.cd_cell.specs.Places.{Place, places}
use Rattle.cd_update.specs.Pairing.{IsOldInfo, upto}
use Rattle.cd_update.specs.Hides.{hides_at, hides}
use Rattle.cd_update.proofs.OldInfos.{stands-as, known-as}
use Rattle.cd_update.specs.Grafts.{known_for, grafted_info, grafted_face, own_face_at, own_faces, foreign_at, foreign_hash}
use Rattle.cd_update.proofs.EachOnceLaws.{Contains-flat_map, Contains-flat_map_cases, Contains-each_once, Contains-each_once_cases}
use Rattle.cd_cell.proofs.ListTests.{true_or_false, list_any-Contains, Contains-list_any}
use Rattle.cd_update.proofs.GraftInfos.{IsReady, all-ready, face-good, info-visible, graft-is, or_parts}
use Rattle.cd_update.proofs.HalfVisits.{IsUpdateTree}
use Rattle.cd_update.proofs.OldTrees.{mask-new, kid-half}
use Rattle.cd_cell.specs.declared.new_cell.NewCell.{NewCell}
use Rattle.cd_cell.specs.Listings.{IsValid}
use Rattle.cd_prepare.specs.NewCells.{AreListed}
use Rattle.cd_prepare.proofs.NewLists.{AreClear, HasParent, IsValid-faces}
use Rattle.cd_prepare.proofs.GraftPlaces.{is_visible, kid-place, place-parent}

-- faces without a clash
pub clear-faces : (H : List ℕ → Hash256) (faces : List FaceView) → clash_of H faces ≡ None → AreClear H faces
clear-faces H faces none f g in-f in-g reps =
    let at-f : get_or faces in-f.0 no_face ≡ f = get_or_default faces in-f.0 no_face f in-f.1 ∙ in-f.2 in
    let at-g : get_or faces in-g.0 no_face ≡ g = get_or_default faces in-g.0 no_face g in-g.1 ∙ in-g.2 in
    sym at-f ∙ clear-clash_of H faces none in-f.0 in-g.0 in-f.1 in-g.1 (ap (rep_of_face H) at-f ∙ reps ∙ sym (ap (rep_of_face H) at-g)) ∙ at-g

-- a mask of 0 leaves one hash and one depth
one_level : (k : ChildInfo) → IsSteady k → k.mask ≡ 0 → (info_hash k 3 ≡ info_hash k 0) × (info_depth k 3 ≡ info_depth k 0)
one_level k steady plain =
    let off : (l : ℕ) → l < 3 → is_significant k.mask (l + 1) ≡ false = λ l low. clear-bit k.mask l low (ap (λ m. bit_at m l) plain ∙ bit_at-zero l) in (
      steady.hashes 2 (omega arith) (off 2 (omega arith)) ∙ steady.hashes 1 (omega arith) (off 1 (omega arith)) ∙ steady.hashes 0 (omega arith) (off 0 (omega arith)),
      steady.depths 2 (omega arith) (off 2 (omega arith)) ∙ steady.depths 1 (omega arith) (off 1 (omega arith)) ∙ steady.depths 0 (omega arith) (off 0 (omega arith)),
    )

module _ {H : List ℕ → Hash256} {u : Tree} (update : IsUpdateTree H u) (known : List ChildInfo) (old : All IsOldInfo known) (none : foreign_hash H known (half_of u 1) ≡ None) where
  abbrev well : IsWellFormed H u
  well = update.well

  abbrev kind : kind_of H u ≡ Some Update
  kind = update.kind

  abbrev plain : mask_of H u ≡ 0
  plain = update.plain

  abbrev half : Tree
  half = half_of u 1

  abbrev start : Place
  start = record { tree = half; depth = 0 }

  abbrev pub root : ChildInfo
  root = grafted_info H known half 0

  fit : IsFaceFit (face_of H u)
  fit = (IsGoodFace-face_of H u well).fit

  good_half : IsWellFormed H half
  good_half =
      let two : length (children u) ≡ 2 = sym (length-map (children u) (info_of H)) ∙ sym (ap length (kids-face_of H u)) ∙ (fit.update kind).refs in
      well_formed-child H u half well (Contains-get_or (children u) 1 no_tree (omega (arith, two)))

  ready : IsReady H known old start
  ready = record { well = good_half; depth = omega arith; low = omega (arith, mask-new H u well kind plain); none = none }

  abbrev shown_at : Place → FaceView
  shown_at p = grafted_face H known p.tree p.depth

  abbrev info_at : Place → ChildInfo
  info_at p = grafted_info H known p.tree p.depth

  ready-at : (p : Place) → Contains (places H half 0) p → IsReady H known old p
  ready-at p in' = all-ready H known old half 0 p ready in'

  -- the root's info
  pub root-is : (root.mask ≡ 0) × (rep_of_info root ≡ stated_hash (face_of H u) 33) × (height_of_info root ≤ 1024)
  root-is =
      let found = graft-is H known old half 0 (omega arith) good_half (omega (arith, mask-new H u well kind plain)) none in
      let mask : root.mask ≡ 0 = omega (arith, found.kept.mask) in
      let one = one_level root found.steady mask in
      let low : info_depth (info_of H half) 0 ≤ 1024 = omega (arith, (IsGoodFace-face_of H half good_half).fit.depths 0 (omega arith), ap (λ (i : ChildInfo). info_depth i 0) (info_of-face_of H half)) in (
        mask,
        one.0 ∙ found.kept.hashes 0 (omega arith) ∙ sym (ap (λ (i : ChildInfo). info_hash i 0) (kid-half H u well kind 1 (omega arith))) ∙ sym (fit.update kind).after.hash,
        omega (arith, one.1, found.kept.depths 0 (omega arith), low),
      )

  module _ (faces : List FaceView) (are : faces ≡ own_faces H known half) where
    own-cases : (hidden : Bool) (f g : FaceView) → Contains (if hidden then [] else g ∷ []) f → (hidden ≡ false) × (g ≡ f)
    own-cases true f g h = absurd (Contains-nil f h)
    own-cases false f g h = (refl, ⊎_elim (λ same. same) (λ later. absurd (Contains-nil f later)) (Contains-cases g [] f h))

    own-there : (hidden : Bool) (g : FaceView) → hidden ≡ false → Contains (if hidden then [] else g ∷ []) g
    own-there true g e = absurd (true≢false e)
    own-there false g e = Contains-first g []

    face-from : (f : FaceView) → Contains faces f → (p : Place) × Contains (places H half 0) p × is_visible H known p × (shown_at p ≡ f)
    face-from f h =
        let made = Contains-flat_map_cases (own_face_at H known) (places H half 0) f (Contains-each_once_cases same_face same_face-Decides (flat_map (own_face_at H known) (places H half 0)) f (subst (λ fs. Contains fs f) are h)) in
        let p = made.0 in
        let visible = own-cases (is_hidden p.depth (face_of H p.tree)) f (shown_at p) made.2 in
        (p, made.1, visible.0, visible.1)

    face-to : (p : Place) → Contains (places H half 0) p → is_visible H known p → Contains faces (shown_at p)
    face-to p in' visible =
        subst (λ fs. Contains fs (shown_at p)) (sym are)
        (Contains-each_once same_face same_face-Decides (flat_map (own_face_at H known) (places H half 0)) (shown_at p)
        (Contains-flat_map (own_face_at H known) (places H half 0) p (shown_at p) in' (own-there (is_hidden p.depth (face_of H p.tree)) (shown_at p) visible)))

    pub good-faces : (f : FaceView) → Contains faces f → IsGoodFace f
    good-faces f h =
        let from = face-from f h in
        subst IsGoodFace from.3 (face-good H known old from.0.tree from.0.depth (ready-at from.0 from.1) from.2).good

    pub steady-kids : (f : FaceView) → Contains faces f → All IsSteady f.kids
    steady-kids f h =
        let from = face-from f h in
        subst (λ (x : FaceView). All IsSteady x.kids) from.3 (face-good H known old from.0.tree from.0.depth (ready-at from.0 from.1) from.2).steady

    info-of : (p : Place) → is_visible H known p → info_at p ≡ info_of_face H (shown_at p)
    info-of p visible = info-visible H known old p.tree p.depth visible

    -- what a place shows is shown by the root, or is a kid of an own face
    pub parent-at : (q : Place) → Contains (places H half 0) q → (info_at q ≡ root) ⊎ ((g : FaceView) × Contains faces g × Contains g.kids (info_at q))
    parent-at q in' =
        ⊎_elim
        (λ same. inl (ap info_at (sym same)))
        (λ parent. inr (shown_at parent.0, face-to parent.0 parent.1 parent.2, parent.3))
        (place-parent H known half 0 q in')

    pub parents : (f : FaceView) → Contains faces f → HasParent H faces root f
    parents f h =
        let from = face-from f h in
        let shows : info_of_face H f ≡ info_at from.0 = ap (info_of_face H) (sym from.3) ∙ sym (info-of from.0 from.2) in
        subst (λ k. (k ≡ root) ⊎ ((g : FaceView) × Contains faces g × Contains g.kids k)) (sym shows) (parent-at from.0 from.1)

    known-found : (o : Option ChildInfo) (hash : Hash256) (k : ChildInfo) → ((x : ChildInfo) → o ≡ Some x → Contains known x) → some_unless (is_some o) hash ≡ None → Contains known (unwrap_or o k)
    known-found None hash k found e = absurd (cc e)
    known-found (Some x) hash k found e = found x refl

    hidden-known : (q : Place) → IsReady H known old q → is_hidden q.depth (face_of H q.tree) ≡ true → Contains known (info_at q)
    hidden-known q ready e = go q.tree q.depth e ready.none
      where
        go : (n : Tree) (d : ℕ) → is_hidden d (face_of H n) ≡ true → first_of (foreign_at H known) (places H n d) ≡ None → Contains known (grafted_info H known n d)
        go (cell exotic bits ns) d e none =
            let n = cell exotic bits ns in
            let found = known_for known (info_of H n) d in
            let here : (if is_hidden d (face_of H n) then some_unless (is_some found) (hash_at H n d) else None) ≡ None = (or_parts _ _ none).0 in
            let told : some_unless (is_some found) (hash_at H n d) ≡ None = sym (ap (λ b. if b then some_unless (is_some found) (hash_at H n d) else None) e) ∙ here in
            subst (Contains known) (sym (ap (λ b. if b then unwrap_or found (info_of H no_tree) else info_of_face H (grafted_face H known n d)) e))
            (known-found found (hash_at H n d) (info_of H no_tree) (λ x is. (find-Some _ known x is).1) told)

    found-upto : (o : Option ChildInfo) (there : Bool) (x k : ChildInfo) (hash : Hash256) → o ≡ (if there then Some x else None) → some_unless (is_some o) hash ≡ None → unwrap_or o k ≡ x
    found-upto o true x k hash is told = ap (λ p. unwrap_or p k) is
    found-upto o false x k hash is told = absurd (cc (sym told ∙ ap (λ p. some_unless (is_some p) hash) is))

    -- a hidden cell gives way to what it shows up to its depth
    hidden-upto : (q : Place) → IsReady H known old q → is_hidden q.depth (face_of H q.tree) ≡ true → info_at q ≡ upto q.depth (info_of H q.tree)
    hidden-upto q ready e = go q.tree q.depth ready.depth e ready.none
      where
        go : (n : Tree) (d : ℕ) → d ≤ 3 → is_hidden d (face_of H n) ≡ true → first_of (foreign_at H known) (places H n d) ≡ None → grafted_info H known n d ≡ upto d (info_of H n)
        go (cell exotic bits ns) d top e none =
            let n = cell exotic bits ns in
            let found = known_for known (info_of H n) d in
            let here : (if is_hidden d (face_of H n) then some_unless (is_some found) (hash_at H n d) else None) ≡ None = (or_parts _ _ none).0 in
            let told : some_unless (is_some found) (hash_at H n d) ≡ None = sym (ap (λ b. if b then some_unless (is_some found) (hash_at H n d) else None) e) ∙ here in
            ap (λ b. if b then unwrap_or found (info_of H no_tree) else info_of_face H (grafted_face H known n d)) e
            ∙ found-upto found (list_any (same_info (upto d (info_of H n))) known) (upto d (info_of H n)) (info_of H no_tree) (hash_at H n d) (known-as (info_of H n) d top known old) told

    -- a hidden cell is one that the known cell in its place stands for
    hidden-hides : (q : Place) → Contains (places H half 0) q → is_hidden q.depth (face_of H q.tree) ≡ true → hides H (info_at q) half ≡ true
    hidden-hides q in' e =
        let ready = ready-at q in' in
        let k = info_at q in
        let is_old : IsOldInfo k = All-contains IsOldInfo known k old (hidden-known q ready e) in
        let n = info_of H q.tree in
        let stands : stands_for n q.depth k ≡ true = stands-as n q.depth ready.depth k is_old ∙ (same_info-Decides (upto q.depth n) k).1 (sym (hidden-upto q ready e)) in
        Contains-list_any (hides_at H k) (places H half 0) q in' (and_from (is_hidden q.depth (face_of H q.tree)) (stands_for n q.depth k) e stands)

    -- and what an old cell shows that some hidden one is, is shown in a place
    pub hides-place : (k : ChildInfo) → IsOldInfo k → hides H k half ≡ true → (q : Place) × Contains (places H half 0) q × (info_at q ≡ k)
    hides-place k is_old e =
        let found = list_any-Contains (hides_at H k) (places H half 0) e in
        let q = found.0 in
        let n = info_of H q.tree in
        let both = and_parts (is_hidden q.depth (face_of H q.tree)) (stands_for n q.depth k) found.2 in
        let ready = ready-at q found.1 in
        (q, found.1, hidden-upto q ready both.0 ∙ (same_info-Decides (upto q.depth n) k).0 (sym (stands-as n q.depth ready.depth k is_old) ∙ both.1))

    -- what is known and stands for a hidden cell
    abbrev pub WasHidden : ChildInfo → Type 0
    WasHidden k = Contains known k × (hides H k half ≡ true)

    -- what is shown in a place is that of an own cell or known
    place-shown : (q : Place) → Contains (places H half 0) q → ((f : FaceView) × Contains faces f × (info_of_face H f ≡ info_at q)) ⊎ WasHidden (info_at q)
    place-shown q in' =
        let hidden = is_hidden q.depth (face_of H q.tree) in
        ⊎_elim
        (λ e. inr (hidden-known q (ready-at q in') e, hidden-hides q in' e))
        (λ e. inl (shown_at q, face-to q in' e, sym (info-of q e)))
        (true_or_false hidden)

    pub kids-shown : (f : FaceView) → Contains faces f → (k : ChildInfo) → Contains f.kids k → ((g : FaceView) × Contains faces g × (info_of_face H g ≡ k)) ⊎ WasHidden k
    kids-shown f h k kid =
        let from = face-from f h in
        let place = kid-place H known half 0 from.0 k from.1 from.2 (subst (λ (x : FaceView). Contains x.kids k) (sym from.3) kid) in
        subst (λ x. ((g : FaceView) × Contains faces g × (info_of_face H g ≡ x)) ⊎ WasHidden x) place.2 (place-shown place.0 place.1)

    pub root-shown : ((g : FaceView) × Contains faces g × (info_of_face H g ≡ root)) ⊎ WasHidden root
    root-shown = place-shown start (place-itself H half 0)

    -- the own cells in their order are what a prepared value keeps, below the grafted root
    pub valid-listing : (cells : List NewCell) → AreListed H faces cells → clash_of H faces ≡ None → (r : ChildInfo) (cs : List NewCell) → r ≡ root → cs ≡ cells → IsValid H r cs
    valid-listing cells listed clear r cs is are_cells =
        subst (λ x. IsValid H x cs) (sym is)
        (subst (IsValid H root) (sym are_cells)
        (IsValid-faces H faces cells listed root good-faces steady-kids (clear-faces H faces clear) parents root-is.0 root-is.2))
