-- Laws of own cells that are listed: faces without clashes, sorted by what they show.
use Rattle.std.proofs.Common.{◌≡◌, ℕ, ◌<◌, ◌≤◌, Bool, true, List, length, get_or, map, take, All, Contains, Less, refl, ap, ap₂, sym, ◌∙◌, subst, ⊎_elim, ◌⊎◌, get_or-take, arith}
use Rattle.std.specs.List.{list_any}
use Rattle.std.specs.Ordering.{ordering_then}
use Rattle.std.specs.Cmp.{IsTotalOrder}
use Rattle.std.proofs.lemmas.Bool.{or_left, or_right}
use Rattle.std.proofs.lemmas.Cmp.{then_total, back_total, on_total, nat_cmp_total, tied_itself}
use Rattle.std.proofs.lemmas.List.{length-map, get_or-map, get_or_default, length-take-le}
use Rattle.std.proofs.lemmas.List.Folds.{list_any_at}
use Rattle.std.proofs.lemmas.List.Elements.{Contains-get_or, Contains-append_left}
use Rattle.cd_base.specs.declared.hash.Hash256.{Hash256}
use Rattle.cd_cell.specs.declared.info.ChildInfo.{ChildInfo}
use Rattle.cd_cell.specs.declared.new_cell.NewCell.{NewCell}
use Rattle.cd_cell.specs.FaceView.{FaceView}
use Rattle.cd_cell.specs.Infos.{no_hash, height_of_info}
use Rattle.cd_cell.specs.CellFaults.{no_info}
use Rattle.cd_cell.specs.Levels.{info_of_face, rep_of_face, height_of_face}
use Rattle.cd_cell.specs.Steady.{IsSteady}
use Rattle.cd_cell.specs.GoodFace.{IsGoodFace}
use Rattle.cd_cell.specs.Tree.{Tree, info_of}
use Rattle.cd_cell.specs.Equality.{same_info, same_info-Decides}
use Rattle.cd_cell.specs.Bags.{no_face, face_at}
use Rattle.cd_cell.specs.Export.{hash_cmp}
use Rattle.cd_cell.specs.Listings.{no_cell, listed_at, listing_cmp, info_of_new, is_named, IsValid, old_cells, known_infos, Fits}
use Rattle.cd_cell.proofs.Subtrees.{Contains-mapped}
use Rattle.cd_cell.proofs.Heights.{height_of_face-kid}
use Rattle.cd_cell.proofs.Distinct.{before-rising, one_place-rising}
use Rattle.cd_cell.proofs.ExportOrder.{hash_cmp-total}
use Rattle.cd_cell.specs.declared.export_key.ExportKey.{ExportKey}
use Rattle.cd_cell.specs.Keys.{rank_cmp, export_key, AreFirst}
use Rattle.cd_prepare.specs.Keys.{cell_of_key}
use Rattle.cd_prepare.specs.NewCells.{AreKeys, new_cell_with, AreListed}
use Rattle.cd_prepare.proofs.ListLaws.{turned-heights, height_higher}

pub listing_cmp-total : IsTotalOrder listing_cmp
listing_cmp-total = then_total (back_total (on_total (λ (c : NewCell). height_of_face c.face) nat_cmp_total)) (on_total (λ (c : NewCell). c.hash) hash_cmp-total)

module _ (H : List ℕ → Hash256) (faces : List FaceView) where
  -- equal reps have equal faces
  abbrev pub AreClear : Type 0
  AreClear = (f g : FaceView) → Contains faces f → Contains faces g → rep_of_face H f ≡ rep_of_face H g → f ≡ g

  -- ---- sorted keys

  module _ (good : (f : FaceView) → Contains faces f → IsGoodFace f) (infos : List ChildInfo) (shown : infos ≡ map (info_of_face H) faces) (old new : List ExportKey) (are : AreKeys infos old (length infos)) (sorted : AreFirst old new) where
    long : length infos ≡ length faces
    long = ap length shown ∙ length-map faces (info_of_face H)

    abbrev entry_key_at : ℕ → ExportKey
    entry_key_at k = export_key (info_of_face H (face_at faces k)) k

    made-at : (k : ℕ) (d : ExportKey) → k < length faces → get_or old k d ≡ entry_key_at k
    made-at k d in' =
        are.made k d (omega (arith, long))
        ∙ ap (λ (i : ChildInfo). export_key i k) (ap (λ is. get_or is k no_info) shown ∙ get_or-map (info_of_face H) faces k no_face no_info in')

    old-key : (key : ExportKey) → Contains old key → (key.number < length faces) × (key ≡ entry_key_at key.number)
    old-key key h =
        let k = h.0 in
        let in' : k < length faces = omega (arith, h.1, are.counted, long) in
        let is : key ≡ entry_key_at k = sym h.2 ∙ made-at k key in' in
        let number : key.number ≡ k = ap (λ (x : ExportKey). x.number) is in
        (omega (arith, number, in'), is ∙ ap entry_key_at (sym number))

    abbrev face_of : ExportKey → FaceView
    face_of key = face_at faces key.number

    face-in : (key : ExportKey) → Contains new key → Contains faces (face_of key)
    face-in key h = Contains-get_or faces key.number no_face (old-key key (sorted.within key h)).0

    pub keys-there : All (λ (key : ExportKey). key.number < length faces) new
    keys-there k d in' = (old-key (get_or new k d) (sorted.within (get_or new k d) (Contains-get_or new k d in'))).0

    cell-is : (key : ExportKey) → Contains new key → cell_of_key faces key ≡ new_cell_with H (face_of key)
    cell-is key h = ap (λ x. let c : NewCell = record { hash = x; face = face_of key } in c) (ap (λ (k : ExportKey). k.rank.hash) (old-key key (sorted.within key h)).1)

    low : (f : FaceView) → Contains faces f → height_of_face f ≤ 1024
    low f h = (good f h).fit.depths 3 (omega arith)

    ranked : (a b : ExportKey) → Contains new a → Contains new b → rank_cmp a.rank b.rank ≡ listing_cmp (cell_of_key faces a) (cell_of_key faces b)
    ranked a b in-a in-b =
        let f = face_of a in
        let g = face_of b in
        ap₂ rank_cmp (ap (λ (k : ExportKey). k.rank) (old-key a (sorted.within a in-a)).1) (ap (λ (k : ExportKey). k.rank) (old-key b (sorted.within b in-b)).1)
        ∙ ap (λ o. ordering_then o (hash_cmp (rep_of_face H f) (rep_of_face H g))) (turned-heights (height_of_face f) (height_of_face g) (low f (face-in a in-a)) (low g (face-in b in-b)))
        ∙ ap₂ listing_cmp (sym (cell-is a in-a)) (sym (cell-is b in-b))

    abbrev no_key : ExportKey
    no_key = record { rank = record { lowness = 0; hash = no_hash }; number = 0 }

    pub AreListed-sorted : AreClear → AreListed H faces (map (cell_of_key faces) new)
    AreListed-sorted clear = record {
      ordered = λ i j d before in-j.
          let in-new : j < length new = omega (arith, length-map new (cell_of_key faces)) in
          let a = get_or new i no_key in
          let b = get_or new j no_key in
          ap₂ listing_cmp (get_or-map (cell_of_key faces) new i no_key d (omega arith)) (get_or-map (cell_of_key faces) new j no_key d in-new)
          ∙ sym (ranked a b (Contains-get_or new i no_key (omega arith)) (Contains-get_or new j no_key in-new))
          ∙ sorted.ordered i j no_key before in-new;
      within = λ c h.
          let k = h.0 in
          let in-new : k < length new = omega (arith, h.1, length-map new (cell_of_key faces)) in
          let key = get_or new k no_key in
          let in-keys = Contains-get_or new k no_key in-new in
          (face_of key, face-in key in-keys, sym h.2 ∙ get_or-map (cell_of_key faces) new k no_key c in-new ∙ cell-is key in-keys);
      whole = λ f h.
          let k = h.0 in
          let at : face_at faces k ≡ f = get_or_default faces k no_face f h.1 ∙ h.2 in
          let in-old : Contains old (entry_key_at k) = subst (Contains old) (made-at k no_key h.1) (Contains-get_or old k no_key (omega (arith, h.1, long, are.counted))) in
          let kept = sorted.whole (entry_key_at k) in-old in
          let key = kept.0 in
          let reps : rep_of_face H (face_of key) ≡ rep_of_face H f =
          ap (λ (x : ExportKey). x.rank.hash) (sym (old-key key (sorted.within key kept.1)).1) ∙ ap (λ r. r.hash) kept.2 ∙ ap (rep_of_face H) at
          in
          let same = clear (face_of key) f (face-in key kept.1) h reps in
          subst (Contains (map (cell_of_key faces) new)) (cell-is key kept.1 ∙ ap (new_cell_with H) same) (Contains-mapped (cell_of_key faces) new key kept.1);
    }

  -- ---- what listed faces are

  -- a face is the root's, or one has it as a kid
  abbrev pub HasParent : ChildInfo → FaceView → Type 0
  HasParent root f = (info_of_face H f ≡ root) ⊎ ((g : FaceView) × Contains faces g × Contains g.kids (info_of_face H f))

  module _ (cells : List NewCell) (listed : AreListed H faces cells) where
    cell-at : (k : ℕ) → k < length cells → (face : FaceView) × Contains faces face × (listed_at cells k ≡ new_cell_with H face)
    cell-at k in' = listed.within (listed_at cells k) (Contains-get_or cells k no_cell in')

    module _ (root : ChildInfo) (good : (f : FaceView) → Contains faces f → IsGoodFace f) (steady : (f : FaceView) → Contains faces f → All IsSteady f.kids) (clear : AreClear) (parents : (f : FaceView) → Contains faces f → HasParent root f) where
      named : (k : ℕ) (f : FaceView) → k < length cells → Contains faces f → listed_at cells k ≡ new_cell_with H f → HasParent root f → is_named H root (take k cells) (info_of_face H f) ≡ true
      named k f in' in-f at parent =
          let info = info_of_face H f in
          let has_kid : NewCell → Bool = λ n. list_any (same_info info) n.face.kids in
          ⊎_elim
          (λ same. or_left (same_info info root) (list_any has_kid (take k cells)) ((same_info-Decides info root).1 same))
          (λ parent.
          let g = parent.0 in
          let place = listed.whole g parent.1 in
          let j = place.0 in
          let at_g : listed_at cells j ≡ new_cell_with H g = get_or_default cells j no_cell (new_cell_with H g) place.1 ∙ place.2 in
          let kid = parent.2 in
          let in-kids = kid.1 in
          let kid_steady : IsSteady info = subst IsSteady kid.2 (steady g parent.1 kid.0 info in-kids) in
          let lower : height_of_face f < height_of_face g = height_of_face-kid g (good g parent.1).fit info kid kid_steady in
          let less : listing_cmp (listed_at cells j) (listed_at cells k) ≡ Less =
          ap₂ listing_cmp at_g at ∙ height_higher (height_of_face g) (height_of_face f) (hash_cmp (rep_of_face H g) (rep_of_face H f)) lower
          in
          let before : j < k = before-rising listing_cmp listing_cmp-total cells no_cell listed.ordered j k place.1 in' less in
          let here : listed_at (take k cells) j ≡ new_cell_with H g = get_or-take k cells j no_cell before ∙ at_g in
          let shows : list_any (same_info info) g.kids ≡ true =
          list_any_at (same_info info) g.kids kid.0 info in-kids ((same_info-Decides info (get_or g.kids kid.0 info)).1 (sym kid.2))
          in
          or_right (same_info info root) (list_any has_kid (take k cells))
          (list_any_at has_kid (take k cells) j no_cell (omega (arith, length-take-le k cells (omega arith))) (ap has_kid here ∙ shows)))
          parent

      pub IsValid-faces : root.mask ≡ 0 → height_of_info root ≤ 1024 → IsValid H root cells
      IsValid-faces plain shallow =
          record {
            good = λ k in'. let c = cell-at k in' in subst (λ (n : NewCell). IsGoodFace n.face) (sym c.2) (good c.0 c.1);
            masks = λ k d in'.
                let c = listed.within (get_or cells k d) (Contains-get_or cells k d in') in
                subst (λ (n : NewCell). All (λ i. i.mask ≤ 7) n.face.kids) (sym c.2) (λ p e in-kids. (steady c.0 c.1 p e in-kids).small);
            hashed = λ k in'. let c = cell-at k in' in subst (λ (n : NewCell). n.hash ≡ rep_of_face H n.face) (sym c.2) refl;
            ordered = listed.ordered;
            distinct = λ i j in-i in-j hashes.
                let a = cell-at i in-i in
                let b = cell-at j in-j in
                let reps : rep_of_face H a.0 ≡ rep_of_face H b.0 = ap (λ (n : NewCell). n.hash) (sym a.2) ∙ hashes ∙ ap (λ (n : NewCell). n.hash) b.2 in
                let same : listed_at cells i ≡ listed_at cells j = a.2 ∙ ap (new_cell_with H) (clear a.0 b.0 a.1 b.1 reps) ∙ sym b.2 in
                one_place-rising listing_cmp listing_cmp-total cells no_cell listed.ordered i j in-i in-j
                (ap (listing_cmp (listed_at cells i)) (sym same) ∙ tied_itself listing_cmp-total (listed_at cells i));
            reached = λ k in'.
                let c = cell-at k in' in
                subst (λ info. is_named H root (take k cells) info ≡ true) (ap (info_of_new H) (sym c.2)) (named k c.0 in' c.1 c.2 (parents c.0 c.1));
            plain = plain;
            shallow = shallow;
          }

    -- what a listed face shows is known
    pub known-listed : (old : List Tree) (f : FaceView) → Contains faces f → Contains (known_infos H cells old) (info_of_face H f)
    known-listed old f h = Contains-append_left (map (info_of_new H) cells) (map (info_of H) (old_cells old)) (info_of_face H f) (Contains-mapped (info_of_new H) cells (new_cell_with H f) (listed.whole f h))

    pub Fits-faces : (root : ChildInfo) (old : List Tree) → Contains (known_infos H cells old) root → ((f : FaceView) → Contains faces f → (k : ChildInfo) → Contains f.kids k → Contains (known_infos H cells old) k) → Fits H root cells old
    Fits-faces root old top kids = record {
      top = top;
      kids = λ k d in-cells.
          let c = listed.within (get_or cells k d) (Contains-get_or cells k d in-cells) in
          subst (λ (n : NewCell). All (Contains (known_infos H cells old)) n.face.kids) (sym c.2)
          (λ p e in-kids. kids c.0 c.1 (get_or c.0.kids p e) (Contains-get_or c.0.kids p e in-kids));
    }
