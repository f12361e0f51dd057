-- The export text of a tree as a bag: its cells unfold to the distinct cells of the tree, and each number has room.
use Rattle.std.proofs.Common.{◌≡◌, ℕ, zero, suc, ◌+◌, ◌*◌, ◌^◌, ◌<◌, ◌≤◌, List, [], ◌∷◌, length, get_or, slice_index, drop, map, All, Contains, None, flat_map, refl, ap, ap₂, sym, ◌∙◌, subst, add-zero, arith}
use Rattle.std.proofs.lemmas.List.{length-append, length-map, get_or-map, get_or_default, drop_more, drop_all}
use Rattle.std.proofs.lemmas.List.Elements.{Contains-get_or, All-map, All-head, All-tail}
use Rattle.std.proofs.Math.Nat.{mul-le-mul_left}
use Rattle.cd_base.specs.declared.hash.Hash256.{Hash256}
use Rattle.cd_cell.specs.declared.new_cell.NewCell.{NewCell}
use Rattle.cd_cell.specs.Infos.{rep_of_info}
use Rattle.cd_cell.specs.Tree.{Tree, cell, Trees, no_trees, tree_and, trees_of, list_of, children, subtrees, info_of, infos_of, face_of, mask_of, rep_of, IsWellFormed}
use Rattle.cd_cell.specs.GoodFace.{IsGoodFace}
use Rattle.cd_cell.specs.Unfolding.{Entry, no_tree, behind, tree_of_entry, unfold_from, unfolding_of}
use Rattle.cd_cell.specs.Export.{distinct_cells, AreClashFree, IsClashFree}
use Rattle.cd_cell.specs.Listings.{no_cell, listed_at, new_cell_of}
use Rattle.cd_cell.proofs.Subtrees.{Contains-first, Contains-later, subtree-itself, flat_map-cases, flat_map-listed, info_of-face_of, subtrees-subtree, child-is-subtree, kids-face_of, well_formed-subtree, IsGoodFace-face_of}
use Rattle.cd_cell.proofs.Heights.{IsSteady-info_of}
use Rattle.cd_cell.proofs.Unfoldings.{behind-drop}
use Rattle.cd_cell.proofs.ExportOrder.{AreDistinct-distinct_cells, Contains-distinct_cells, distinct_cells-one_place, distinct_cells-later, distinct_cells-first}
use Rattle.cd_boc_write.specs.CellTexts.{Text, entries_of_texts, cell_text, texts_text}
use Rattle.cd_boc_write.specs.Exports.{width_of, place_among, refs_among, text_of_cell, export_texts, export_frame}
use Rattle.cd_boc_write.proofs.WidthLaws.{width_of-some, width_of-few, width_of-most, width_of-fits, width_of-room}
use Rattle.cd_boc_write.proofs.TextLaws.{length-cell_text, length-ends_from, ends_from-within}
use Rattle.cd_boc_write.proofs.KeyLaws.{place_among-first}

-- ---- listed cells whose children are listed behind them

module _ (H : List ℕ → Hash256) (cs : List Tree) (one : (i j : ℕ) → i < length cs → j < length cs → rep_of H (get_or cs i no_tree) ≡ rep_of H (get_or cs j no_tree) → i ≡ j) (later : (k : ℕ) (c : Tree) → k < length cs → Contains (children (get_or cs k no_tree)) c → (j : ℕ) × (k < j) × (j < length cs) × (get_or cs j no_tree ≡ c)) where
  abbrev cells : List NewCell
  cells = map (new_cell_of H) cs

  abbrev entries : List Entry
  entries = entries_of_texts (export_texts cells)

  listed : (k : ℕ) → k < length cs → listed_at cells k ≡ new_cell_of H (get_or cs k no_tree)
  listed k in' = get_or-map (new_cell_of H) cs k no_tree no_cell in'

  -- a listed cell is found at its place
  place : (j : ℕ) → j < length cs → place_among cells (rep_of H (get_or cs j no_tree)) ≡ j
  place j in' =
      place_among-first cells (rep_of H (get_or cs j no_tree)) j (omega (arith, length-map cs (new_cell_of H))) (ap (λ n. n.hash) (listed j in'))
      (λ k below same.
      let in-k : k < length cs = omega arith in
      let rep : rep_of H (get_or cs k no_tree) ≡ rep_of H (get_or cs j no_tree) = sym (ap (λ n. n.hash) (listed k in-k)) ∙ same in
      omega (arith, one k j in-k in' rep))

  place_among-cell : (c : Tree) (j : ℕ) → j < length cs → get_or cs j no_tree ≡ c → place_among cells (rep_of H c) ≡ j
  place_among-cell c j in' at = ap (λ t. place_among cells (rep_of H t)) (sym at) ∙ place j in'

  -- the children of cell k, looked up behind it
  found : (k : ℕ) (ts : Trees) → ((c : Tree) → Contains (list_of ts) c → (j : ℕ) × (k < j) × (j < length cs) × (get_or cs j no_tree ≡ c)) → trees_of (map (behind k (drop (k + 1) cs) no_tree) (refs_among cells (infos_of H ts))) ≡ ts
  found k no_trees there = refl
  found k (tree_and t ts) there =
      let at = there t (Contains-first t (list_of ts)) in
      let first : behind k (drop (k + 1) cs) no_tree (place_among cells (rep_of H t)) ≡ t =
      ap (behind k (drop (k + 1) cs) no_tree) (place_among-cell t at.0 at.2 at.3) ∙ behind-drop k cs no_tree no_tree at.0 at.1 at.2 ∙ at.3
      in
      ap₂ tree_and first (found k ts (λ c h. there c (Contains-later t (list_of ts) c h)))

  abbrev entry_of_tree : Tree → Entry
  entry_of_tree c = (text_of_cell cells (new_cell_of H c)).entry

  whole : (k : ℕ) (t : Tree) → ((c : Tree) → Contains (children t) c → (j : ℕ) × (k < j) × (j < length cs) × (get_or cs j no_tree ≡ c)) → tree_of_entry k (entry_of_tree t) (drop (k + 1) cs) ≡ t
  whole k (cell exotic bits ts) there = ap (cell exotic bits) (found k ts there)

  count : length entries ≡ length cs
  count = length-map (export_texts cells) (λ t. t.entry) ∙ length-map cells (text_of_cell cells) ∙ length-map cs (new_cell_of H)

  pub text-at : (k : ℕ) (d : Text) → k < length cs → get_or (export_texts cells) k d ≡ text_of_cell cells (new_cell_of H (get_or cs k no_tree))
  text-at k d in' =
      get_or-map (text_of_cell cells) cells k no_cell d (omega (arith, length-map cs (new_cell_of H))) ∙ ap (text_of_cell cells) (listed k in')

  entry-at : (k : ℕ) (d : Entry) → k < length cs → get_or entries k d ≡ entry_of_tree (get_or cs k no_tree)
  entry-at k d in' =
      let texts : length (export_texts cells) ≡ length cs = length-map cells (text_of_cell cells) ∙ length-map cs (new_cell_of H) in
      get_or-map (λ t. t.entry) (export_texts cells) k (text_of_cell cells no_cell) d (omega (arith, texts))
      ∙ ap (λ t. t.entry) (text-at k (text_of_cell cells no_cell) in')

  unfold-rest : (m k : ℕ) → m + k ≡ length cs → unfold_from k (drop k entries) ≡ drop k cs
  unfolding unfold_from
  unfold-rest zero k e =
      let none : drop k entries ≡ [] = drop_all k entries (omega (arith, count)) in
      ap (unfold_from k) none ∙ sym (drop_all k cs (omega arith))
  unfold-rest (suc m) k e =
      let in' : k < length cs = omega arith in
      let c = get_or cs k no_tree in
      let d = entry_of_tree no_tree in
      let here : drop k entries ≡ entry_of_tree c ∷ drop (k + 1) entries =
      drop_more entries k d (omega (arith, count)) ∙ ap (λ x. x ∷ drop (k + 1) entries) (entry-at k d in')
      in
      ap (unfold_from k) here
      ∙ ap (λ ts. tree_of_entry k (entry_of_tree c) ts ∷ ts) (unfold-rest m (k + 1) (omega arith))
      ∙ ap (λ x. x ∷ drop (k + 1) cs) (whole k c (λ x h. later k x in' h))
      ∙ sym (drop_more cs k no_tree in')

  -- the texts describe the cells
  pub unfold_from-listed : unfold_from 0 (entries_of_texts (export_texts (map (new_cell_of H) cs))) ≡ cs
  unfold_from-listed = unfold-rest (length cs) 0 (add-zero (length cs))

  -- each reference names a later cell
  refs-children : (c : Tree) → refs_among cells (face_of H c).kids ≡ map (λ x. place_among cells (rep_of H x)) (children c)
  refs-children c = ap (refs_among cells) (kids-face_of H c) ∙ map-both (children c)
    where
      map-both : (xs : List Tree) → refs_among cells (map (info_of H) xs) ≡ map (λ x. place_among cells (rep_of H x)) xs
      map-both [] = refl
      map-both (x ∷ xs) = ap (λ rs. place_among cells (rep_of H x) ∷ rs) (map-both xs)

  pub refs-later : (k p : ℕ) (d : Text) → k < length cs → p < length (get_or (export_texts cells) k d).entry.refs → (k < slice_index (get_or (export_texts cells) k d).entry.refs p) × (slice_index (get_or (export_texts cells) k d).entry.refs p < length cs)
  refs-later k p d in' in-refs =
      let c = get_or cs k no_tree in
      let refs : (get_or (export_texts cells) k d).entry.refs ≡ map (λ x. place_among cells (rep_of H x)) (children c) =
      ap (λ t. t.entry.refs) (text-at k d in') ∙ refs-children c
      in
      let in-children : p < length (children c) = omega (arith, ap length refs, length-map (children c) (λ x. place_among cells (rep_of H x))) in
      let x = get_or (children c) p no_tree in
      let there = later k x in' (Contains-get_or (children c) p no_tree in-children) in
      let at : slice_index (get_or (export_texts cells) k d).entry.refs p ≡ there.0 =
      ap (λ rs. slice_index rs p) refs ∙ get_or-map (λ y. place_among cells (rep_of H y)) (children c) p no_tree 0 in-children ∙ place_among-cell x there.0 there.2 there.3
      in
      (omega (arith, at, there.1), omega (arith, at, there.2))

-- ---- the cells of a tree

module _ (H : List ℕ → Hash256) (t : Tree) (good : IsWellFormed H t) (clear : IsClashFree H t) where
  abbrev all_cells : List Tree
  all_cells = distinct_cells H t

  abbrev bag_cells : List NewCell
  bag_cells = map (new_cell_of H) (distinct_cells H t)

  one_place : (i j : ℕ) → i < length all_cells → j < length all_cells → rep_of H (get_or all_cells i no_tree) ≡ rep_of H (get_or all_cells j no_tree) → i ≡ j
  one_place = distinct_cells-one_place H t clear no_tree

  child-later : (k : ℕ) (c : Tree) → k < length all_cells → Contains (children (get_or all_cells k no_tree)) c → (j : ℕ) × (k < j) × (j < length all_cells) × (get_or all_cells j no_tree ≡ c)
  child-later k c in' child =
      let parent = get_or all_cells k no_tree in
      let inside = (AreDistinct-distinct_cells H t).within parent (Contains-get_or all_cells k no_tree in') in
      let there = Contains-distinct_cells H t clear c (subtrees-subtree t parent c inside (child-is-subtree parent c child)) in
      let at : get_or all_cells there.0 no_tree ≡ c = get_or_default all_cells there.0 no_tree c there.1 ∙ there.2 in
      let behind_it : k < there.0 = distinct_cells-later H t clear good no_tree k there.0 in' there.1 (subst (Contains (children parent)) (sym at) child) in
      (there.0, behind_it, there.1, at)

  -- the texts of the export unfold to exactly the distinct cells
  pub unfold_from-bag : unfold_from 0 (entries_of_texts (export_texts (map (new_cell_of H) (distinct_cells H t)))) ≡ distinct_cells H t
  unfold_from-bag = unfold_from-listed H all_cells one_place child-later

  pub unfolding_of-bag : (k : ℕ) → unfolding_of (entries_of_texts (export_texts (map (new_cell_of H) (distinct_cells H t)))) k ≡ get_or (distinct_cells H t) k no_tree
  unfolding_of-bag k = ap (λ ts. get_or ts k no_tree) unfold_from-bag

  -- and the root to the tree
  pub unfolding_of-bag_root : unfolding_of (entries_of_texts (export_texts (map (new_cell_of H) (distinct_cells H t)))) 0 ≡ t
  unfolding_of-bag_root = unfolding_of-bag 0 ∙ distinct_cells-first H t clear good no_tree

  pub text-bag : (k : ℕ) (d : Text) → k < length (distinct_cells H t) → get_or (export_texts (map (new_cell_of H) (distinct_cells H t))) k d ≡ text_of_cell (map (new_cell_of H) (distinct_cells H t)) (new_cell_of H (get_or (distinct_cells H t) k no_tree))
  text-bag = text-at H all_cells one_place child-later

  pub refs-bag : (k p : ℕ) (d : Text) → k < length (distinct_cells H t) → p < length (get_or (export_texts (map (new_cell_of H) (distinct_cells H t))) k d).entry.refs → (k < slice_index (get_or (export_texts (map (new_cell_of H) (distinct_cells H t))) k d).entry.refs p) × (slice_index (get_or (export_texts (map (new_cell_of H) (distinct_cells H t))) k d).entry.refs p < length (distinct_cells H t))
  refs-bag = refs-later H all_cells one_place child-later

  -- each of its cells is well-formed
  pub well_formed-bag : (k : ℕ) → k < length (distinct_cells H t) → IsWellFormed H (get_or (distinct_cells H t) k no_tree)
  well_formed-bag k in' = well_formed-subtree H t (get_or all_cells k no_tree) good ((AreDistinct-distinct_cells H t).within (get_or all_cells k no_tree) (Contains-get_or all_cells k no_tree in'))

  pub good-bag : All (λ c. IsGoodFace c.face) (map (new_cell_of H) (distinct_cells H t))
  good-bag =
      All-map (λ c. IsGoodFace c.face) (new_cell_of H) all_cells
      (λ k d in'. subst (λ x. IsGoodFace (face_of H x)) (get_or_default all_cells k no_tree d in') (IsGoodFace-face_of H (get_or all_cells k no_tree) (well_formed-bag k in')))

  -- the root is one of them
  pub some-bag : 0 < length (distinct_cells H t)
  some-bag = omega (arith, (Contains-distinct_cells H t clear t (subtree-itself t)).1)

  -- what the texts state: bits and children are few, the mask is the cell's, and nothing is stored
  pub few_bits-bag : (k : ℕ) (d : Text) → k < length (distinct_cells H t) → length (get_or (export_texts (map (new_cell_of H) (distinct_cells H t))) k d).entry.bits ≤ 1023
  few_bits-bag k d in' =
      let face = IsGoodFace-face_of H (get_or all_cells k no_tree) (well_formed-bag k in') in
      omega (arith, ap (λ x. length x.entry.bits) (text-bag k d in'), face.bits)

  pub few_refs-bag : (k : ℕ) (d : Text) → k < length (distinct_cells H t) → length (get_or (export_texts (map (new_cell_of H) (distinct_cells H t))) k d).entry.refs ≤ 4
  few_refs-bag k d in' =
      let c = get_or all_cells k no_tree in
      let face = IsGoodFace-face_of H c (well_formed-bag k in') in
      omega (arith, ap (λ x. length x.entry.refs) (text-bag k d in'), length-map (face_of H c).kids (λ kid. place_among bag_cells (rep_of_info kid)), face.kids)

  pub mask-bag : (k : ℕ) (d : Text) → k < length (distinct_cells H t) → mask_of H (get_or (distinct_cells H t) k no_tree) ≡ (get_or (export_texts (map (new_cell_of H) (distinct_cells H t))) k d).mask
  mask-bag k d in' = ap (λ i. i.mask) (info_of-face_of H (get_or all_cells k no_tree)) ∙ sym (ap (λ x. x.mask) (text-bag k d in'))

  pub small_mask-bag : (k : ℕ) (d : Text) → k < length (distinct_cells H t) → (get_or (export_texts (map (new_cell_of H) (distinct_cells H t))) k d).mask ≤ 7
  small_mask-bag k d in' = omega (arith, mask-bag k d in', (IsSteady-info_of H (get_or all_cells k no_tree) (well_formed-bag k in')).small)

  pub stored-bag : (k : ℕ) (d : Text) → k < length (distinct_cells H t) → (get_or (export_texts (map (new_cell_of H) (distinct_cells H t))) k d).stored ≡ None
  stored-bag k d in' = ap (λ x. x.stored) (text-bag k d in')

  -- the cells are free of clashes, each with all below it
  pub clear-bag : AreClashFree H (distinct_cells H t)
  clear-bag a b in-a in-b rep =
      let inside : (s : Tree) → Contains (flat_map subtrees all_cells) s → Contains (flat_map subtrees (t ∷ [])) s =
      λ s h.
      let found = flat_map-cases all_cells s h in
      flat_map-listed (t ∷ []) t s (Contains-first t []) (subtrees-subtree t found.0 s ((AreDistinct-distinct_cells H t).within found.0 found.1) found.2)
      in
      clear a b (inside a in-a) (inside b in-b) rep

-- ---- room for each number

module _ (cells : List NewCell) (few : length cells ≤ 1048576) (good : All (λ c. IsGoodFace c.face) cells) where
  size_is : (export_frame cells).shape.size ≡ width_of (length cells)
  unfolding export_frame
  size_is = refl

  off_bytes_is : (export_frame cells).shape.off_bytes ≡ width_of (length (export_frame cells).cell_data)
  unfolding export_frame
  off_bytes_is = refl

  -- no text is longer than 146 bytes
  texts-low : (ns : List NewCell) → All (λ c. IsGoodFace c.face) ns → length (texts_text (width_of (length cells)) (map (text_of_cell cells) ns)) ≤ 146 * length ns
  texts-low [] all = omega arith
  texts-low (c ∷ ns) all =
      let size = width_of (length cells) in
      let face = All-head (λ x. IsGoodFace x.face) c ns all in
      let refs = refs_among cells c.face.kids in
      let narrow : size ≤ 3 = width_of-few (length cells) few in
      let four : length refs ≤ 4 = omega (arith, face.kids, length-map c.face.kids (λ kid. place_among cells (rep_of_info kid))) in
      omega (arith, length-append (cell_text size (text_of_cell cells c)) (texts_text size (map (text_of_cell cells) ns)), length-cell_text size c.face refs, face.bits, four, mul-le-mul_left (length refs) narrow, texts-low ns (All-tail (λ x. IsGoodFace x.face) c ns all))

  data-low : length (export_frame cells).cell_data ≤ 146 * length cells
  unfolding export_frame
  data-low = texts-low cells good

  pub some_size : 1 ≤ (export_frame cells).shape.size
  some_size = omega (arith, size_is, width_of-some (length cells))

  pub most_size : (export_frame cells).shape.size ≤ 4
  most_size = omega (arith, size_is, width_of-few (length cells) few)

  pub some_off_bytes : 1 ≤ (export_frame cells).shape.off_bytes
  some_off_bytes = omega (arith, off_bytes_is, width_of-some (length (export_frame cells).cell_data))

  pub most_off_bytes : (export_frame cells).shape.off_bytes ≤ 8
  most_off_bytes = omega (arith, off_bytes_is, width_of-most (length (export_frame cells).cell_data))

  pub cells_fit : length cells < 256 ^ (export_frame cells).shape.size
  cells_fit = subst (λ s. length cells < 256 ^ s) (sym size_is) (width_of-fits (length cells) few)

  pub data_fits : length (export_frame cells).cell_data < 256 ^ (export_frame cells).shape.off_bytes
  data_fits =
      let bytes = length (export_frame cells).cell_data in
      subst (λ s. bytes < 256 ^ s) (sym off_bytes_is) (width_of-room bytes (omega (arith, data-low, few)))

  pub index_fits : (p : ℕ) → p < length (export_frame cells).index → slice_index (export_frame cells).index p < 256 ^ (export_frame cells).shape.off_bytes
  unfolding export_frame
  index_fits p in' =
      let size = width_of (length cells) in
      let inside : p < length (export_texts cells) = omega (arith, length-ends_from size 0 (export_texts cells)) in
      omega (arith, ends_from-within size 0 (export_texts cells) p inside, data_fits)
