-- What the plan of an export says of its text.
use Rattle.std.proofs.Common.{◌≡◌, ℕ, zero, suc, ◌+◌, ◌-◌, ◌≤◌, ◌<◌, ◌^◌, List, [], ◌∷◌, ◌++◌, length, take, map, get_or, Option, Some, refl, sym, ap, ◌∙◌, subst, arith, length-append, append-nil, append_assoc, add-one, zero-add, drop, true, inl, inr, lit<}
use Rattle.std.specs.Prelude.{slice_index, slice_index_or, All}
use Rattle.std.proofs.lemmas.Bool.{cases_lt}
use Rattle.std.proofs.lemmas.Bool.Decides.{nat_tests}
use Rattle.std.proofs.lemmas.List.{length-map, get_or-map, take_more, take_all, take_at, take-append-drop, drop_at, map-append, length_push, get_or_push, get_or_append_left}
use Rattle.std.proofs.lemmas.List.Elements.{Contains-get_or, All-nil, All-push}
use Rattle.cd_base.specs.declared.hash.Hash256.{Hash256}
use Rattle.cd_cell.specs.declared.info.ChildInfo.{ChildInfo}
use Rattle.cd_cell.specs.declared.new_cell.NewCell.{NewCell}
use Rattle.cd_cell.specs.FaceView.{FaceView}
use Rattle.cd_cell.specs.Infos.{no_hash}
use Rattle.cd_cell.specs.Tree.{Tree, rep_of}
use Rattle.cd_cell.specs.Unfolding.{no_tree}
use Rattle.cd_cell.specs.Export.{distinct_cells}
use Rattle.cd_cell.specs.Listings.{listed_at, new_cell_of, no_cell}
use Rattle.cd_cell.proofs.ExportOrder.{AreDistinct-distinct_cells}
use Rattle.cd_boc_write.specs.declared.layout.Layout.{Layout}
use Rattle.cd_boc_write.specs.CellTexts.{Text, cell_text, texts_text, ends_from}
use Rattle.cd_base.specs.Checksum.{crc32c}
use Rattle.cd_base.specs.Numbers.{little}
use Rattle.cd_base.proofs.NumberLaws.{length-little}
use Rattle.cd_boc_write.specs.Frames.{body_text}
use Rattle.cd_boc_write.proofs.HeaderLaws.{export_text-parts, body_text-export, data_len-export, length-export_text}
use Rattle.cd_boc_write.specs.Exports.{width_of, text_of_face, text_of_cell, export_texts, export_frame, export_text, header_of}
use Rattle.cd_boc_write.specs.Layouts.{data_len, start_of, IsLayout}
use Rattle.cd_boc_write.specs.LayoutOf.{IsLayoutOf}
use Rattle.cd_boc_write.proofs.WidthLaws.{width_of-fits}
use Rattle.cd_boc_write.proofs.LayingLaws.{size_of-layout}
use Rattle.cd_boc_write.proofs.TextLaws.{length-ends_from, texts_text-push, texts_text-append}
use Rattle.cd_looks.specs.Answers.{IsFaceAt}
use Rattle.cd_slices.specs.declared.export.Export.{Export}
use Rattle.cd_slices.specs.declared.export.PlannedCell.{PlannedCell}
use Rattle.cd_slices.specs.Windows.{filled, window}
use Rattle.cd_slices.specs.Planned.{IsPlanOf, AreRefsOf, is_met}
use Rattle.cd_slices.specs.Numbering.{AreNumbered}
use Rattle.cd_slices.proofs.WindowLaws.{filled-whole, window-before, window-behind, window-append}

-- a text ends where it and those before it end
ends_from-at : (size start : ℕ) (ts : List Text) (k : ℕ) → k < length ts → get_or (ends_from size start ts) k 0 ≡ start + length (texts_text size (take (suc k) ts))
unfolding ends_from
ends_from-at size start [] k in' = absurd (omega arith)
ends_from-at size start (t ∷ ts) zero in' = ap (λ (n : ℕ). start + n) (ap length (sym (append-nil (cell_text size t))))
ends_from-at size start (t ∷ ts) (suc k) in' =
    let more = length-append (cell_text size t) (texts_text size (take (suc k) ts)) in
    ends_from-at size (start + length (cell_text size t)) ts k (omega arith) ∙ omega (arith, more)

-- there is an end for each cell
pub layout-count : (cells : List NewCell) (layout : Layout) → IsLayoutOf cells layout → length layout.ends ≡ length cells
unfolding export_frame
layout-count cells layout is = ap length (sym is.index) ∙ (length-ends_from (width_of (length cells)) 0 (export_texts cells) ∙ length-map cells (text_of_cell cells))

module _ (cells : List NewCell) (export : Export) (is : IsPlanOf cells export) where
  abbrev texts : List Text
  texts = export_texts cells

  abbrev size : ℕ
  size = export.layout.size

  pub size_is : size ≡ width_of (length cells)
  size_is = size_of-layout cells export.layout is.layout

  pub ends_are : export.layout.ends ≡ ends_from size 0 texts
  unfolding export_frame
  ends_are = sym is.layout.index ∙ ap (λ (s : ℕ). ends_from s 0 texts) (sym size_is)

  pub data_is : (export_frame cells).cell_data ≡ texts_text size texts
  unfolding export_frame
  data_is = ap (λ (s : ℕ). texts_text s texts) (sym size_is)

  pub count_is : length export.layout.ends ≡ length cells
  count_is = layout-count cells export.layout is.layout

  pub texts_count : length texts ≡ length cells
  texts_count = length-map cells (text_of_cell cells)

  pub end_is : (k : ℕ) → k < length export.layout.ends → slice_index export.layout.ends k ≡ length (texts_text size (take (suc k) texts))
  end_is k in' = ap (λ (es : List ℕ). slice_index es k) ends_are ∙ (ends_from-at size 0 texts k (omega (arith, count_is, texts_count)) ∙ zero-add (length (texts_text size (take (suc k) texts))))

  pub start_is : (k : ℕ) → k ≤ length export.layout.ends → start_of export.layout.ends k ≡ length (texts_text size (take k texts))
  start_is zero in' = refl
  start_is (suc k) in' = end_is k (omega arith)

  pub text_at : (k : ℕ) → k < length export.layout.ends → texts_text size (take (k + 1) texts) ≡ texts_text size (take k texts) ++ cell_text size (text_of_cell cells (listed_at cells k))
  text_at k in' =
      let low : k < length texts = omega (arith, count_is, texts_count) in
      ap (texts_text size) (take_more texts k (text_of_cell cells no_cell) low
      ∙ ap (λ (t : Text). take k texts ++ t ∷ []) (get_or-map (text_of_cell cells) cells k no_cell (text_of_cell cells no_cell) (omega (arith, count_is))))
      ∙ texts_text-push size (take k texts) (text_of_cell cells (listed_at cells k))

  -- a cell's text is as long as it was planned
  pub len_is : (k : ℕ) → k < length export.layout.ends → slice_index export.layout.ends k - start_of export.layout.ends k ≡ length (cell_text size (text_of_cell cells (listed_at cells k)))
  len_is k in' =
      let whole = ap length (text_at k in') ∙ length-append (texts_text size (take k texts)) (cell_text size (text_of_cell cells (listed_at cells k))) in
      let end = end_is k in' ∙ ap (λ (n : ℕ). length (texts_text size (take n texts))) (sym (add-one k)) in
      omega (arith, whole, end, start_is k (omega arith))

  pub planned_text_is : (k : ℕ) (d : PlannedCell) (face : FaceView) → k < length export.layout.ends → face ≡ (listed_at cells k).face
      → filled (slice_index export.layout.ends k - start_of export.layout.ends k) (cell_text size (text_of_face face (take (length face.kids) (slice_index_or export.cells.items k d).refs))) ≡ cell_text size (text_of_cell cells (listed_at cells k))
  planned_text_is k d face in' same =
      let refs = is.refs k d (omega (arith, count_is)) in
      let text = (λ i. cell_text size (text_of_face (same i) (take (length (same i).kids) (slice_index_or export.cells.items k d).refs))) ∙ ap (λ (rs : List ℕ). cell_text size (text_of_face (listed_at cells k).face rs)) refs in
      (λ i. filled (len_is k in' i) (text i)) ∙ filled-whole (cell_text size (text_of_cell cells (listed_at cells k)))

  -- what a look gives for a cell's hash
  pub face_is : (H : List ℕ → Hash256) (told : Option Tree) (t : Tree) (k : ℕ) (d : PlannedCell) (face : FaceView)
      → told ≡ Some t → cells ≡ map (new_cell_of H) (distinct_cells H t) → k < length export.cells.items → k < length export.layout.ends
      → IsFaceAt H told (slice_index_or export.cells.items k d).hash face → face ≡ (listed_at cells k).face
  face_is H told t k d face told_is cells_are there in' is_face =
      let trees = distinct_cells H t in
      let low : k < length trees = omega (arith, count_is, ap length cells_are, length-map trees (new_cell_of H)) in
      let s = get_or trees k no_tree in
      let cell : listed_at cells k ≡ new_cell_of H s = ap (λ (cs : List NewCell). listed_at cs k) cells_are ∙ get_or-map (new_cell_of H) trees k no_tree no_cell low in
      let inside = (AreDistinct-distinct_cells H t).within s (Contains-get_or trees k no_tree low) in
      let hash : rep_of H s ≡ (slice_index_or export.cells.items k d).hash = sym (ap (λ (c : NewCell). c.hash) cell)
      ∙ (sym (get_or-map (λ (c : NewCell). c.hash) cells k no_cell no_hash (omega (arith, count_is))) ∙ (ap (λ (hs : List Hash256). get_or hs k no_hash) (sym is.hashes)
      ∙ get_or-map (λ (c : PlannedCell). c.hash) export.cells.items k d no_hash there)) in
      is_face t s told_is inside hash ∙ ap (λ (c : NewCell). c.face) (sym cell)

  abbrev front : ℕ → List ℕ
  front k = texts_text size (take k texts)

  abbrev its_text : ℕ → List ℕ
  its_text k = cell_text size (text_of_cell cells (listed_at cells k))

  -- before the first cell that is met there is nothing
  pub front-first : (head from until k : ℕ) (old : List ℕ) → k ≤ length export.layout.ends → start_of export.layout.ends k ≤ from - head → old ≡ old ++ window head from until (front k)
  front-first head from until k old in' early =
      let start = start_is k in' in
      sym (ap (λ (l : List ℕ). old ++ l) (window-before head from until (front k) (omega (arith, start, early))) ∙ append-nil old)

  -- one cell more
  pub front-next : (head from until k start : ℕ) (old now next text : List ℕ) → k < length export.layout.ends → start ≡ head + start_of export.layout.ends k
      → now ≡ old ++ window head from until (front k) → text ≡ its_text k → next ≡ now ++ window start from until text → next ≡ old ++ window head from until (front (k + 1))
  front-next head from until k start old now next text in' start_at now_is text_is next_is =
      let begin : start ≡ head + length (front k) = start_at ∙ ap (λ (n : ℕ). head + n) (start_is k (omega arith)) in
      next_is ∙ ((λ i. now_is i ++ window (begin i) from until (text_is i))
      ∙ (append_assoc old (window head from until (front k)) (window (head + length (front k)) from until (its_text k))
      ∙ ap (λ (l : List ℕ). old ++ l) (sym (window-append head from until (front k) (its_text k)) ∙ ap (window head from until) (sym (text_at k in')))))

  -- behind the last cell that is met there is nothing
  pub front-last : (head from until k : ℕ) (old now : List ℕ) → k ≤ length export.layout.ends → until ≤ head + start_of export.layout.ends k
      → now ≡ old ++ window head from until (front k) → now ≡ old ++ window head from until (export_frame cells).cell_data
  front-last head from until k old now in' late now_is =
      let rest = texts_text size (drop k texts) in
      let whole : (export_frame cells).cell_data ≡ front k ++ rest = data_is ∙ (ap (texts_text size) (sym (take-append-drop k texts)) ∙ texts_text-append size (take k texts) (drop k texts)) in
      let none = window-behind (head + length (front k)) from until rest (omega (arith, start_is k in', late)) in
      now_is ∙ ap (λ (l : List ℕ). old ++ l) (sym (ap (window head from until) whole ∙ (window-append head from until (front k) rest ∙ (ap (λ (l : List ℕ). window head from until (front k) ++ l) none ∙ append-nil (window head from until (front k))))))

  -- nor behind the last of all
  pub front-all : (head from until k : ℕ) (old now : List ℕ) → length export.layout.ends ≤ k
      → now ≡ old ++ window head from until (front k) → now ≡ old ++ window head from until (export_frame cells).cell_data
  front-all head from until k old now past now_is =
      let whole : take k texts ≡ texts = take_all k texts (omega (arith, count_is, texts_count)) in
      now_is ∙ ap (λ (ts : List ℕ). old ++ window head from until ts) (ap (texts_text size) whole ∙ sym data_is)

  -- the whole text is what stands before the cells, these, and the checksum
  pub parts-join : (from until : ℕ) → (window 0 from until export.head.items ++ window export.layout.header_len from until (export_frame cells).cell_data) ++ window (export.layout.header_len + data_len export.layout.ends) from until export.crc ≡ window 0 from until (export_text cells)
  parts-join from until =
      let head = header_of (export_frame cells) in
      let cells_text = (export_frame cells).cell_data in
      let crc = little 4 (crc32c (body_text (export_frame cells))) in
      let whole : export_text cells ≡ (head ++ cells_text) ++ crc = export_text-parts cells ∙ ap (λ (l : List ℕ). l ++ crc) (body_text-export cells) in
      let head_len : length head ≡ export.layout.header_len = is.layout.header in
      let all_data : data_len export.layout.ends ≡ length cells_text = ap data_len (sym is.layout.index) ∙ data_len-export cells in
      let body_len : export.layout.header_len + data_len export.layout.ends ≡ 0 + length (head ++ cells_text) = omega (arith, head_len, all_data, length-append head cells_text) in
      let first : export.layout.header_len ≡ 0 + length head = omega (arith, head_len) in
      (λ i. (window 0 from until (is.head i) ++ window (first i) from until cells_text) ++ window (body_len i) from until (is.crc i))
      ∙ (ap (λ (l : List ℕ). l ++ window (0 + length (head ++ cells_text)) from until crc) (sym (window-append 0 from until head cells_text))
      ∙ (sym (window-append 0 from until (head ++ cells_text) crc) ∙ ap (window 0 from until) (sym whole)))

-- ---- the ends of cells alone

pub start-next : (ends : List ℕ) (k : ℕ) → start_of ends (k + 1) ≡ slice_index ends k
start-next ends k = ap (λ (n : ℕ). start_of ends n) (add-one k)

pub start-below : (size off_bytes head : ℕ) (ends : List ℕ) → IsLayout size off_bytes head ends → (k : ℕ) → k < length ends → start_of ends k ≤ slice_index ends k
start-below size off_bytes head ends laid zero in' = omega arith
start-below size off_bytes head ends laid (suc k) in' = let up = laid.rising k (suc k) (omega arith) in' in omega (arith, up)

pub ends-rise : (size off_bytes head : ℕ) (ends : List ℕ) → IsLayout size off_bytes head ends → (j k : ℕ) → j ≤ k → k < length ends → slice_index ends j ≤ slice_index ends k
ends-rise size off_bytes head ends laid j k up in' = elim (cases_lt j k) [
  | inl below ↦ let rise = laid.rising j k below in' in omega (arith, rise)
  | inr behind ↦ let same : j ≡ k = omega arith in subst (λ (m : ℕ). slice_index ends j ≤ slice_index ends m) same (omega arith)
]

pub start-last : (ends : List ℕ) (k : ℕ) → k ≡ length ends → 0 < k → start_of ends k ≡ data_len ends
start-last ends zero all some = absurd (omega arith)
start-last ends (suc k) all some = let last : k ≡ length ends - 1 = omega arith in ap (λ (n : ℕ). slice_index ends n) last

pub start-within : (size off_bytes head : ℕ) (ends : List ℕ) → IsLayout size off_bytes head ends → (k : ℕ) → k < length ends → start_of ends k ≤ data_len ends
start-within size off_bytes head ends laid k in' =
    let below = start-below size off_bytes head ends laid k in' in
    let rise = ends-rise size off_bytes head ends laid k (length ends - 1) (omega arith) (omega arith) in
    omega (arith, below, rise)

-- whether the text of a cell between the first met and the last has a byte there
pub met_is : (layout : Layout) (from until first k : ℕ) → first ≤ k → k < length layout.ends → from - layout.header_len < slice_index layout.ends first → layout.header_len + start_of layout.ends k < until
    → is_met layout from until k ≡ true
met_is layout from until first k up in' early late =
    let rise = ends-rise layout.size layout.off_bytes layout.header_len layout.ends layout.laid_out first k up in' in
    let end : from < layout.header_len + slice_index layout.ends k = omega (arith, rise, early) in
    grind (arith, nat_tests)

-- ---- what a plan takes from the whole text

pub head-taken : (cells : List NewCell) (layout : Layout) → IsLayoutOf cells layout → (text : List ℕ) → text ≡ export_text cells → layout.header_len + 4 ≤ length text
head-taken cells layout is text text_is = omega (arith, ap length text_is, length-export_text cells, is.header)

pub head-is : (cells : List NewCell) (layout : Layout) → IsLayoutOf cells layout → (text : List ℕ) → text ≡ export_text cells → take layout.header_len text ≡ header_of (export_frame cells)
head-is cells layout is text text_is =
    let head = header_of (export_frame cells) in
    let rest = (export_frame cells).cell_data in
    let crc = little 4 (crc32c (body_text (export_frame cells))) in
    let whole : text ≡ head ++ (rest ++ crc) = text_is ∙ (export_text-parts cells ∙ (ap (λ (l : List ℕ). l ++ crc) (body_text-export cells) ∙ append_assoc head rest crc)) in
    ap (take layout.header_len) whole ∙ take_at head (rest ++ crc) layout.header_len is.header

pub crc-is : (cells : List NewCell) (text : List ℕ) → text ≡ export_text cells → drop (length text - 4) text ≡ little 4 (crc32c (body_text (export_frame cells)))
crc-is cells text text_is =
    let body = body_text (export_frame cells) in
    let crc = little 4 (crc32c body) in
    let whole : text ≡ body ++ crc = text_is ∙ export_text-parts cells in
    let at : length body ≡ length text - 4 = omega (arith, ap length whole, length-append body crc, length-little 4 (crc32c body)) in
    ap (drop (length text - 4)) whole ∙ drop_at body crc (length text - 4) at

-- four numbers, of which the first are those of the children
pub four-refs : (f : ChildInfo → ℕ) (kids : List ChildInfo) (a b c d : ℕ) → length kids ≤ 4
    → ((e : ChildInfo) → 0 < length kids → a ≡ f (get_or kids 0 e)) → ((e : ChildInfo) → 1 < length kids → b ≡ f (get_or kids 1 e))
    → ((e : ChildInfo) → 2 < length kids → c ≡ f (get_or kids 2 e)) → ((e : ChildInfo) → 3 < length kids → d ≡ f (get_or kids 3 e)) → take (length kids) (a ∷ b ∷ c ∷ d ∷ []) ≡ map f kids
four-refs f [] a b c d few is-a is-b is-c is-d = refl
four-refs f (k ∷ []) a b c d few is-a is-b is-c is-d = λ i. is-a k (lit< tt) i ∷ []
four-refs f (k ∷ l ∷ []) a b c d few is-a is-b is-c is-d = λ i. is-a k (lit< tt) i ∷ is-b k (lit< tt) i ∷ []
four-refs f (k ∷ l ∷ m ∷ []) a b c d few is-a is-b is-c is-d = λ i. is-a k (lit< tt) i ∷ is-b k (lit< tt) i ∷ is-c k (lit< tt) i ∷ []
four-refs f (k ∷ l ∷ m ∷ n ∷ []) a b c d few is-a is-b is-c is-d = λ i. is-a k (lit< tt) i ∷ is-b k (lit< tt) i ∷ is-c k (lit< tt) i ∷ is-d k (lit< tt) i ∷ []
four-refs f (k ∷ l ∷ m ∷ n ∷ o ∷ kids) a b c d few is-a is-b is-c is-d = absurd (omega arith)

-- ---- the first so many cells are planned

pub numbered-none : (cells : List NewCell) (size : ℕ) (planned : List PlannedCell) → planned ≡ [] → AreNumbered cells size 0 planned
numbered-none cells size planned none = record {
  counted = ap length none;
  hashes = ap (map (λ c. c.hash)) none;
  refs = λ k d low. absurd (omega arith);
  fits = subst (All (λ c. All (λ number. number < 256 ^ size) c.refs)) (sym none) (All-nil _);
}

pub numbered-more : (cells : List NewCell) (size count : ℕ) (planned more : List PlannedCell) (new : PlannedCell) → count < length cells → AreNumbered cells size count planned
    → new.hash ≡ (listed_at cells count).hash → AreRefsOf cells (listed_at cells count) new → All (λ number. number < 256 ^ size) new.refs → more ≡ planned ++ new ∷ [] → AreNumbered cells size (count + 1) more
numbered-more cells size count planned more new there so_far hash refs fits is = record {
  counted = ap length is ∙ (length_push planned new ∙ ap (λ (n : ℕ). n + 1) so_far.counted);
  hashes = ap (map (λ c. c.hash)) is ∙ (map-append (λ (c : PlannedCell). c.hash) planned (new ∷ [])
      ∙ ((λ i. so_far.hashes i ++ hash i ∷ []) ∙ (sym (map-append (λ (c : NewCell). c.hash) (take count cells) (listed_at cells count ∷ [])) ∙ ap (map (λ (c : NewCell). c.hash)) (sym (take_more cells count no_cell there)))));
  refs = λ k d low. elim (cases_lt k count) [
    | inl below ↦ subst (AreRefsOf cells (listed_at cells k)) (sym (ap (λ (l : List PlannedCell). get_or l k d) is ∙ get_or_append_left planned (new ∷ []) d k (omega (arith, so_far.counted)))) (so_far.refs k d below)
    | inr behind ↦ let same : k ≡ count = omega arith in
        subst (AreRefsOf cells (listed_at cells k)) (sym (ap (λ (l : List PlannedCell). get_or l k d) is ∙ get_or_push planned new d k (omega (arith, so_far.counted))))
        (subst (λ (n : ℕ). AreRefsOf cells (listed_at cells n) new) (sym same) refs)
  ];
  fits = subst (All (λ c. All (λ number. number < 256 ^ size) c.refs)) (sym is) (All-push (λ c. All (λ number. number < 256 ^ size) c.refs) planned new so_far.fits fits);
}

-- a number of a listed cell, or 0, has room
pub number-fits : (cells : List NewCell) (size number : ℕ) → length cells ≤ 1048576 → size ≡ width_of (length cells) → number < length cells → number < 256 ^ size
number-fits cells size number few size_is low = let room = width_of-fits (length cells) few in subst (λ (s : ℕ). number < 256 ^ s) (sym size_is) (omega (arith, room))
