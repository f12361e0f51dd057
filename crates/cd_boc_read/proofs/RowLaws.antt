-- A fault of the cells is a row that holds of the bytes; and so is every fault of the bytes.
use Rattle.std.proofs.Common.{◌≡◌, ◌≢◌, ℕ, suc, ◌+◌, ◌*◌, ◌≤◌, ◌<◌, ◌⊎◌, Bool, true, false, not, ◌&&◌, ◌==◌, cond, List, [], ◌∷◌, length, get_or, take, drop, Option, Some, None, is_some, Result, Ok, Err, refl, sym, ap, subst, ◌∙◌, inl, inr, ⊎_elim, arith}
use Rattle.std.specs.Prelude.{IsSomeAnd}
use Rattle.std.specs.Option.{option_or, option_map}
use Rattle.std.specs.Cmp.Lexicographic.{bytes_decides}
use Rattle.std.proofs.lemmas.Bool.{eqb-true, eqb-false, and_parts, true≢false}
use Rattle.cd_base.specs.Numbers.{IsBytes}
use Rattle.cd_base.specs.declared.hash.Hash256.{Hash256}
use Rattle.cd_cell.specs.declared.info.ChildInfo.{ChildInfo}
use Rattle.cd_cell.specs.FaceView.{FaceView}
use Rattle.cd_cell.specs.Levels.{mask_of_face, info_of_face}
use Rattle.cd_cell.specs.CellFaults.{first_byte, face_fault}
use Rattle.cd_cell.specs.StoredText.{stored_text}
use Rattle.cd_cell.specs.Tree.{Tree, info_of, face_of, mask_of}
use Rattle.cd_cell.specs.Unfolding.{unfolding_of, faces_from}
use Rattle.cd_cell.specs.Bags.{no_face, face_at}
use Rattle.cd_cell.specs.Clashes.{clash_of}
use Rattle.cd_cell.proofs.Subtrees.{info_of-face_of}
use Rattle.cd_cell.proofs.Unfoldings.{faces_from-is}
use Rattle.cd_boc_write.specs.Frames.{Frame}
use Rattle.cd_boc_write.specs.CellTexts.{Text, entries_of_texts}
use Rattle.cd_boc_read.specs.declared.bag_fault.BagFault.{BagFault}
use Rattle.cd_boc_read.specs.declared.bag_fault.BagFault.TheVariants.{PrunedHashes, Cell, MaskDiffers, StoredHash, Clash}
use Rattle.cd_boc_read.specs.CellFaults.{unless, stores_pruned, is_shown, cell_fault, cells_fault, fault_of_texts}
use Rattle.cd_boc_read.specs.FaultRows.{AreFramed, IsCellOf, Holds}
use Rattle.cd_base.specs.Numbers.{from_big}
use Rattle.cd_base.proofs.NumberLaws.{IsBytes-take, IsBytes-drop}
use Rattle.std.proofs.Math.Nat.{mul-le-mul_right}
use Rattle.std.proofs.lemmas.List.{drop-drop, length-drop, length-take-le}
use Rattle.cd_boc_write.specs.declared.shape.Shape.{Shape}
use Rattle.cd_boc_read.specs.BagFaults.{fault_in, bag_fault}
use Rattle.cd_boc_read.specs.Reading.{FrameParts, frame_at, texts_at, index_len, bag_at}
use Rattle.cd_boc_read.specs.Places.{number_in, stated_shape, stated_cells, stated_total, stated_data, stated_entry, text_start, index_start, data_start}
use Rattle.cd_boc_read.proofs.PlaceLaws.{Stands, Stands-start, Stands-at}
use Rattle.cd_boc_read.proofs.FrameFaults.{by_err, within_front, frame_fails, IsFrameFound, frame_found}
use Rattle.cd_boc_read.proofs.TextFaults.{text_start-first, texts_fail}
use Rattle.cd_boc_read.proofs.FrameLaws.{bag_at-found}
use Rattle.cd_boc_read.proofs.CellLoop.{cells_fault-cons, cells_fault-nil}
use Rattle.cd_boc_read.proofs.StatedLaws.{cells_fault-no_faces, face-unfolded}

-- ---- the first of several faults

some_of : {A : Type 0} (a b : Option A) (e : A) → option_or a b ≡ Some e → (a ≡ Some e) ⊎ (b ≡ Some e)
some_of None b e is = inr is
some_of (Some x) b e is = inl is

by_first : {A P : Type 0} (a b c d : Option A) (e : A) → option_or a (option_or b (option_or c d)) ≡ Some e → (a ≡ Some e → P) → (b ≡ Some e → P) → (c ≡ Some e → P) → (d ≡ Some e → P) → P
by_first (Some x) b c d e is p q r t = p is
by_first None (Some x) c d e is p q r t = q is
by_first None None (Some x) d e is p q r t = r is
by_first None None None d e is p q r t = t is

unless_some : (holds : Bool) (fault e : BagFault) → unless holds fault ≡ Some e → (holds ≡ false) × (fault ≡ e)
unless_some true fault e is = absurd cc
unless_some false fault e is = (refl, cc)

not_false : (b : Bool) → not b ≡ false → b ≡ true
not_false true e = refl
not_false false e = absurd (true≢false e)

record IsMapped {A B : Type 0} (f : A → B) (o : Option A) (e : B) : Type 0 where
  from : A
  is : o ≡ Some from
  mapped : f from ≡ e

mapped_from : {A B : Type 0} (f : A → B) (o : Option A) (e : B) → option_map f o ≡ Some e → IsMapped f o e
mapped_from f None e is = absurd cc
mapped_from f (Some x) e is = record { from = x; is = refl; mapped = cc }

not_shown : (stored : Option (List ℕ)) (info : ChildInfo) → is_shown stored info ≡ false → IsSomeAnd stored (λ bytes. bytes ≢ stored_text info)
not_shown None info wrong = absurd (true≢false wrong)
not_shown (Some bytes) info wrong = λ same. true≢false (sym ((bytes_decides bytes (stored_text info)).1 same) ∙ wrong)

module _ (H : List ℕ → Hash256) where
  -- the cell whose fault this is
  record IsFaultOf (i : ℕ) (ts : List Text) (fs : List FaceView) (e : BagFault) : Type 0 where
    at : ℕ
    within : at < length ts
    text : Text
    text_is : text ≡ get_or ts at text
    fault : cell_fault H (i + at) text (get_or fs at no_face) ≡ Some e

  fault_from : (i : ℕ) (ts : List Text) (fs : List FaceView) (e : BagFault) → cells_fault H i ts fs ≡ Some e → IsFaultOf i ts fs e
  fault_from i [] fs e is = let none = cells_fault-nil H i fs in absurd cc
  fault_from i (t ∷ ts) [] e is = let none = cells_fault-no_faces H i (t ∷ ts) in absurd cc
  fault_from i (t ∷ ts) (f ∷ fs) e is =
      ⊎_elim
      (λ later.
      let more = fault_from (i + 1) ts fs e later in
      let number : i + 1 + more.at ≡ i + suc more.at = omega arith in
      record { at = suc more.at; within = omega (arith, more.within); text = more.text; text_is = more.text_is; fault = ap (λ n. cell_fault H n more.text (get_or fs more.at no_face)) (sym number) ∙ more.fault })
      (λ here. record { at = 0; within = omega arith; text = t; text_is = refl; fault = ap (λ n. cell_fault H n t f) (let number : i + 0 ≡ i = omega arith in number) ∙ here })
      (some_of (cells_fault H (i + 1) ts fs) (cell_fault H i t f) e (sym (cells_fault-cons H i t ts f fs) ∙ is))

  module _ (bytes : List ℕ) (cell : ℕ) (text : Text) (tree : Tree) (of : IsCellOf bytes cell text tree) (e : BagFault) where
    abbrev face : FaceView
    face = face_of H tree

    pruned_holds : unless (not (stores_pruned text face)) (PrunedHashes cell) ≡ Some e → Holds H bytes e
    pruned_holds is =
        let u = unless_some (not (stores_pruned text face)) (PrunedHashes cell) e is in
        let both = and_parts (text.entry.exotic && is_some text.stored) (first_byte face == 1) (not_false (stores_pruned text face) u.0) in
        let stored = and_parts text.entry.exotic (is_some text.stored) both.0 in
        subst (Holds H bytes) u.1 (record { text = text; tree = tree; is = of; exotic = stored.0; stored = stored.1; pruned = eqb-true (first_byte face) 1 both.1 })

    malformed_holds : option_map (Cell cell) (face_fault face) ≡ Some e → Holds H bytes e
    malformed_holds is =
        let m = mapped_from (Cell cell) (face_fault face) e is in
        subst (Holds H bytes) m.mapped (record { text = text; tree = tree; is = of; refused = m.is })

    mask_holds : unless (text.mask == mask_of_face face) (MaskDiffers cell) ≡ Some e → Holds H bytes e
    mask_holds is =
        let u = unless_some (text.mask == mask_of_face face) (MaskDiffers cell) e is in
        let mask-tree : mask_of H tree ≡ mask_of_face face = ap (λ (k : ChildInfo). k.mask) (info_of-face_of H tree) in
        subst (Holds H bytes) u.1 (record { text = text; tree = tree; is = of; differ = λ same. eqb-false text.mask (mask_of_face face) u.0 (same ∙ mask-tree) })

    hash_holds : unless (is_shown text.stored (info_of_face H face)) (StoredHash cell) ≡ Some e → Holds H bytes e
    hash_holds is =
        let u = unless_some (is_shown text.stored (info_of_face H face)) (StoredHash cell) e is in
        let shown : is_shown text.stored (info_of H tree) ≡ false = ap (is_shown text.stored) (info_of-face_of H tree) ∙ u.0 in
        subst (Holds H bytes) u.1 (record { text = text; tree = tree; is = of; differ = not_shown text.stored (info_of H tree) shown })

    cell_holds : cell_fault H cell text face ≡ Some e → Holds H bytes e
    cell_holds is =
        by_first (unless (not (stores_pruned text face)) (PrunedHashes cell)) (option_map (Cell cell) (face_fault face)) (unless (text.mask == mask_of_face face) (MaskDiffers cell)) (unless (is_shown text.stored (info_of_face H face)) (StoredHash cell))
        e is pruned_holds malformed_holds mask_holds hash_holds

  -- ---- the texts that were read

  module _ (bytes : List ℕ) (frame : Frame) (ts : List Text) (framed : AreFramed bytes frame ts) where
    cells_hold : (e : BagFault) → cells_fault H 0 ts (faces_from H 0 (entries_of_texts ts)) ≡ Some e → Holds H bytes e
    cells_hold e is =
        let found = fault_from 0 ts (faces_from H 0 (entries_of_texts ts)) e is in
        let tree : Tree = unfolding_of (entries_of_texts ts) found.at in
        let of : IsCellOf bytes found.at found.text tree = record { frame = frame; texts = ts; framed = framed; number = found.within; text_is = found.text_is; tree_is = refl } in
        let face = face-unfolded H ts framed.bag.texts found.at found.within in
        cell_holds bytes found.at found.text tree of e
        (ap (cell_fault H found.at found.text) (sym face) ∙ ap (λ n. cell_fault H n found.text (face_at (faces_from H 0 (entries_of_texts ts)) found.at)) (let same : found.at ≡ 0 + found.at = omega arith in same) ∙ found.fault)

    texts_hold : (e : BagFault) → fault_of_texts H ts ≡ Some e → Holds H bytes e
    texts_hold e is =
        let faces = faces_from H 0 (entries_of_texts ts) in
        ⊎_elim (cells_hold e)
        (λ clash.
        let m = mapped_from Clash (clash_of H faces) e clash in
        subst (Holds H bytes) m.mapped (record { frame = frame; texts = ts; framed = framed; clash = ap (clash_of H) (sym (faces_from-is H 0 (entries_of_texts ts))) ∙ m.is }))
        (some_of (cells_fault H 0 ts faces) (option_map Clash (clash_of H faces)) e is)

  -- ---- all faults

  entry_stated : (bytes : List ℕ) → (stated_shape bytes).has_index ≡ true → (number : ℕ) → number < stated_cells bytes
      → from_big (take (stated_shape bytes).off_bytes (drop (number * (stated_shape bytes).off_bytes) (take (index_len (stated_shape bytes) (stated_cells bytes)) (drop (index_start bytes) bytes)))) ≡ stated_entry bytes number
  unfolding number_in
  entry_stated bytes has number in' =
      let off = (stated_shape bytes).off_bytes in
      let len : index_len (stated_shape bytes) (stated_cells bytes) ≡ stated_cells bytes * off = ap (λ b. cond b (stated_cells bytes * off) 0) has in
      let room : number * off + off ≤ stated_cells bytes * off = omega (arith, mul-le-mul_right off (let next : number + 1 ≤ stated_cells bytes = omega arith in next)) in
      ap from_big (within_front (number * off) off (index_len (stated_shape bytes) (stated_cells bytes)) (drop (index_start bytes) bytes) (omega (arith, room, len)))
      ∙ ap (λ (w : List ℕ). from_big (take off w)) (drop-drop (number * off) (index_start bytes) bytes)

  read_fails : (bytes : List ℕ) (e : BagFault) → IsBytes bytes → bag_at bytes ≡ Err e → Holds H bytes e
  unfolding bag_at
  read_fails bytes e fit is =
      by_err (frame_at bytes) _ e is (frame_fails H bytes e) (λ p e0 k0.
      let f = frame_found bytes p e0 in
      by_err (texts_at p.shape p.cells (length p.cell_data) p.cells 0 p.index p.cell_data) _ e k0
      (λ wrong.
      let total : length (stated_data bytes) ≡ stated_total bytes = length-take-le (stated_total bytes) (drop (data_start bytes) bytes) (omega (arith, length-drop (data_start bytes) bytes, f.within)) in
      let at : texts_at (stated_shape bytes) (stated_cells bytes) (stated_total bytes) (stated_cells bytes) 0 (drop (0 * (stated_shape bytes).off_bytes) (take (index_len (stated_shape bytes) (stated_cells bytes)) (drop (index_start bytes) bytes))) (stated_data bytes) ≡ Err e =
      same_texts bytes p f total ∙ wrong
      in
      texts_fail H bytes total (IsBytes-take (stated_total bytes) (drop (data_start bytes) bytes) (IsBytes-drop (data_start bytes) bytes fit)) f.header
      (take (index_len (stated_shape bytes) (stated_cells bytes)) (drop (index_start bytes) bytes)) (entry_stated bytes) (stated_cells bytes) 0 (stated_data bytes) e (omega arith) (first_stands (stated_shape bytes).size (stated_data bytes)) at)
      (λ texts e1 k1. absurd cc))
    where
      first_stands : (size : ℕ) (held : List ℕ) → Stands held (text_start size held 0) held
      first_stands size held = Stands-at held 0 (text_start size held 0) held (sym (text_start-first size held)) (Stands-start held)

      same_texts : (b : List ℕ) (p : FrameParts) → IsFrameFound b p → length (stated_data b) ≡ stated_total b
          → texts_at (stated_shape b) (stated_cells b) (stated_total b) (stated_cells b) 0 (drop (0 * (stated_shape b).off_bytes) (take (index_len (stated_shape b) (stated_cells b)) (drop (index_start b) b))) (stated_data b)
          ≡ texts_at p.shape p.cells (length p.cell_data) p.cells 0 p.index p.cell_data
      same_texts b p f total =
          ap (λ (n : ℕ). texts_at (stated_shape b) (stated_cells b) (stated_total b) (stated_cells b) 0 (drop n (take (index_len (stated_shape b) (stated_cells b)) (drop (index_start b) b))) (stated_data b)) (let none : 0 * (stated_shape b).off_bytes ≡ 0 = omega arith in none)
          ∙ ap (λ (s : Shape). texts_at s (stated_cells b) (stated_total b) (stated_cells b) 0 (take (index_len (stated_shape b) (stated_cells b)) (drop (index_start b) b)) (stated_data b)) (sym f.shape)
          ∙ ap (λ (w : List ℕ). texts_at p.shape (stated_cells b) (stated_total b) (stated_cells b) 0 w (stated_data b)) (sym f.index)
          ∙ ap (λ (n : ℕ). texts_at p.shape n (stated_total b) n 0 p.index (stated_data b)) (sym f.cells)
          ∙ ap (λ (n : ℕ). texts_at p.shape p.cells n p.cells 0 p.index (stated_data b)) (sym total)
          ∙ ap (λ (w : List ℕ). texts_at p.shape p.cells (length w) p.cells 0 p.index w) (sym f.cell_data)

  fault_holds : (bytes : List ℕ) (e : BagFault) → IsBytes bytes → (read : Result (Frame × List Text) BagFault) → bag_at bytes ≡ read → fault_in H read ≡ Some e → Holds H bytes e
  fault_holds bytes e fit (Err d) is told = read_fails bytes e fit (is ∙ ap (λ (x : BagFault). Err x) (some_is d e told))
    where
      some_is : (x y : BagFault) → ◌≡◌ {A = Option BagFault} (Some x) (Some y) → x ≡ y
      some_is x y same = cc
  fault_holds bytes e fit (Ok x) is told =
      let found = bag_at-found bytes x.0 x.1 fit is in
      texts_hold bytes x.0 x.1 (record { bag = found.0; whole = found.1 }) e told

  -- the fault of bytes is a row that holds of them
  pub bag_fault-holds : (bytes : List ℕ) (e : BagFault) → IsBytes bytes → bag_fault H bytes ≡ Some e → Holds H bytes e
  bag_fault-holds bytes e fit is = fault_holds bytes e fit (bag_at bytes) refl is
