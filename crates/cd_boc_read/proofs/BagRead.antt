-- The bag that read texts make, what its bytes spell, and that what is spelt has no fault.
use Rattle.std.proofs.Common.{◌≡◌, ℕ, zero, suc, ◌+◌, ◌<◌, ◌≤◌, List, [], ◌∷◌, length, get_or, take, map, Contains, None, Result, Ok, Err, refl, sym, ap, ap₂, subst, ◌∙◌, arith}
use Rattle.std.specs.Option.{option_map}
use Rattle.std.proofs.lemmas.List.{length-map, get_or_default}
use Rattle.std.proofs.lemmas.List.Elements.{Contains-get_or}
use Rattle.cd_base.specs.declared.hash.Hash256.{Hash256}
use Rattle.cd_base.specs.Numbers.{IsBytes}
use Rattle.cd_cell.specs.FaceView.{FaceView}
use Rattle.cd_cell.specs.Infos.{rep_of_info}
use Rattle.cd_cell.specs.Levels.{rep_of_face}
use Rattle.cd_cell.specs.Tree.{Tree, info_of, rep_of, IsWellFormed}
use Rattle.cd_cell.specs.Unfolding.{Entry, no_tree, behind, unfold_from, unfolding_of, face_of_entry, infos_from, faces_from}
use Rattle.cd_cell.specs.Export.{AreClashFree}
use Rattle.cd_cell.specs.Bags.{root_trees, face_at, entry_of, entries_of, IsBag}
use Rattle.cd_cell.proofs.Subtrees.{subtree-itself, flat_map-listed, info_of-face_of}
use Rattle.cd_cell.proofs.Unfoldings.{length-faces_from, length-unfold_from}
use Rattle.cd_cell.proofs.BagLaws.{clash_free-bag, IsBag-filled, length-entries_of}
use Rattle.cd_boc_write.specs.Frames.{Frame, frame_text}
use Rattle.cd_boc_write.specs.CellTexts.{Text, entries_of_texts}
use Rattle.cd_boc_read.specs.declared.bag_fault.BagFault.{BagFault}
use Rattle.cd_boc_read.specs.declared.bag_fault.BagFault.TheVariants.{Clash}
use Rattle.cd_boc_read.specs.declared.cell_text.CellText.{CellText}
use Rattle.cd_boc_read.specs.Grammar.{IsBagOf, IsStated, Spells}
use Rattle.cd_boc_read.specs.Views.{text_view, text_views}
use Rattle.cd_boc_read.specs.Reading.{bag_at}
use Rattle.cd_boc_read.specs.CellFaults.{faces_of_texts, cells_fault, fault_of_texts}
use Rattle.cd_cell.specs.Clashes.{clash_of}
use Rattle.cd_boc_read.specs.BagFaults.{AreTexts, fault_in, bag_fault}
use Rattle.cd_boc_read.proofs.CellLoop.{length-entries, length-text_views}
use Rattle.cd_cell.proofs.ClashLaws.{clash_of-clear, clear-clash_of}
use Rattle.cd_boc_read.proofs.StatedLaws.{option_or-none, none-option_or, option_map-none, later-texts, face-unfolded, sound-no_fault, good-sound, well_formed-sound, stated-sound, no_fault-stated}
use Rattle.cd_boc_read.proofs.FrameLaws.{bag_at-found, bag_at-again}

-- ---- the numbers of children, as four numbers

take-again : (n : ℕ) (xs : List ℕ) → take (length (take n xs)) xs ≡ take n xs
take-again zero xs = refl
take-again (suc n) [] = refl
take-again (suc n) (x ∷ xs) = ap (λ ys. x ∷ ys) (take-again n xs)

take-whole : (xs : List ℕ) → take (length xs) xs ≡ xs
take-whole [] = refl
take-whole (x ∷ xs) = ap (λ ys. x ∷ ys) (take-whole xs)

abbrev pub bag_read : Frame × List Text → Result (Frame × List Text) BagFault
bag_read x = Ok x

same_bag : (x y : Frame × List Text) → bag_read x ≡ bag_read y → x ≡ y
same_bag x y e = cc

module _ (H : List ℕ → Hash256) where
  -- the entries of the bag are the cells that were read
  pub entries-read : (i : ℕ) (ts : List CellText) → entries_of (faces_from H i (entries_of_texts (text_views ts))) (map (λ (t : CellText). t.refs) ts) ≡ entries_of_texts (text_views ts)
  unfolding faces_from
  entries-read i [] = refl
  entries-read i (t ∷ ts) =
      let later = infos_from H (i + 1) (entries_of_texts (text_views ts)) in
      let numbers : List ℕ = take t.count t.refs in
      let count : length (map (behind i later (info_of H no_tree)) numbers) ≡ length numbers = length-map numbers (behind i later (info_of H no_tree)) in
      let first : entry_of (face_of_entry H i (text_view t).entry later) t.refs ≡ (text_view t).entry =
      ap (λ (rs : List ℕ). record { exotic = t.exotic; bits = t.bits; refs = rs }) (ap (λ n. take n t.refs) count ∙ take-again t.count t.refs)
      in
      ap₂ (λ (x : Entry) (xs : List Entry). x ∷ xs) first (entries-read (i + 1) ts)

  -- ---- clashes, by cells and by faces

  module _ (ts : List Text) (texts : AreTexts ts) where
    abbrev es : List Entry
    es = entries_of_texts ts

    abbrev faces : List FaceView
    faces = faces_from H 0 es

    long : length faces ≡ length ts
    long = length-faces_from H 0 es ∙ length-entries ts

    abbrev AreClear : Type 0
    AreClear = (i j : ℕ) → i < length faces → j < length faces → rep_of_face H (face_at faces i) ≡ rep_of_face H (face_at faces j) → face_at faces i ≡ face_at faces j

    clear_from_clash_free : AreClashFree H (unfold_from 0 es) → AreClear
    clear_from_clash_free free i j in-i in-j rep =
        let among : (k : ℕ) → k < length faces → Contains (unfold_from 0 es) (unfolding_of es k) = λ k in'. Contains-get_or (unfold_from 0 es) k no_tree (omega (arith, in', long, length-entries ts, length-unfold_from 0 es)) in
        let a = unfolding_of es i in
        let b = unfolding_of es j in
        let face-a = face-unfolded H ts texts i (omega (arith, long)) in
        let face-b = face-unfolded H ts texts j (omega (arith, long)) in
        let rep-a : rep_of H a ≡ rep_of_face H (face_at faces i) = ap rep_of_info (info_of-face_of H a) ∙ ap (rep_of_face H) (sym face-a) in
        let rep-b : rep_of H b ≡ rep_of_face H (face_at faces j) = ap rep_of_info (info_of-face_of H b) ∙ ap (rep_of_face H) (sym face-b) in
        let same = free a b (flat_map-listed (unfold_from 0 es) a a (among i in-i) (subtree-itself a)) (flat_map-listed (unfold_from 0 es) b b (among j in-j) (subtree-itself b)) (rep-a ∙ rep ∙ sym rep-b) in
        face-a ∙ same ∙ sym face-b

    -- what is well-formed, stated and free of clashes has no fault
    pub fault_of_texts-none : ((k : ℕ) → k < length ts → IsWellFormed H (unfolding_of es k)) → ((k : ℕ) (t : Text) → k < length ts → IsStated H (get_or ts k t) (unfolding_of es k)) → AreClashFree H (unfold_from 0 es) → fault_of_texts H ts ≡ None
    fault_of_texts-none good stated free =
        none-option_or (cells_fault H 0 ts faces) (option_map Clash (clash_of H faces)) (no_fault-stated H ts texts good stated)
        (ap (option_map Clash) (clash_of-clear H faces (clear_from_clash_free free)))

    module _ (none : cells_fault H 0 ts faces ≡ None) (clear : clash_of H faces ≡ None) (refs : List (List ℕ)) (named : entries_of faces refs ≡ es) (counted : length refs ≡ length faces) (roots : List ℕ) (rooted : (p : ℕ) → p < length roots → get_or roots p 0 < length ts) where
      pub bag_made : IsBag H faces refs roots
      bag_made =
          IsBag-filled H es faces refl (later-texts H ts texts) refs named counted roots
          (λ k in'. good-sound H ts texts (sound-no_fault H ts texts none) k (omega (arith, in', long)))
          (clear-clash_of H faces clear)
          (λ p in'. omega (arith, rooted p in', long))

      unfolded-entry : (t : Tree) → Contains (unfold_from 0 (entries_of faces refs)) t → (k : ℕ) × (k < length faces) × (unfolding_of (entries_of faces refs) k ≡ t)
      unfolded-entry t h = (h.0, omega (arith, h.1, length-unfold_from 0 (entries_of faces refs), length-entries_of faces refs counted), get_or_default (unfold_from 0 (entries_of faces refs)) h.0 no_tree t h.1 ∙ h.2)

      clash_free-made : AreClashFree H (unfold_from 0 es)
      clash_free-made = subst (λ (x : List Entry). AreClashFree H (unfold_from 0 x)) named (clash_free-bag H faces refs roots bag_made (unfold_from 0 (entries_of faces refs)) unfolded-entry)

      trees-made : root_trees faces refs roots ≡ map (unfolding_of es) roots
      trees-made = ap (λ (x : List Entry). map (unfolding_of x) roots) named

  -- what was read of bytes spells the trees of the bag
  module _ (bytes : List ℕ) (f : Frame) (ts : List Text) (bag : IsBagOf f ts) (text : bytes ≡ frame_text f) (none : cells_fault H 0 ts (faces_from H 0 (entries_of_texts ts)) ≡ None) (clear : clash_of H (faces_from H 0 (entries_of_texts ts)) ≡ None)
      (refs : List (List ℕ)) (named : entries_of (faces_from H 0 (entries_of_texts ts)) refs ≡ entries_of_texts ts) (counted : length refs ≡ length (faces_from H 0 (entries_of_texts ts))) where
    pub spelt_from : Spells H bytes (root_trees (faces_from H 0 (entries_of_texts ts)) refs f.roots)
    spelt_from =
        let sound = sound-no_fault H ts bag.texts none in
        record {
          frame = f;
          texts = ts;
          bag = bag;
          text = text;
          good = λ k in'. well_formed-sound H ts bag.texts sound k in';
          stated = λ k d in'. stated-sound H ts bag.texts sound k d in';
          clear = clash_free-made ts bag.texts none clear refs named counted f.roots bag.rooted;
          are = trees-made ts bag.texts none clear refs named counted f.roots bag.rooted;
        }

  -- the same without a bag: four numbers for each cell stand for its children
  abbrev four_of : Text → List ℕ
  four_of t = t.entry.refs

  named-alone : (i : ℕ) (ts : List Text) → entries_of (faces_from H i (entries_of_texts ts)) (map four_of ts) ≡ entries_of_texts ts
  unfolding faces_from
  named-alone i [] = refl
  named-alone i (t ∷ ts) =
      let later = infos_from H (i + 1) (entries_of_texts ts) in
      let refs : List ℕ = t.entry.refs in
      let first : entry_of (face_of_entry H i t.entry later) refs ≡ t.entry =
      ap (λ (rs : List ℕ). record { exotic = t.entry.exotic; bits = t.entry.bits; refs = rs }) (ap (λ n. take n refs) (length-map refs (behind i later (info_of H no_tree))) ∙ take-whole refs)
      in
      ap₂ (λ (x : Entry) (xs : List Entry). x ∷ xs) first (named-alone (i + 1) ts)

  spelt_alone : (bytes : List ℕ) (f : Frame) (ts : List Text) → IsBagOf f ts → bytes ≡ frame_text f → cells_fault H 0 ts (faces_from H 0 (entries_of_texts ts)) ≡ None → clash_of H (faces_from H 0 (entries_of_texts ts)) ≡ None
      → Spells H bytes (map (unfolding_of (entries_of_texts ts)) f.roots)
  spelt_alone bytes f ts bag text none clear =
      let faces = faces_from H 0 (entries_of_texts ts) in
      let named = named-alone 0 ts in
      let counted = length-map ts four_of ∙ sym (length-faces_from H 0 (entries_of_texts ts) ∙ length-entries ts) in
      subst (Spells H bytes) (trees-made ts bag.texts none clear (map four_of ts) named counted f.roots bag.rooted) (spelt_from bytes f ts bag text none clear (map four_of ts) named counted)

  -- ---- laws

  -- what is spelt has no fault
  pub bag_fault-spelt : (bytes : List ℕ) (trees : List Tree) → IsBytes bytes → Spells H bytes trees → bag_fault H bytes ≡ None
  bag_fault-spelt bytes trees fit spelt =
      ap (bag_fault H) spelt.text
      ∙ ap (fault_in H) (bag_at-again spelt.frame spelt.texts (subst IsBytes spelt.text fit) spelt.bag)
      ∙ fault_of_texts-none spelt.texts spelt.bag.texts spelt.good spelt.stated spelt.clear

  same-read : (f g : Frame) (ts us : List Text) → bag_read (f, ts) ≡ bag_read (g, us) → map (unfolding_of (entries_of_texts ts)) f.roots ≡ map (unfolding_of (entries_of_texts us)) g.roots
  same-read f g ts us e =
      ap (λ (x : Frame × List Text). map (unfolding_of (entries_of_texts x.1)) x.0.roots) (same_bag (f, ts) (g, us) e)

  -- no bytes spell two lists of trees
  pub one_spelt : (bytes : List ℕ) (trees others : List Tree) → IsBytes bytes → Spells H bytes trees → Spells H bytes others → trees ≡ others
  one_spelt bytes trees others fit a b =
      let read-a = bag_at-again a.frame a.texts (subst IsBytes a.text fit) a.bag in
      let read-b = bag_at-again b.frame b.texts (subst IsBytes b.text fit) b.bag in
      let same = sym read-a ∙ ap bag_at (sym a.text ∙ b.text) ∙ read-b in
      a.are ∙ same-read a.frame b.frame a.texts b.texts same ∙ sym b.are

  -- ---- the bag of a reader

  module _ (f : Frame) (cell_texts : List CellText) (bag : IsBagOf f (text_views cell_texts)) where
    abbrev read_texts : List Text
    read_texts = text_views cell_texts

    abbrev read_faces : List FaceView
    read_faces = faces_of_texts H read_texts

    count-faces : length read_faces ≡ length cell_texts
    count-faces = length-faces_from H 0 (entries_of_texts read_texts) ∙ length-entries read_texts ∙ length-text_views cell_texts

    pub some_texts : 0 < length cell_texts
    some_texts = omega (arith, length-text_views cell_texts, bag.some_roots, bag.few_roots)

    pub few_texts : length cell_texts ≤ 1048576
    few_texts = omega (arith, length-text_views cell_texts, bag.few_cells)

    module _ (sound : fault_of_texts H read_texts ≡ None) (cells : List FaceView) (filled : cells ≡ read_faces) (refs : List (List ℕ)) (numbers : refs ≡ map (λ (t : CellText). t.refs) cell_texts) where
      pub count-cells : length cells ≡ length read_texts
      count-cells = ap length filled ∙ count-faces ∙ sym (length-text_views cell_texts)

      named-read : entries_of read_faces refs ≡ entries_of_texts read_texts
      named-read = ap (entries_of read_faces) numbers ∙ entries-read 0 cell_texts

      counted-read : length refs ≡ length read_faces
      counted-read = ap length numbers ∙ length-map cell_texts (λ (t : CellText). t.refs) ∙ sym count-faces

      pub made : IsBag H cells refs f.roots
      made =
          let both = option_or-none (cells_fault H 0 read_texts read_faces) (option_map Clash (clash_of H read_faces)) sound in
          let clear = option_map-none Clash (clash_of H read_faces) both.1 in
          subst (λ (fs : List FaceView). IsBag H fs refs f.roots) (sym filled) (bag_made read_texts bag.texts both.0 clear refs named-read counted-read f.roots bag.rooted)

      pub trees-read : root_trees cells refs f.roots ≡ map (unfolding_of (entries_of_texts read_texts)) f.roots
      trees-read = ap (λ (fs : List FaceView). root_trees fs refs f.roots) filled ∙ ap (λ (x : List Entry). map (unfolding_of x) f.roots) named-read

  -- what was read of bytes spells the trees of the roots, where it has no fault
  pub spelt-read : (bytes : List ℕ) → IsBytes bytes → (f : Frame) (ts : List Text) → bag_at bytes ≡ bag_read (f, ts) → fault_of_texts H ts ≡ None → Spells H bytes (map (unfolding_of (entries_of_texts ts)) f.roots)
  spelt-read bytes fit f ts read none =
      let both = option_or-none (cells_fault H 0 ts (faces_of_texts H ts)) (option_map Clash (clash_of H (faces_of_texts H ts))) none in
      let clear = option_map-none Clash (clash_of H (faces_of_texts H ts)) both.1 in
      let found = bag_at-found bytes f ts fit read in
      spelt_alone bytes f ts found.0 found.1 both.0 clear

  -- bytes without a fault spell some trees
  spelt_by : (bytes : List ℕ) → IsBytes bytes → (r : Result (Frame × List Text) BagFault) → bag_at bytes ≡ r → fault_in H r ≡ None → (trees : List Tree) × Spells H bytes trees
  spelt_by bytes fit (Err e) read none = absurd cc
  spelt_by bytes fit (Ok x) read none = (map (unfolding_of (entries_of_texts x.1)) x.0.roots, spelt-read bytes fit x.0 x.1 read none)

  pub spelt_where_no_fault : (bytes : List ℕ) → IsBytes bytes → bag_fault H bytes ≡ None → (trees : List Tree) × Spells H bytes trees
  spelt_where_no_fault bytes fit none = spelt_by bytes fit (bag_at bytes) refl none
