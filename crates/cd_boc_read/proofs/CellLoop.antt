-- Faces filled from the last cell downwards, with the first fault on that way.
use Rattle.std.proofs.Common.{◌≡◌, ℕ, zero, suc, ◌+◌, ◌<◌, ◌≤◌, List, [], ◌∷◌, length, replicate, get_or, set, drop, map, Some, None, refl, sym, ap, ap₂, ◌∙◌, arith}
use Rattle.std.specs.Option.{option_or}
use Rattle.std.proofs.lemmas.List.{length-map, get_or-map, same_lists, drop_all, drop_more, drop-set, length-set, get_or-set_other}
use Rattle.cd_base.specs.declared.hash.Hash256.{Hash256}
use Rattle.cd_cell.specs.declared.info.ChildInfo.{ChildInfo}
use Rattle.cd_cell.specs.FaceView.{FaceView}
use Rattle.cd_cell.specs.Levels.{info_of_face}
use Rattle.cd_cell.specs.CellFaults.{no_info}
use Rattle.cd_cell.specs.Tree.{info_of}
use Rattle.cd_cell.specs.Unfolding.{Entry, no_tree, behind, face_of_entry, infos_from, faces_from}
use Rattle.cd_cell.specs.Bags.{no_face, face_at}
use Rattle.cd_cell.proofs.Unfoldings.{behind-drop, drop-faces_from, infos_from-end, faces_from-end, infos_from-set, faces_from-set}
use Rattle.cd_boc_write.specs.CellTexts.{Text, entries_of_texts}
use Rattle.cd_boc_read.specs.declared.bag_fault.BagFault.{BagFault}
use Rattle.cd_boc_read.specs.declared.cell_text.CellText.{CellText}
use Rattle.cd_boc_read.specs.Grammar.{IsText}
use Rattle.cd_boc_read.specs.Views.{text_view, text_views}
use Rattle.cd_boc_read.specs.CellFaults.{cell_fault, cells_fault}

-- what was read of a cell's text
pub text_read : (texts : List CellText) (i : ℕ) (t : CellText) → i < length texts → t ≡ get_or texts i t → get_or (text_views texts) i (text_view t) ≡ text_view t
text_read texts i t below is = get_or-map text_view texts i t (text_view t) below ∙ ap text_view (sym is)

pub length-text_views : (texts : List CellText) → length (text_views texts) ≡ length texts
length-text_views texts = length-map texts text_view

pub length-entries : (ts : List Text) → length (entries_of_texts ts) ≡ length ts
length-entries ts = length-map ts (λ (t : Text). t.entry)

pub entry_at : (ts : List Text) (i : ℕ) (t : Text) → i < length ts → get_or ts i t ≡ t → get_or (entries_of_texts ts) i t.entry ≡ t.entry
entry_at ts i t below at = get_or-map (λ (t : Text). t.entry) ts i t t.entry below ∙ ap (λ (t : Text). t.entry) at

bare_at : (n : ℕ) (face : FaceView) → face.kids ≡ [] → (k : ℕ) → (get_or (replicate n face) k no_face).kids ≡ []
bare_at zero face bare k = refl
bare_at (suc n) face bare zero = bare
bare_at (suc n) face bare (suc k) = bare_at n face bare k

-- ---- faults of the cells behind a cell

module _ (H : List ℕ → Hash256) where
  pub cells_fault-cons : (i : ℕ) (t : Text) (ts : List Text) (f : FaceView) (fs : List FaceView) → cells_fault H i (t ∷ ts) (f ∷ fs) ≡ option_or (cells_fault H (i + 1) ts fs) (cell_fault H i t f)
  unfolding cells_fault
  cells_fault-cons i t ts f fs = refl

  pub cells_fault-nil : (i : ℕ) (fs : List FaceView) → cells_fault H i [] fs ≡ None
  unfolding cells_fault
  cells_fault-nil i fs = refl

  cells_fault-no_faces : (i : ℕ) (ts : List Text) → cells_fault H i ts [] ≡ None
  unfolding cells_fault
  cells_fault-no_faces i [] = refl
  cells_fault-no_faces i (t ∷ ts) = refl

  -- a fault of the cells from one on is the first
  cells_fault-from : (k i n : ℕ) (ts : List Text) (fs : List FaceView) (e : BagFault) → i + k ≡ n → cells_fault H n (drop k ts) (drop k fs) ≡ Some e → cells_fault H i ts fs ≡ Some e
  cells_fault-from zero i n ts fs e at found = ap (λ m. cells_fault H m ts fs) (let same : i ≡ n = omega arith in same) ∙ found
  cells_fault-from (suc k) i n [] fs e at found = let none = cells_fault-nil n (drop (suc k) fs) in absurd cc
  cells_fault-from (suc k) i n (t ∷ ts) [] e at found = let none = cells_fault-no_faces n (drop k ts) in absurd cc
  cells_fault-from (suc k) i n (t ∷ ts) (f ∷ fs) e at found =
      cells_fault-cons i t ts f fs
      ∙ ap (λ x. option_or x (cell_fault H i t f)) (cells_fault-from k (i + 1) n ts fs e (let next : i + 1 + k ≡ n = omega arith in next) found)

  -- kids that are looked up among all infos are those that stand behind
  module _ (ts : List Text) (infos : List ChildInfo) (i : ℕ) (t : Text) (text : IsText (length ts) i t) (long : length infos ≡ length ts) where
    kids-looked_up : map (behind i (drop (i + 1) infos) (info_of H no_tree)) t.entry.refs ≡ map (λ r. get_or infos r no_info) t.entry.refs
    kids-looked_up =
        let refs = t.entry.refs in
        same_lists _ _
        (length-map refs (behind i (drop (i + 1) infos) (info_of H no_tree)) ∙ sym (length-map refs (λ r. get_or infos r no_info)))
        (λ p d in-mapped.
        let in-refs : p < length refs = omega (arith, length-map refs (behind i (drop (i + 1) infos) (info_of H no_tree)), in-mapped) in
        get_or-map (behind i (drop (i + 1) infos) (info_of H no_tree)) refs p 0 d in-refs
        ∙ behind-drop i infos (info_of H no_tree) no_info (get_or refs p 0) (text.later p in-refs) (omega (arith, text.there p in-refs, long))
        ∙ sym (get_or-map (λ r. get_or infos r no_info) refs p 0 d in-refs))

    pub face-looked_up : record { exotic = t.entry.exotic; bits = t.entry.bits; kids = map (λ r. get_or infos r no_info) t.entry.refs } ≡ face_of_entry H i t.entry (drop (i + 1) infos)
    face-looked_up = ap (λ ks. record { exotic = t.entry.exotic; bits = t.entry.bits; kids = ks }) (sym kids-looked_up)

  -- the cells from this one on have their faces, and no fault
  pub record AreFilled (ts : List Text) (left : ℕ) (faces : List FaceView) (infos : List ChildInfo) : Type 0 where
    pub within : left ≤ length ts
    pub long_faces : length faces ≡ length ts
    pub long_infos : length infos ≡ length ts
    pub faces_are : drop left faces ≡ faces_from H left (drop left (entries_of_texts ts))
    pub infos_are : drop left infos ≡ infos_from H left (drop left (entries_of_texts ts))
    pub bare : (k : ℕ) → k < left → (face_at faces k).kids ≡ []
    pub sound : cells_fault H left (drop left ts) (drop left faces) ≡ None

  pub filled_none : (ts : List Text) (left : ℕ) (faces : List FaceView) (infos : List ChildInfo) → left ≡ length ts → length faces ≡ length ts → length infos ≡ length ts → ((k : ℕ) → k < left → (face_at faces k).kids ≡ []) → AreFilled ts left faces infos
  filled_none ts left faces infos at long-faces long-infos bare =
      let es = entries_of_texts ts in
      let none : drop left es ≡ [] = drop_all left es (omega (arith, length-entries ts)) in
      record {
        within = omega arith;
        long_faces = long-faces;
        long_infos = long-infos;
        faces_are = drop_all left faces (omega arith) ∙ sym (faces_from-end H left) ∙ ap (faces_from H left) (sym none);
        infos_are = drop_all left infos (omega arith) ∙ sym (infos_from-end H left) ∙ ap (infos_from H left) (sym none);
        bare = bare;
        sound = ap (λ (xs : List Text). cells_fault H left xs (drop left faces)) (drop_all left ts (omega arith)) ∙ cells_fault-nil left (drop left faces);
      }

  module _ (ts : List Text) (left : ℕ) (faces : List FaceView) (infos : List ChildInfo) (so_far : AreFilled ts left faces infos) (i : ℕ) (next : i + 1 ≡ left) (t : Text) (at : get_or ts i t ≡ t) (text : IsText (length ts) i t) (face : FaceView)
      (is : face ≡ record { exotic = t.entry.exotic; bits = t.entry.bits; kids = map (λ r. get_or infos r no_info) t.entry.refs }) where
    abbrev es : List Entry
    es = entries_of_texts ts

    below : i < length ts
    below = omega (arith, so_far.within)

    in-entries : i < length es
    in-entries = omega (arith, below, length-entries ts)

    face-here : face ≡ face_of_entry H i (get_or es i t.entry) (drop (i + 1) infos)
    face-here = is ∙ face-looked_up ts infos i t text so_far.long_infos ∙ ap (λ e. face_of_entry H i e (drop (i + 1) infos)) (sym (entry_at ts i t below at))

    infos-behind : drop (i + 1) infos ≡ infos_from H (i + 1) (drop (i + 1) es)
    infos-behind = ap (λ n. drop n infos) next ∙ so_far.infos_are ∙ ap (λ n. infos_from H n (drop n es)) (sym next)

    faces-behind : drop (i + 1) faces ≡ faces_from H (i + 1) (drop (i + 1) es)
    faces-behind = ap (λ n. drop n faces) next ∙ so_far.faces_are ∙ ap (λ n. faces_from H n (drop n es)) (sym next)

    faces-more : drop i (set faces i face) ≡ faces_from H i (drop i es)
    faces-more =
        ap (λ f. drop i (set faces i f)) face-here
        ∙ faces_from-set H i es infos faces t.entry in-entries (so_far.long_faces ∙ sym (length-entries ts)) infos-behind faces-behind

    -- the cells behind have no fault, so the first one is this cell's
    fault-more : cells_fault H i (drop i ts) (drop i (set faces i face)) ≡ cell_fault H i t face
    fault-more =
        let here : drop i ts ≡ t ∷ drop (i + 1) ts = drop_more ts i t below ∙ ap (λ x. x ∷ drop (i + 1) ts) at in
        let put : drop i (set faces i face) ≡ face ∷ drop (i + 1) faces = drop-set faces i face (omega (arith, below, so_far.long_faces)) in
        let none : cells_fault H (i + 1) (drop (i + 1) ts) (drop (i + 1) faces) ≡ None = ap (λ n. cells_fault H n (drop n ts) (drop n faces)) next ∙ so_far.sound in
        ap₂ (λ (xs : List Text) (fs : List FaceView). cells_fault H i xs fs) here put
        ∙ cells_fault-cons i t (drop (i + 1) ts) face (drop (i + 1) faces)
        ∙ ap (λ x. option_or x (cell_fault H i t face)) none

    pub fault-here : (e : BagFault) → cell_fault H i t face ≡ Some e → cells_fault H 0 ts (faces_from H 0 es) ≡ Some e
    fault-here e found =
        cells_fault-from i 0 i ts (faces_from H 0 es) e (let same : 0 + i ≡ i = omega arith in same)
        (ap (λ fs. cells_fault H i (drop i ts) fs) (drop-faces_from H i es ∙ sym faces-more) ∙ fault-more ∙ found)

    pub filled_more : cell_fault H i t face ≡ None → AreFilled ts i (set faces i face) (set infos i (info_of_face H face))
    filled_more none =
        record {
          within = omega (arith, below);
          long_faces = length-set faces i face ∙ so_far.long_faces;
          long_infos = length-set infos i (info_of_face H face) ∙ so_far.long_infos;
          faces_are = faces-more;
          infos_are = ap (λ f. drop i (set infos i (info_of_face H f))) face-here ∙ infos_from-set H i es infos t.entry in-entries (so_far.long_infos ∙ sym (length-entries ts)) infos-behind;
          bare = λ k early. ap (λ (f : FaceView). f.kids) (get_or-set_other faces i k face no_face (λ (same : k ≡ i). omega (arith, early, same))) ∙ so_far.bare k (omega (arith, early));
          sound = fault-more ∙ none;
        }

-- faces without children, all of them one face
pub bare_all : (n : ℕ) (face : FaceView) (faces : List FaceView) → faces ≡ replicate n face → face.kids ≡ [] → (k : ℕ) → (face_at faces k).kids ≡ []
bare_all n face faces all bare k = ap (λ fs. (get_or fs k no_face).kids) all ∙ bare_at n face bare k
