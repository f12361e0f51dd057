-- A cell has no fault exactly where it is well-formed and its text states what is so.
use Rattle.std.proofs.Common.{◌≡◌, ◌≢◌, ℕ, zero, suc, ◌+◌, ◌<◌, ◌≤◌, Bool, true, false, not, ◌&&◌, ◌==◌, nat_lt, List, [], ◌∷◌, length, get_or, drop, map, Contains, Option, Some, None, is_some, IfSome, refl, sym, ap, subst, ◌∙◌, arith}
use Rattle.std.specs.Prelude.{if◌then◌else◌}
use Rattle.std.specs.Option.{option_or, option_map}
use Rattle.std.specs.Cmp.Lexicographic.{bytes_decides}
use Rattle.std.proofs.lemmas.Bool.{eqb-true}
use Rattle.std.proofs.lemmas.Bool.Decides.{Decides-eqb}
use Rattle.std.proofs.lemmas.List.{length-map, get_or-map, get_or_default}
use Rattle.cd_base.specs.declared.hash.Hash256.{Hash256}
use Rattle.cd_cell.specs.declared.info.ChildInfo.{ChildInfo}
use Rattle.cd_cell.specs.declared.kind.Kind.{Kind}
use Rattle.cd_cell.specs.declared.kind.Kind.TheVariants.{Ordinary, Pruned, Library, Proof, Update}
use Rattle.cd_cell.specs.FaceView.{FaceView}
use Rattle.cd_cell.specs.Levels.{exotic_kind, kind_of_face, is_pruned, mask_of_face, info_of_face}
use Rattle.cd_cell.specs.CellFaults.{first_byte, face_fault}
use Rattle.cd_cell.specs.Fit.{IsFaceFit}
use Rattle.cd_cell.specs.GoodFace.{IsGoodFace}
use Rattle.cd_cell.specs.StoredText.{stored_text}
use Rattle.cd_cell.specs.Tree.{Tree, children, info_of, face_of, kind_of, IsWellFormed}
use Rattle.cd_cell.specs.Unfolding.{Entry, no_tree, behind, unfold_from, unfolding_of, AreLater, infos_from, faces_from}
use Rattle.cd_cell.specs.Bags.{no_face, face_at}
use Rattle.cd_cell.proofs.Subtrees.{list_of-trees_of, Contains-map, info_of-face_of, IsWellFormed-from}
use Rattle.cd_cell.proofs.FitLemmas.{fit_from_no_fault}
use Rattle.cd_cell.proofs.WellFormedCells.{no_fault_of_well_formed}
use Rattle.cd_cell.proofs.Unfoldings.{faces_from-is, faces_from-at, length-faces_from, length-unfold_from, unfolding_of-is, behind-drop}
use Rattle.cd_boc_write.specs.CellTexts.{Text, entries_of_texts}
use Rattle.cd_boc_read.specs.declared.bag_fault.BagFault.{BagFault}
use Rattle.cd_boc_read.specs.declared.bag_fault.BagFault.TheVariants.{PrunedHashes, Cell, MaskDiffers, StoredHash}
use Rattle.cd_boc_read.specs.Grammar.{IsStated}
use Rattle.cd_boc_read.specs.CellFaults.{unless, stores_pruned, is_shown, cell_fault, cells_fault}
use Rattle.cd_boc_read.specs.BagFaults.{AreTexts}
use Rattle.cd_boc_read.proofs.CellLoop.{cells_fault-cons, cells_fault-nil, length-entries}

-- ---- no fault of several

pub option_or-none : {A : Type 0} (a b : Option A) → option_or a b ≡ None → (a ≡ None) × (b ≡ None)
option_or-none None b e = (refl, e)
option_or-none (Some x) b e = absurd cc

pub none-option_or : {A : Type 0} (a b : Option A) → a ≡ None → b ≡ None → option_or a b ≡ None
none-option_or a b e h = ap (λ x. option_or x b) e ∙ h

pub option_map-none : {A B : Type 0} (f : A → B) (o : Option A) → option_map f o ≡ None → o ≡ None
option_map-none f None e = refl
option_map-none f (Some x) e = absurd cc

unless-none : (b : Bool) (e : BagFault) → unless b e ≡ None → b ≡ true
unless-none true e h = refl
unless-none false e h = absurd cc

not-not : (b : Bool) → not b ≡ true → b ≡ false
not-not true e = sym e
not-not false e = refl

-- ---- one cell

pruned-first : (a b c d : Bool) → is_pruned (if a then Some Pruned else if b then Some Library else if c then Some Proof else if d then Some Update else None) ≡ a
pruned-first true b c d = refl
pruned-first false true c d = refl
pruned-first false false true d = refl
pruned-first false false false true = refl
pruned-first false false false false = refl

pruned-kind : (exotic short : Bool) (byte : ℕ) (kind : Option Kind) → kind ≡ (if exotic then (if short then None else exotic_kind byte) else Some Ordinary) → kind ≢ None → is_pruned kind ≡ (exotic && (byte == 1))
pruned-kind true true byte kind is known = absurd (known is)
pruned-kind true false byte kind is known = ap is_pruned is ∙ pruned-first (byte == 1) (byte == 2) (byte == 3) (byte == 4)
pruned-kind false short byte kind is known = ap is_pruned is

-- a fit cell is a pruned branch where it is exotic and its first byte says so
is_pruned-fit : (f : FaceView) → IsFaceFit f → is_pruned (kind_of_face f) ≡ (f.exotic && (first_byte f == 1))
is_pruned-fit f fit = pruned-kind f.exotic (nat_lt (length f.bits) 8) (first_byte f) (kind_of_face f) refl fit.known

-- what is stored, as a test and as a fact
stored-fact : (stored : Option (List ℕ)) (exotic first pruned : Bool) (info : ChildInfo) → pruned ≡ (exotic && first) → ((exotic && is_some stored) && first) ≡ false → is_shown stored info ≡ true
    → IfSome stored (λ bytes. (pruned ≡ false) × (bytes ≡ stored_text info))
stored-fact None exotic first pruned info is none shown = tt
stored-fact (Some bytes) true first pruned info is none shown = (is ∙ none, (bytes_decides bytes (stored_text info)).0 shown)
stored-fact (Some bytes) false first pruned info is none shown = (is, (bytes_decides bytes (stored_text info)).0 shown)

fact-pruned : (stored : Option (List ℕ)) (exotic first pruned : Bool) (info : ChildInfo) → pruned ≡ (exotic && first) → IfSome stored (λ bytes. (pruned ≡ false) × (bytes ≡ stored_text info)) → ((exotic && is_some stored) && first) ≡ false
fact-pruned None true first pruned info is stated = refl
fact-pruned None false first pruned info is stated = refl
fact-pruned (Some bytes) true first pruned info is stated = sym is ∙ stated.0
fact-pruned (Some bytes) false first pruned info is stated = refl

fact-shown : (stored : Option (List ℕ)) (pruned : Bool) (info : ChildInfo) → IfSome stored (λ bytes. (pruned ≡ false) × (bytes ≡ stored_text info)) → is_shown stored info ≡ true
fact-shown None pruned info stated = refl
fact-shown (Some bytes) pruned info stated = (bytes_decides bytes (stored_text info)).1 stated.1

module _ (H : List ℕ → Hash256) where
  -- a cell without a fault
  pub record IsSound (t : Text) (f : FaceView) : Type 0 where
    pub pruned : stores_pruned t f ≡ false
    pub fault : face_fault f ≡ None
    pub mask : t.mask ≡ mask_of_face f
    pub shown : is_shown t.stored (info_of_face H f) ≡ true

  pub IsSound-no_fault : (number : ℕ) (t : Text) (f : FaceView) → cell_fault H number t f ≡ None → IsSound t f
  IsSound-no_fault number t f none =
      let a = option_or-none (unless (not (stores_pruned t f)) (PrunedHashes number)) _ none in
      let b = option_or-none (option_map (Cell number) (face_fault f)) _ a.1 in
      let c = option_or-none (unless (t.mask == mask_of_face f) (MaskDiffers number)) _ b.1 in
      record {
        pruned = not-not (stores_pruned t f) (unless-none (not (stores_pruned t f)) (PrunedHashes number) a.0);
        fault = option_map-none (Cell number) (face_fault f) b.0;
        mask = eqb-true t.mask (mask_of_face f) (unless-none (t.mask == mask_of_face f) (MaskDiffers number) c.0);
        shown = unless-none (is_shown t.stored (info_of_face H f)) (StoredHash number) c.1;
      }

  pub no_fault-IsSound : (number : ℕ) (t : Text) (f : FaceView) → IsSound t f → cell_fault H number t f ≡ None
  no_fault-IsSound number t f sound =
      none-option_or _ _ (ap (λ b. unless (not b) (PrunedHashes number)) sound.pruned)
      (none-option_or _ _ (ap (option_map (Cell number)) sound.fault)
      (none-option_or _ _ (ap (λ b. unless b (MaskDiffers number)) ((Decides-eqb t.mask (mask_of_face f)).1 sound.mask))
      (ap (λ b. unless b (StoredHash number)) sound.shown)))

  pub cells-sound : (i : ℕ) (ts : List Text) (fs : List FaceView) → cells_fault H i ts fs ≡ None → (k : ℕ) (t : Text) (f : FaceView) → k < length ts → k < length fs → IsSound (get_or ts k t) (get_or fs k f)
  cells-sound i [] fs none k t f in-ts in-fs = absurd (omega arith)
  cells-sound i (x ∷ ts) [] none k t f in-ts in-fs = absurd (omega arith)
  cells-sound i (x ∷ ts) (y ∷ fs) none zero t f in-ts in-fs =
      IsSound-no_fault i x y (option_or-none (cells_fault H (i + 1) ts fs) (cell_fault H i x y) (sym (cells_fault-cons H i x ts y fs) ∙ none)).1
  cells-sound i (x ∷ ts) (y ∷ fs) none (suc k) t f in-ts in-fs =
      cells-sound (i + 1) ts fs (option_or-none (cells_fault H (i + 1) ts fs) (cell_fault H i x y) (sym (cells_fault-cons H i x ts y fs) ∙ none)).0 k t f (omega arith) (omega arith)

  pub cells_fault-no_faces : (i : ℕ) (ts : List Text) → cells_fault H i ts [] ≡ None
  unfolding cells_fault
  cells_fault-no_faces i [] = refl
  cells_fault-no_faces i (t ∷ ts) = refl

  pub sound-cells : (i : ℕ) (ts : List Text) (fs : List FaceView) → ((k : ℕ) (t : Text) (f : FaceView) → k < length ts → k < length fs → IsSound (get_or ts k t) (get_or fs k f)) → cells_fault H i ts fs ≡ None
  sound-cells i [] fs each = cells_fault-nil H i fs
  sound-cells i (x ∷ ts) [] each = cells_fault-no_faces i (x ∷ ts)
  sound-cells i (x ∷ ts) (y ∷ fs) each =
      cells_fault-cons H i x ts y fs
      ∙ none-option_or (cells_fault H (i + 1) ts fs) (cell_fault H i x y)
      (sound-cells (i + 1) ts fs (λ k t f in-ts in-fs. each (suc k) t f (omega arith) (omega arith)))
      (no_fault-IsSound i x y (each 0 x y (omega arith) (omega arith)))

  -- by the cell that the entry unfolds to
  module _ (t : Text) (tree : Tree) (f : FaceView) (is : face_of H tree ≡ f) (flag : t.entry.exotic ≡ f.exotic) where
    info-is : info_of H tree ≡ info_of_face H f
    info-is = info_of-face_of H tree ∙ ap (info_of_face H) is

    pruned-is : IsFaceFit f → is_pruned (kind_of H tree) ≡ (t.entry.exotic && (first_byte f == 1))
    pruned-is fit = ap (λ g. is_pruned (kind_of_face g)) is ∙ is_pruned-fit f fit ∙ ap (λ b. b && (first_byte f == 1)) (sym flag)

    pub stated_from_sound : IsSound t f → IsStated H t tree
    stated_from_sound sound =
        let fit = fit_from_no_fault f sound.fault in
        record {
          mask = ap (λ (k : ChildInfo). k.mask) info-is ∙ sym sound.mask;
          stored = stored-fact t.stored t.entry.exotic (first_byte f == 1) (is_pruned (kind_of H tree)) (info_of H tree) (pruned-is fit) sound.pruned (ap (is_shown t.stored) info-is ∙ sound.shown);
        }

    pub sound_from_stated : IsWellFormed H tree → IsStated H t tree → IsSound t f
    sound_from_stated good stated =
        let none = no_fault_of_well_formed H f tree is good in
        let fit = fit_from_no_fault f none in
        record {
          pruned = fact-pruned t.stored t.entry.exotic (first_byte f == 1) (is_pruned (kind_of H tree)) (info_of H tree) (pruned-is fit) stated.stored;
          fault = none;
          mask = sym stated.mask ∙ ap (λ (k : ChildInfo). k.mask) info-is;
          shown = ap (is_shown t.stored) (sym info-is) ∙ fact-shown t.stored (is_pruned (kind_of H tree)) (info_of H tree) stated.stored;
        }

  -- ---- all cells

  module _ (ts : List Text) (texts : AreTexts ts) where
    abbrev es : List Entry
    es = entries_of_texts ts

    abbrev faces : List FaceView
    faces = faces_from H 0 es

    count : length es ≡ length ts
    count = length-entries ts

    entry-of : (k : ℕ) (t : Text) (d : Entry) → k < length ts → get_or es k d ≡ (get_or ts k t).entry
    entry-of k t d in' = get_or-map (λ (x : Text). x.entry) ts k t d in'

    pub later-texts : AreLater es
    later-texts k p d in' in-refs =
        let t : Text = record { entry = d; mask = 0; stored = None } in
        let at = entry-of k t d (omega (arith, count, in')) in
        let text = texts k t (omega (arith, count, in')) in
        let same = ap (λ (e : Entry). get_or e.refs p 0) at in
        let in-text : p < length (get_or ts k t).entry.refs = omega (arith, in-refs, ap (λ (e : Entry). length e.refs) at) in
        (omega (arith, same, text.later p in-text), omega (arith, same, count, text.there p in-text))

    pub face-unfolded : (k : ℕ) → k < length ts → face_at faces k ≡ face_of H (unfolding_of es k)
    face-unfolded k in' = ap (λ fs. get_or fs k no_face) (faces_from-is H 0 es) ∙ get_or-map (face_of H) (unfold_from 0 es) k no_tree no_face (omega (arith, count, length-unfold_from 0 es))

    face-exotic : (k : ℕ) (t : Text) → k < length ts → (get_or ts k t).entry.exotic ≡ (face_at faces k).exotic
    face-exotic k t in' =
        let d = t.entry in
        ap (λ (e : Entry). e.exotic) (sym (entry-of k t d in')) ∙ sym (ap (λ (f : FaceView). f.exotic) (faces_from-at H k es d no_face (omega (arith, count))))

    face-few_bits : (k : ℕ) (t : Text) → k < length ts → length (face_at faces k).bits ≤ 1023
    face-few_bits k t in' =
        let d = t.entry in
        omega (arith, (texts k t in').few_bits, ap (λ (e : Entry). length e.bits) (entry-of k t d in'), ap (λ (f : FaceView). length f.bits) (faces_from-at H k es d no_face (omega (arith, count))))

    face-few_kids : (k : ℕ) (t : Text) → k < length ts → length (face_at faces k).kids ≤ 4
    face-few_kids k t in' =
        let d = t.entry in
        let refs = (get_or es k d).refs in
        let later = drop (k + 1) (infos_from H 0 es) in
        omega (arith, (texts k t in').few_refs, ap (λ (e : Entry). length e.refs) (entry-of k t d in'), ap (λ (f : FaceView). length f.kids) (faces_from-at H k es d no_face (omega (arith, count))), length-map refs (behind k later (info_of H no_tree)))

    child-unfolded : (k : ℕ) (c : Tree) → k < length ts → Contains (children (unfolding_of es k)) c → (r : ℕ) × (k < r) × (r < length ts) × (unfolding_of es r ≡ c)
    child-unfolded k c in' h =
        let d : Entry = record { exotic = false; bits = []; refs = [] } in
        let in-es : k < length es = omega (arith, count) in
        let refs = (get_or es k d).refs in
        let all = unfold_from 0 es in
        let kids = subst (λ cs. Contains cs c) (ap children (unfolding_of-is k es d in-es) ∙ list_of-trees_of (map (behind k (drop (k + 1) all) no_tree) refs)) h in
        let named = Contains-map (behind k (drop (k + 1) all) no_tree) refs c kids in
        let r = named.0 in
        let p = named.1.0 in
        let number : get_or refs p 0 ≡ r = get_or_default refs p 0 r named.1.1 ∙ named.1.2 in
        let range = later-texts k p d in-es named.1.1 in
        let above : k < r = omega (arith, number, range.0) in
        let below : r < length ts = omega (arith, number, range.1, count) in
        (r, above, below, sym (behind-drop k all no_tree no_tree r above (omega (arith, below, count, length-unfold_from 0 es))) ∙ named.2)

    module _ (sound : (k : ℕ) (t : Text) → k < length ts → IsSound (get_or ts k t) (face_at faces k)) where
      abbrev some_text : Text
      some_text = record { entry = record { exotic = false; bits = []; refs = [] }; mask = 0; stored = None }

      pub good-sound : (k : ℕ) → k < length ts → IsGoodFace (face_at faces k)
      good-sound k in' =
          record { bits = face-few_bits k some_text in'; kids = face-few_kids k some_text in'; fit = fit_from_no_fault (face_at faces k) (sound k some_text in').fault }

      well_formed-fuel : (m k : ℕ) → k < length ts → length ts ≤ m + k → IsWellFormed H (unfolding_of es k)
      well_formed-fuel zero k in' fuel = absurd (omega arith)
      well_formed-fuel (suc m) k in' fuel =
          IsWellFormed-from H (unfolding_of es k) (subst IsGoodFace (face-unfolded k in') (good-sound k in'))
          (λ c h.
          let child = child-unfolded k c in' h in
          subst (IsWellFormed H) child.3 (well_formed-fuel m child.0 child.2 (omega (arith, child.1))))

      pub well_formed-sound : (k : ℕ) → k < length ts → IsWellFormed H (unfolding_of es k)
      well_formed-sound k in' = well_formed-fuel (length ts) k in' (omega arith)

      pub stated-sound : (k : ℕ) (t : Text) → k < length ts → IsStated H (get_or ts k t) (unfolding_of es k)
      stated-sound k t in' = stated_from_sound (get_or ts k t) (unfolding_of es k) (face_at faces k) (sym (face-unfolded k in')) (face-exotic k t in') (sound k t in')

    -- the cells have no fault exactly where they are well-formed and stated
    pub sound-no_fault : cells_fault H 0 ts faces ≡ None → (k : ℕ) (t : Text) → k < length ts → IsSound (get_or ts k t) (face_at faces k)
    sound-no_fault none k t in' = cells-sound 0 ts faces none k t no_face in' (omega (arith, count, length-faces_from H 0 es))

    pub no_fault-stated : ((k : ℕ) → k < length ts → IsWellFormed H (unfolding_of es k)) → ((k : ℕ) (t : Text) → k < length ts → IsStated H (get_or ts k t) (unfolding_of es k)) → cells_fault H 0 ts faces ≡ None
    no_fault-stated good stated =
        sound-cells 0 ts faces
        (λ k t f in-ts in-fs.
        subst (IsSound (get_or ts k t)) (get_or_default faces k no_face f in-fs)
        (sound_from_stated (get_or ts k t) (unfolding_of es k) (face_at faces k) (sym (face-unfolded k in-ts)) (face-exotic k t in-ts) (good k in-ts) (stated k t in-ts)))
