-- The empty cell as a state, and what a worker's one pin on it tells.
use Rattle.std.proofs.Common.{◌≡◌, ℕ, ◌+◌, ◌≤◌, ◌<◌, Bool, true, false, List, [], ◌∷◌, ◌++◌, length, Option, Some, None, refl, sym, ap, ◌∙◌, subst, arith, lit≤, lit<, zero, suc, get_or, length-append, inl, inr}
use Rattle.std.specs.Prelude.{Contains, All, IfSome, IsTrue, slice_get, take, ◌||◌, if◌then◌else◌}
use Rattle.std.specs.Option.{option_and_then}
use Rattle.std.proofs.lemmas.List.Elements.{All-contains, All-from_recursion, All-push}
use Rattle.std.proofs.lemmas.Option.{slice_get-get_or, get_or_from_slice_get, slice_get_within}
use Rattle.std.proofs.Math.ListN.{get_or-append}
use Rattle.std.proofs.Math.Seq.{get_or-append_seam}
use Rattle.std.proofs.lemmas.Bool.Decides.{leb_tells}
use Rattle.cd_base.specs.declared.hash.Hash256.{Hash256}
use Rattle.cd_cell.specs.declared.info.ChildInfo.{ChildInfo}
use Rattle.cd_cell.specs.FaceView.{FaceView}
use Rattle.cd_cell.specs.Infos.{rep_of_info}
use Rattle.cd_cell.specs.GoodFace.{IsGoodFace}
use Rattle.cd_cell.specs.Levels.{plain_hash, plain_depth}
use Rattle.cd_cell.specs.Fit.{IsFaceFit}
use Rattle.cd_cell.specs.Tree.{Tree, info_of, face_of, rep_of}
use Rattle.cd_cell.specs.Export.{AreClashFree}
use Rattle.cd_cell.specs.declared.new_cell.NewCell.{NewCell}
use Rattle.cd_cell.specs.Levels.{rep_of_face}
use Rattle.cd_cell.specs.Listings.{IsValid, Fits, listed_at, is_named, info_of_new}
use Rattle.cd_cell.specs.Equality.{same_info-Decides}
use Rattle.cd_event.specs.declared.entry.Entry.{Entry}
use Rattle.cd_event.specs.Pins.{Named, Holds, IsPlain, IsState, AreStates, AddsPin}
use Rattle.cd_event.specs.Turning.{AreFacesOf, AreGood, AreHeldFaces}
use Rattle.cd_event_tests.specs.Tiny.{empty_state, pins_of}

-- what a search in one pin finds
only_found : (b : Bool) (pin : Named) (t e : Tree) → pin.tree ≡ Some e → option_and_then (λ (m : Named). m.tree) (if b then Some pin else None) ≡ Some t → t ≡ e
only_found true pin t e is told = cc
only_found false pin t e is told = cc

if_zero : (b : Bool) (n : ℕ) → n ≡ 0 → (if b then 0 else n) ≡ 0
if_zero true n is = refl
if_zero false n is = is

push_at : {A : Type 0} (xs : List A) (y : A) → slice_get (xs ++ y ∷ []) (length xs) ≡ Some y
push_at xs y = slice_get-get_or (xs ++ y ∷ []) (length xs) y (let l = length-append xs (y ∷ []) in omega arith) ∙ ap (λ x. Some x) (get_or-append_seam xs y [] y)

push_before : {A : Type 0} (xs : List A) (y : A) (k : ℕ) → k < length xs → slice_get (xs ++ y ∷ []) k ≡ slice_get xs k
push_before xs y k low = slice_get-get_or (xs ++ y ∷ []) k y (let l = length-append xs (y ∷ []) in omega arith) ∙ ap (λ x. Some x) (get_or-append xs (y ∷ []) y k low) ∙ sym (slice_get-get_or xs k y low)

module _ (H : List ℕ → Hash256) where
  no_depth : (l : ℕ) → plain_depth (face_of H empty_state) l ≡ 0
  unfolding plain_depth
  no_depth zero = refl
  no_depth (suc l) = if_zero _ _ (no_depth l)

  depth_few : (l : ℕ) → l ≤ 3 → plain_depth (face_of H empty_state) l ≤ 1024
  depth_few l few = let none = no_depth l in omega arith

  pub empty_fits : IsFaceFit (face_of H empty_state)
  empty_fits = record { known = λ e. cc; pruned = λ e. cc; library = λ e. cc; proof = λ e. cc; update = λ e. cc; depths = depth_few }

  pub empty_is_good : IsGoodFace (face_of H empty_state)
  empty_is_good = record { bits = lit≤ tt; kids = lit≤ tt; fit = empty_fits }

  -- its root has no level
  pub empty_is_plain : IsPlain (info_of H empty_state)
  unfolding plain_hash plain_depth
  empty_is_plain = record { mask = refl; hashes = refl; depths = refl; shallow = lit≤ tt }

  -- it is the only cell of one such state, and of two
  only_one : (s : Tree) → Contains (empty_state ∷ []) s → s ≡ empty_state
  only_one s here = All-contains (λ t. t ≡ empty_state) (empty_state ∷ []) s (All-from_recursion (λ t. t ≡ empty_state) (empty_state ∷ []) (refl, tt)) here

  only_two : (s : Tree) → Contains (empty_state ∷ empty_state ∷ []) s → s ≡ empty_state
  only_two s here = All-contains (λ t. t ≡ empty_state) (empty_state ∷ empty_state ∷ []) s (All-from_recursion (λ t. t ≡ empty_state) (empty_state ∷ empty_state ∷ []) (refl, (refl, tt))) here

  pub empty_is_state : IsState H empty_state
  empty_is_state = record { good = (lit≤ tt, lit≤ tt, empty_fits, tt); clear = λ a b p q same. ap (face_of H) (only_one a p ∙ sym (only_one b q)); plain = refl }

  -- the one pin has this state
  its_state : {X : Type 0} (made : List (Entry X)) (given : Bool) (n : ℕ) (t : Tree) → Holds made (pins_of H given) n t → t ≡ empty_state
  its_state made false n t holds = let told = holds.told in cc
  its_state made true n t holds = only_found _ _ t empty_state refl holds.told

  pub all_are_states : {X : Type 0} (made : List (Entry X)) (given : Bool) → AreStates H made (pins_of H given)
  all_are_states made given = record {
    each = λ n t holds. subst (IsState H) (sym (its_state made given n t holds)) empty_is_state;
    together = λ m n a b p q. let P : Tree → Tree → Type 0 = λ x y. AreClashFree H (x ∷ y ∷ []) in
        subst (λ x. P x b) (sym (its_state made given m a p)) (subst (λ y. P empty_state y) (sym (its_state made given n b q)) (λ x y u v same. ap (face_of H) (only_two x u ∙ sym (only_two y v))));
  }

  -- the first pin
  pub pin_is_added : (given : Bool) (root : ChildInfo) → given ≡ false → root ≡ info_of H empty_state → AddsPin H (pins_of H given) (pins_of H true) (record { pin = 0; root = root })
  pin_is_added given root none is = subst (λ g. AddsPin H (pins_of H g) (pins_of H true) (record { pin = 0; root = root })) (sym none)
      (subst (λ r. AddsPin H [] (pins_of H true) (record { pin = 0; root = r })) (sym is) (record { tree = Some empty_state; added = refl; fresh = refl; plain = empty_is_plain; state = (empty_is_state, refl) }))

  -- faces that are told stay so by one more
  pub faces_more : {X : Type 0} (made : List (Entry X)) (given : Bool) (hashes : List Hash256) (found : List (Option FaceView)) → AreFacesOf H empty_state hashes found → AreHeldFaces H made (pins_of H given) hashes found
  faces_more made given hashes found are n t holds = subst (λ s. AreFacesOf H s hashes found) (sym (its_state made given n t holds)) are

  -- the answers for the first hashes
  pub record FoundSoFar (hashes : List Hash256) (count : ℕ) (found : List (Option FaceView)) : Type 0 where
    pub count_is : length found ≡ count
    pub good : AreGood found
    pub faces : (k : ℕ) → k < count → slice_get hashes k ≡ Some (rep_of H empty_state) → slice_get found k ≡ Some (Some (face_of H empty_state))

  -- one answer more
  pub found_more : (hashes : List Hash256) (n : ℕ) (found : List (Option FaceView)) (answer : Option FaceView) (d : Hash256) → FoundSoFar hashes n found → IfSome answer IsGoodFace
      → (get_or hashes n d ≡ rep_of H empty_state → answer ≡ Some (face_of H empty_state)) → FoundSoFar hashes (n + 1) (found ++ answer ∷ [])
  found_more hashes n found answer d before good is = record {
    count_is = let l = length-append found (answer ∷ []) in let m = before.count_is in omega arith;
    good = All-push (λ face. IfSome face IsGoodFace) found answer before.good good;
    faces = λ k below asked. elim (leb_tells n k) as (λ _. slice_get (found ++ answer ∷ []) k ≡ Some (Some (face_of H empty_state))) [
      | inl here ↦
          let at : k ≡ n = let h = here.1 in omega arith in
          let count = before.count_is in
          let last : slice_get (found ++ answer ∷ []) n ≡ Some answer =
          subst (λ m. slice_get (found ++ answer ∷ []) m ≡ Some answer) count (push_at found answer) in
          ap (slice_get (found ++ answer ∷ [])) at ∙ last ∙ ap (λ x. Some x) (is (get_or_from_slice_get hashes n (rep_of H empty_state) d (subst (λ m. slice_get hashes m ≡ Some (rep_of H empty_state)) at asked)))
      | inr there ↦
          let count = before.count_is in let low = there.1 in
          let inside : k < length found = omega arith in
          push_before found answer k inside ∙ before.faces k low asked
    ];
  }

  -- and all of them
  pub found_all : (hashes : List Hash256) (n : ℕ) (found : List (Option FaceView)) → length hashes ≤ n → FoundSoFar hashes n found → AreFacesOf H empty_state hashes found
  found_all hashes n found end far k s here asked =
      let is = only_one s here in
      let at : slice_get hashes k ≡ Some (rep_of H empty_state) = asked ∙ ap (λ t. Some (rep_of H t)) is in
      let low : k < length hashes = slice_get_within hashes k (rep_of H empty_state) at in
      far.faces k (let e = end in omega arith) at ∙ ap (λ t. Some (Some (face_of H t))) (sym is)

  abbrev pub its_cells : List NewCell
  its_cells = (record { hash = rep_of H empty_state; face = face_of H empty_state }) ∷ []

  -- a fact of the first place holds at each
  at_first : (P : ℕ → Type 0) → P 0 → (k : ℕ) → k < 1 → P k
  at_first P first k low = let at : 0 ≡ k = omega arith in subst P at first

  -- the value that lists it
  pub empty_is_valid : IsValid H (info_of H empty_state) its_cells
  unfolding plain_depth
  empty_is_valid = record {
    good = at_first (λ k. IsGoodFace (let c = listed_at its_cells k in c.face)) empty_is_good;
    masks = All-from_recursion (λ (c : NewCell). All (λ i. i.mask ≤ 7) (let f = c.face in f.kids)) its_cells (All-from_recursion (λ i. i.mask ≤ 7) [] tt, tt);
    hashed = at_first (λ k. (let c = listed_at its_cells k in c.hash) ≡ rep_of_face H (let c = listed_at its_cells k in c.face)) refl;
    ordered = λ i j d low below. let never : ⊥ = omega arith in absurd never;
    distinct = λ i j low below _. let is : i ≡ j = omega arith in is;
    reached = at_first (λ k. IsTrue (is_named H (info_of H empty_state) (take k its_cells) (info_of_new H (listed_at its_cells k)))) (subst (λ b. IsTrue (b || false)) (sym ((same_info-Decides (info_of H empty_state) (info_of H empty_state)).1 refl)) refl);
    plain = refl;
    shallow = lit≤ tt;
  }

  pub empty_fits_whole : Fits H (info_of H empty_state) its_cells []
  empty_fits_whole = record { top = (0, lit< tt, refl); kids = All-from_recursion (λ (c : NewCell). All (Contains (info_of H empty_state ∷ [])) (let f = c.face in f.kids)) its_cells (All-from_recursion (Contains (info_of H empty_state ∷ [])) [] tt, tt) }

  pub cells_are : (root : ChildInfo) (hash : Hash256) (face : FaceView) (items : List NewCell) → root ≡ info_of H empty_state → hash ≡ rep_of_info root → face ≡ face_of H empty_state
      → items ≡ [] ++ (record { hash = hash; face = face }) ∷ [] → items ≡ its_cells
  cells_are root hash face items root_is hash_is face_is are = are ∙ (λ i. (record { hash = (hash_is ∙ ap rep_of_info root_is) i; face = face_is i }) ∷ [])
