-- Faces that were found beside hashes.
use Rattle.std.proofs.Common.{◌≡◌, ⊎_elim, ℕ, zero, suc, ◌+◌, ◌-◌, ◌<◌, ◌≤◌, Bool, true, false, List, [], ◌∷◌, ◌++◌, length, take, drop, Option, Some, refl, sym, ap, ◌∙◌, arith}
use Rattle.std.specs.Prelude.{Contains, slice_get, if◌then◌else◌}
use Rattle.std.proofs.lemmas.Bool.{cases_lt}
use Rattle.std.proofs.lemmas.List.{take_at}
use Rattle.std.proofs.lemmas.Option.{none-some, same_Some, slice_get-get_or}
use Rattle.cd_base.specs.declared.hash.Hash256.{Hash256}
use Rattle.cd_cell.specs.FaceView.{FaceView}
use Rattle.cd_cell.specs.Tree.{Tree, subtrees, rep_of, face_of}
use Rattle.cd_cell.specs.Equality.{same_hash, same_hash-Decides}
use Rattle.cd_event.specs.Turning.{AreFacesOf}
use Rattle.cd_update.specs.Pairing.{beside}

module _ {X : Type 0} where
  get-left : (xs ys : List X) (k : ℕ) → k < length xs → slice_get (xs ++ ys) k ≡ slice_get xs k
  get-left [] ys k low = absurd (omega arith)
  get-left (x ∷ xs) ys zero low = refl
  get-left (x ∷ xs) ys (suc k) low = get-left xs ys k (omega arith)

  get-right : (xs ys : List X) (k : ℕ) → slice_get (xs ++ ys) (length xs + k) ≡ slice_get ys k
  get-right [] ys k = ap (slice_get ys) (let z : 0 + k ≡ k = omega arith in z)
  get-right (x ∷ xs) ys k = ap (slice_get (x ∷ xs ++ ys)) (let z : suc (length xs) + k ≡ suc (length xs + k) = omega arith in z) ∙ get-right xs ys k

  take-nil : (m : ℕ) → take {A = X} m [] ≡ []
  take-nil zero = refl
  take-nil (suc m) = refl

  take-more : (a n : ℕ) (xs : List X) → take (a + n) xs ≡ take a xs ++ take n (drop a xs)
  take-more zero n xs = ap (λ m. take m xs) (let z : 0 + n ≡ n = omega arith in z)
  take-more (suc a) n [] = ap (λ m. take {A = X} m []) (let z : suc a + n ≡ suc (a + n) = omega arith in z) ∙ sym (take-nil n)
  take-more (suc a) n (x ∷ xs) = ap (λ m. take m (x ∷ xs)) (let z : suc a + n ≡ suc (a + n) = omega arith in z) ∙ ap (λ l. x ∷ l) (take-more a n xs)

  pub take-upto : (a b : ℕ) (xs : List X) → a ≤ b → take b xs ≡ take a xs ++ take (b - a) (drop a xs)
  take-upto a b xs le = ap (λ m. take m xs) (let z : b ≡ a + (b - a) = omega arith in z) ∙ take-more a (b - a) xs

-- a list that was written in its place
pub written_is : {X : Type 0} (len : ℕ) (items new : List X) → len ≡ length items → length new ≡ length items → take len (new ++ drop (length new) items) ≡ new
written_is len items new fits same = ap (λ n. take n (new ++ drop (length new) items)) (fits ∙ sym same) ∙ take_at new (drop (length new) items) (length new) refl

module _ (digest : List ℕ → Hash256) (t : Tree) where
  pub faces-append : (hs gs : List Hash256) (fs es : List (Option FaceView)) → length fs ≡ length hs → AreFacesOf digest t hs fs → AreFacesOf digest t gs es → AreFacesOf digest t (hs ++ gs) (fs ++ es)
  faces-append hs gs fs es count first next k s in' at = ⊎_elim
      (λ (low : k < length hs).
      let fits : k < length fs = omega arith in
      get-left fs es k fits ∙ first k s in' (sym (get-left hs gs k low) ∙ at))
      (λ (high : length hs ≤ k).
      let back : length hs + (k - length hs) ≡ k = omega arith in
      let back' : length fs + (k - length hs) ≡ k = omega arith in
      ap (slice_get (fs ++ es)) (sym back') ∙ (get-right fs es (k - length hs)
      ∙ next (k - length hs) s in' (sym (get-right hs gs (k - length hs)) ∙ (ap (slice_get (hs ++ gs)) back ∙ at))))
      (cases_lt k (length hs))

  -- the face that stands beside the hash of a cell
  beside_at : (hs : List Hash256) (fs : List (Option FaceView)) → AreFacesOf digest t hs fs → (s : Tree) → Contains (subtrees t) s → (k : ℕ) → slice_get hs k ≡ Some (rep_of digest s) → beside hs fs (rep_of digest s) ≡ Some (face_of digest s)
  beside_at [] fs are s in' k at = absurd (none-some (rep_of digest s) at)
  beside_at (h ∷ hs) [] are s in' k at = absurd (none-some (Some (face_of digest s)) (are k s in' at))
  beside_at (h ∷ hs) (f ∷ fs) are s in' k at = by (same_hash h (rep_of digest s)) refl k at (λ j its. beside_at hs fs (λ i c in'' also. are (suc i) c in'' also) s in' j its)
    where
      by : (b : Bool) → same_hash h (rep_of digest s) ≡ b → (k : ℕ) → slice_get (h ∷ hs) k ≡ Some (rep_of digest s) → ((j : ℕ) → slice_get hs j ≡ Some (rep_of digest s) → beside hs fs (rep_of digest s) ≡ Some (face_of digest s))
          → (if b then f else beside hs fs (rep_of digest s)) ≡ Some (face_of digest s)
      by true same k at further = same_Some f (Some (face_of digest s)) (are 0 s in' (ap (λ x. Some x) ((same_hash-Decides h (rep_of digest s)).0 same)))
      by false other zero at further =
          let same : same_hash h (rep_of digest s) ≡ true = (same_hash-Decides h (rep_of digest s)).1 (same_Some h (rep_of digest s) at) in
          let never : true ≡ false = sym same ∙ other in
          absurd (cc never)
      by false other (suc k) at further = further k at

  pub beside_found : (hs : List Hash256) (fs : List (Option FaceView)) → AreFacesOf digest t hs fs → (s : Tree) → Contains (subtrees t) s → Contains hs (rep_of digest s) → beside hs fs (rep_of digest s) ≡ Some (face_of digest s)
  beside_found hs fs are s in' among =
      beside_at hs fs are s in' among.0 (slice_get-get_or hs among.0 (rep_of digest s) among.1 ∙ ap (λ x. Some x) among.2)
