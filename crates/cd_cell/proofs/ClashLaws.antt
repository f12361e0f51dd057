-- Two different cells of one hash, by sorted keys, and in lists of faces.
use Rattle.std.proofs.Common.{◌≡◌, ◌≢◌, ℕ, zero, suc, ◌+◌, ◌-◌, ◌<◌, ◌≤◌, Bool, true, false, not, List, [], ◌∷◌, length, get_or, map, All, Contains, Option, Some, None, IsPermutation, IsSorted, refl, sym, ap, subst, ◌∙◌, IfNone, IfSome, ⊎_elim, arith}
use Rattle.std.specs.List.{filter, list_any, zip}
use Rattle.std.proofs.lemmas.Bool.{true≢false, cases_lt, and_parts, and_from, not-true}
use Rattle.std.proofs.lemmas.List.{get_or-map, get_or_default, length-map}
use Rattle.std.proofs.lemmas.List.Elements.{Contains-get_or}
use Rattle.std.proofs.lemmas.List.Sorted.{Contains-permutation, All-permutation, all_adjacent_more}
use Rattle.std.proofs.lemmas.Slice.Zip.{length-zip, get_or-zip}
use Rattle.cd_base.specs.declared.hash.Hash256.{Hash256}
use Rattle.cd_cell.specs.declared.info.ChildInfo.{ChildInfo}
use Rattle.cd_cell.specs.FaceView.{FaceView}
use Rattle.cd_cell.specs.Infos.{no_hash, rep_of_info}
use Rattle.cd_cell.specs.Levels.{info_of_face, rep_of_face}
use Rattle.cd_cell.specs.CellFaults.{no_info}
use Rattle.cd_cell.specs.Equality.{same_hash, same_face, same_hash-Decides, same_face-Decides}
use Rattle.cd_cell.specs.Bags.{no_face, face_at}
use Rattle.cd_cell.proofs.Subtrees.{Contains-nil, Contains-map, Contains-mapped}
use Rattle.cd_cell.specs.Clashes.{least_hash, HashedFace, is_clash, clash_among, with_rep, clash_of}
use Rattle.cd_cell.specs.ClashSearch.{NumberedHash, numbered_from, Agree, AllAgree, no_numbered, numbered_at, IsFirstClash}
use Rattle.cd_cell.proofs.ListTests.{Contains-filter, filter-Contains, list_any-Contains, Contains-list_any, none-left}
use Rattle.cd_cell.proofs.LeastHashes.{IsUpTo, IsUpTo-both, least_hash-is}
use Rattle.cd_cell.proofs.NumberedHashes.{numbered_from-at, length-numbered_from, numbered_cmp, hashes-sorted}

-- ---- keys

module _ (faces : List FaceView) (keys : List NumberedHash) (sorted : IsSorted numbered_cmp keys) where
  -- neighbours that agree make all keys of one hash agree
  agree-far : (high : ℕ) → high ≤ length keys → AllAgree faces keys high → (m i j : ℕ) → i + m ≡ j → j < high → (numbered_at keys i).0 ≡ (numbered_at keys j).0 → face_at faces (numbered_at keys i).1 ≡ face_at faces (numbered_at keys j).1
  agree-far high within all zero i j at in' same = ap (λ p. face_at faces (numbered_at keys p).1) (let one : i ≡ j = omega arith in one)
  agree-far high within all (suc m) i j at in' same =
      let p : ℕ = i + m in
      let next : p + 1 ≡ j = omega arith in
      let low = hashes-sorted keys sorted i p no_numbered (omega arith) (omega arith) in
      let up = hashes-sorted keys sorted p j no_numbered (omega arith) (omega arith) in
      let middle : (numbered_at keys i).0 ≡ (numbered_at keys p).0 = IsUpTo-both (numbered_at keys i).0 (numbered_at keys p).0 (subst (λ h. IsUpTo h (numbered_at keys p).0) (sym same) up) low in
      let here = agree-far high within all m i p refl (omega arith) middle in
      let step = all p no_numbered (omega arith) in
      here ∙ step (sym middle ∙ same ∙ ap (λ q. (numbered_at keys q).0) (sym next)) ∙ ap (λ q. face_at faces (numbered_at keys q).1) next

  pub agree-both : (high : ℕ) → high ≤ length keys → AllAgree faces keys high → (i j : ℕ) → i < high → j < high → (numbered_at keys i).0 ≡ (numbered_at keys j).0 → face_at faces (numbered_at keys i).1 ≡ face_at faces (numbered_at keys j).1
  agree-both high within all i j in-i in-j same =
      ⊎_elim
      (λ later. sym (agree-far high within all (i - j) j i (omega arith) in-i (sym same)))
      (λ before. agree-far high within all (j - i) i j (omega arith) in-j same)
      (cases_lt j i)

-- ---- clashes

least_hash-none : (hs : List Hash256) → least_hash hs ≡ None → hs ≡ []
least_hash-none [] e = refl
least_hash-none (h ∷ hs) e = absurd cc

differs : (b : Bool) → (b ≡ true → ⊥) → not b ≡ true
differs true h = absurd (h refl)
differs false h = refl

same-told : (b : Bool) (f g : FaceView) → (b ≡ true → f ≡ g) → (b ≡ false → f ≡ g) → f ≡ g
same-told true f g same differ = same refl
same-told false f g same differ = differ refl

-- faces are equal or not
same-decided : (f g : FaceView) → ((f ≢ g) → ⊥) → f ≡ g
same-decided f g none = same-told (same_face f g) f g (same_face-Decides f g).0 (λ other. absurd (none (λ same. true≢false (sym ((same_face-Decides f g).1 same) ∙ other))))

is_clash-is : (a b : HashedFace) → a.0 ≡ b.0 → a.1 ≢ b.1 → is_clash a b ≡ true
is_clash-is a b same differ = and_from (same_hash a.0 b.0) (not (same_face a.1 b.1)) ((same_hash-Decides a.0 b.0).1 same) (differs (same_face a.1 b.1) (λ e. differ ((same_face-Decides a.1 b.1).0 e)))

is_clash-of : (a b : HashedFace) → is_clash a b ≡ true → (a.0 ≡ b.0) × (a.1 ≢ b.1)
is_clash-of a b clash =
    let both = and_parts (same_hash a.0 b.0) (not (same_face a.1 b.1)) clash in
    ((same_hash-Decides a.0 b.0).0 both.0, λ same. true≢false (sym ((same_face-Decides a.1 b.1).1 same) ∙ not-true (same_face a.1 b.1) both.1))

module _ (fs : List HashedFace) where
  -- two different faces under a hash
  record Clashes (hash : Hash256) : Type 0 where
    f : FaceView
    g : FaceView
    in_f : Contains fs (hash, f)
    in_g : Contains fs (hash, g)
    differ : f ≢ g

  abbrev clashing : HashedFace → Bool
  clashing f = list_any (is_clash f) fs

  abbrev hashes : List Hash256
  hashes = map (λ (f : HashedFace). f.0) (filter clashing fs)

  clash-listed : (hash : Hash256) → Clashes hash → Contains hashes hash
  clash-listed hash c =
      let found = Contains-list_any (is_clash (hash, c.f)) fs (hash, c.g) c.in_g (is_clash-is (hash, c.f) (hash, c.g) refl c.differ) in
      Contains-mapped (λ (f : HashedFace). f.0) (filter clashing fs) (hash, c.f) (Contains-filter clashing fs (hash, c.f) c.in_f found)

  listed-clash : (hash : Hash256) → Contains hashes hash → Clashes hash
  listed-clash hash h =
      let mapped = Contains-map (λ (f : HashedFace). f.0) (filter clashing fs) hash h in
      let kept = filter-Contains clashing fs mapped.0 mapped.1 in
      let other = list_any-Contains (is_clash mapped.0) fs kept.1 in
      let told = is_clash-of mapped.0 other.0 other.2 in
      record {
        f = mapped.0.1;
        g = other.0.1;
        in_f = subst (λ x. Contains fs (x, mapped.0.1)) mapped.2 kept.0;
        in_g = subst (λ x. Contains fs (x, other.0.1)) (sym told.0 ∙ mapped.2) other.1;
        differ = told.1;
      }

  clash_among-none : ((hash : Hash256) → Clashes hash → ⊥) → clash_among fs ≡ None
  clash_among-none none = ap least_hash (none-left hashes (λ hash h. none hash (listed-clash hash h)))

  clash_among-least : (hash : Hash256) → Clashes hash → ((x : Hash256) → Clashes x → IsUpTo x hash) → clash_among fs ≡ Some hash
  clash_among-least hash clash least =
      least_hash-is hashes hash (record { listed = clash-listed hash clash; least = λ x h. least x (listed-clash x h) })

  none-clashes : clash_among fs ≡ None → (hash : Hash256) → Clashes hash → ⊥
  none-clashes none hash clash = Contains-nil hash (subst (λ hs. Contains hs hash) (least_hash-none hashes none) (clash-listed hash clash))

-- ---- faces behind their own hashes

module _ (H : List ℕ → Hash256) (fs : List FaceView) where
  -- faces of equal reps are equal
  abbrev pub AreClear : Type 0
  AreClear = (i j : ℕ) → i < length fs → j < length fs → rep_of_face H (face_at fs i) ≡ rep_of_face H (face_at fs j) → face_at fs i ≡ face_at fs j

  pub clash_of-clear : AreClear → clash_of H fs ≡ None
  clash_of-clear clear =
      clash_among-none (map (with_rep H) fs)
      (λ hash c.
      let f = Contains-map (with_rep H) fs (hash, c.f) c.in_f in
      let g = Contains-map (with_rep H) fs (hash, c.g) c.in_g in
      let at-f : face_at fs f.1.0 ≡ f.0 = get_or_default fs f.1.0 no_face f.0 f.1.1 ∙ f.1.2 in
      let at-g : face_at fs g.1.0 ≡ g.0 = get_or_default fs g.1.0 no_face g.0 g.1.1 ∙ g.1.2 in
      let reps : rep_of_face H f.0 ≡ rep_of_face H g.0 = ap (λ (x : HashedFace). x.0) f.2 ∙ sym (ap (λ (x : HashedFace). x.0) g.2) in
      let same = clear f.1.0 g.1.0 f.1.1 g.1.1 (ap (rep_of_face H) at-f ∙ reps ∙ sym (ap (rep_of_face H) at-g)) in
      c.differ (sym (at-f ∙ ap (λ (x : HashedFace). x.1) f.2) ∙ same ∙ at-g ∙ ap (λ (x : HashedFace). x.1) g.2))

  pub clear-clash_of : clash_of H fs ≡ None → AreClear
  clear-clash_of none i j in-i in-j rep =
      same-decided (face_at fs i) (face_at fs j)
      (λ differ.
      none-clashes (map (with_rep H) fs) none (rep_of_face H (face_at fs j))
      (record {
        f = face_at fs i;
        g = face_at fs j;
        in_f = subst (λ x. Contains (map (with_rep H) fs) (x, face_at fs i)) rep (Contains-mapped (with_rep H) fs (face_at fs i) (Contains-get_or fs i no_face in-i));
        in_g = Contains-mapped (with_rep H) fs (face_at fs j) (Contains-get_or fs j no_face in-j);
        differ = differ;
      }))

zip-shown : (H : List ℕ → Hash256) (fs : List FaceView) → zip (map rep_of_info (map (info_of_face H) fs)) fs ≡ map (with_rep H) fs
zip-shown H [] = refl
zip-shown H (f ∷ fs) = ap (λ rest. with_rep H f ∷ rest) (zip-shown H fs)

-- what is found among faces behind the hashes that they show is their clash
pub clash_of-found : (H : List ℕ → Hash256) (fs : List FaceView) (infos : List ChildInfo) (found : Option Hash256) → infos ≡ map (info_of_face H) fs → found ≡ clash_among (zip (map rep_of_info infos) fs) → clash_of H fs ≡ found
clash_of-found H fs infos found shown is = sym (is ∙ ap (λ ks. clash_among (zip (map rep_of_info ks) fs)) shown ∙ ap clash_among (zip-shown H fs))

-- ---- sorted keys of faces

module _ (fs : List FaceView) (infos : List ChildInfo) (counted : length infos ≡ length fs) (keys : List NumberedHash) (moved : IsPermutation (numbered_from rep_of_info 0 infos) keys) where
  abbrev hashed : List HashedFace
  hashed = zip (map rep_of_info infos) fs

  abbrev no_hashed : HashedFace
  no_hashed = (no_hash, no_face)

  -- the face of a key behind its hash
  abbrev hashed_of : NumberedHash → HashedFace
  hashed_of key = (key.0, face_at fs key.1)

  long-hashed : length hashed ≡ length fs
  long-hashed = omega (arith, length-zip (map rep_of_info infos) fs, length-map infos rep_of_info, counted)

  abbrev IsKey : NumberedHash → Type 0
  IsKey key = (key.1 < length fs) × Contains hashed (hashed_of key)

  key-here : (k : ℕ) (d : NumberedHash) → k < length fs → get_or (numbered_from rep_of_info 0 infos) k d ≡ (rep_of_info (get_or infos k no_info), k)
  key-here k d in' = numbered_from-at rep_of_info no_info 0 infos k k d (omega arith) (omega (arith, counted))

  hashed-here : (k : ℕ) → k < length fs → get_or hashed k no_hashed ≡ (rep_of_info (get_or infos k no_info), face_at fs k)
  hashed-here k in' =
      let below : k < length infos = omega (arith, counted) in
      get_or-zip (map rep_of_info infos) fs k no_hashed (omega (arith, length-map infos rep_of_info, below)) in'
      ∙ ap (λ hash. (hash, face_at fs k)) (get_or-map rep_of_info infos k no_info no_hash below)

  keys-good : All IsKey keys
  keys-good =
      All-permutation IsKey (numbered_from rep_of_info 0 infos) keys moved
      (λ k d in'.
      let below : k < length fs = omega (arith, in', length-numbered_from rep_of_info 0 infos, counted) in
      subst IsKey (sym (key-here k d below)) (below, subst (Contains hashed) (hashed-here k below) (Contains-get_or hashed k no_hashed (omega (arith, below, long-hashed)))))

  pub keys-within : All (λ (key : NumberedHash). key.1 < length fs) keys
  keys-within = λ k d in'. (keys-good k d in').0

  place-of : (f : HashedFace) → Contains hashed f → (p : ℕ) × (p < length keys) × (hashed_of (numbered_at keys p) ≡ f)
  place-of f h =
      let number = h.0 in
      let below : number < length fs = omega (arith, h.1, long-hashed) in
      let key : NumberedHash = (rep_of_info (get_or infos number no_info), number) in
      let first = subst (Contains (numbered_from rep_of_info 0 infos)) (key-here number no_numbered below) (Contains-get_or (numbered_from rep_of_info 0 infos) number no_numbered (omega (arith, below, length-numbered_from rep_of_info 0 infos, counted))) in
      let found = Contains-permutation (numbered_from rep_of_info 0 infos) keys key moved first in
      let here : numbered_at keys found.0 ≡ key = get_or_default keys found.0 no_numbered key found.1 ∙ found.2 in
      (found.0, found.1, ap hashed_of here ∙ sym (hashed-here number below) ∙ get_or_default hashed number no_hashed f h.1 ∙ h.2)

  module _ (sorted : IsSorted numbered_cmp keys) where
    -- keys that agree up to here have one face under a hash
    same-under : (high : ℕ) → high ≤ length keys → AllAgree fs keys high → (hash : Hash256) (f g : FaceView) (p q : ℕ) → p < high → q < high → hashed_of (numbered_at keys p) ≡ (hash, f) → hashed_of (numbered_at keys q) ≡ (hash, g) → f ≡ g
    same-under high within all hash f g p q in-p in-q at-p at-q =
        let same = agree-both fs keys sorted high within all p q in-p in-q (ap (λ (x : HashedFace). x.0) at-p ∙ sym (ap (λ (x : HashedFace). x.0) at-q)) in
        sym (ap (λ (x : HashedFace). x.1) at-p) ∙ same ∙ ap (λ (x : HashedFace). x.1) at-q

    none-found : AllAgree fs keys (length keys) → clash_among hashed ≡ None
    none-found all =
        clash_among-none hashed
        (λ hash c.
        let p = place-of (hash, c.f) c.in_f in
        let q = place-of (hash, c.g) c.in_g in
        c.differ (same-under (length keys) (omega arith) all hash c.f c.g p.0 q.0 p.1 q.1 p.2 q.2))

    first-least : (hash : Hash256) (first : IsFirstClash fs keys hash) (x : Hash256) → Clashes hashed x → IsUpTo x hash
    first-least hash first x c =
        let p = place-of (x, c.f) c.in_f in
        let q = place-of (x, c.g) c.in_g in
        let from : (r : ℕ) → first.place ≤ r → r < length keys → (numbered_at keys r).0 ≡ x → IsUpTo x hash =
        λ r above in' at. subst (IsUpTo x) first.left (subst (λ h. IsUpTo h (numbered_at keys first.place).0) at (hashes-sorted keys sorted first.place r no_numbered above in'))
        in
        ⊎_elim
        (λ early-p.
        ⊎_elim
        (λ early-q.
        absurd (c.differ (same-under (first.place + 1) (omega (arith, first.there)) first.before x c.f c.g p.0 q.0 (omega (arith, early-p)) (omega (arith, early-q)) p.2 q.2)))
        (λ late. from q.0 late q.1 (ap (λ (y : HashedFace). y.0) q.2))
        (cases_lt q.0 first.place))
        (λ late. from p.0 late p.1 (ap (λ (y : HashedFace). y.0) p.2))
        (cases_lt p.0 first.place)

    first-found : (hash : Hash256) → IsFirstClash fs keys hash → clash_among hashed ≡ Some hash
    first-found hash first =
        let l = keys-good first.place no_numbered (omega (arith, first.there)) in
        let r = keys-good (first.place + 1) no_numbered first.there in
        clash_among-least hashed hash
        (record {
          f = face_at fs (numbered_at keys first.place).1;
          g = face_at fs (numbered_at keys (first.place + 1)).1;
          in_f = subst (λ x. Contains hashed (x, face_at fs (numbered_at keys first.place).1)) first.left l.1;
          in_g = subst (λ x. Contains hashed (x, face_at fs (numbered_at keys (first.place + 1)).1)) first.right r.1;
          differ = first.differ;
        })
        (first-least hash first)

    -- what a search of the neighbours answers
    pub found-is : (found : Option Hash256) → IfNone found (AllAgree fs keys (length keys)) → IfSome found (IsFirstClash fs keys) → found ≡ clash_among hashed
    found-is None none some = sym (none-found none)
    found-is (Some hash) none some = sym (first-found hash some)

-- what was read of a cell
pub face_read : (faces : List FaceView) (k : ℕ) (face : FaceView) → k < length faces → face ≡ get_or faces k face → face ≡ face_at faces k
face_read faces k face below is = is ∙ get_or_default faces k face no_face below

-- ---- a step of the search

module _ (faces : List FaceView) (keys : List NumberedHash) (place : ℕ) (d : NumberedHash) (some : 1 ≤ place) (in' : place < length keys) (all : AllAgree faces keys place) where
  pub first_at : (get_or keys (place - 1) d).0 ≡ (get_or keys place d).0 → face_at faces (get_or keys (place - 1) d).1 ≢ face_at faces (get_or keys place d).1 → IsFirstClash faces keys (get_or keys place d).0
  first_at same differ =
      let p : ℕ = place - 1 in
      let next : p + 1 ≡ place = omega arith in
      let l : numbered_at keys p ≡ get_or keys p d = get_or_default keys p no_numbered d (omega arith) in
      let r : numbered_at keys (p + 1) ≡ get_or keys place d = ap (numbered_at keys) next ∙ get_or_default keys place no_numbered d in' in
      record {
        place = p;
        there = omega arith;
        before = subst (AllAgree faces keys) (sym next) all;
        left = ap (λ (k : NumberedHash). k.0) l ∙ same;
        right = ap (λ (k : NumberedHash). k.0) r;
        differ = λ e. differ (sym (ap (λ (k : NumberedHash). face_at faces k.1) l) ∙ e ∙ ap (λ (k : NumberedHash). face_at faces k.1) r);
      }

  pub agree_more : Agree faces (get_or keys (place - 1) d) (get_or keys place d) → AllAgree faces keys (place + 1)
  agree_more agree =
      all_adjacent_more keys (Agree faces) place (omega arith) all
      (λ e.
      subst (λ (k : NumberedHash). Agree faces k (get_or keys place e)) (get_or_default keys (place - 1) d e (omega arith))
      (subst (λ (k : NumberedHash). Agree faces (get_or keys (place - 1) d) k) (get_or_default keys place d e in') agree))
