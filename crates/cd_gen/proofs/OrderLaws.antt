-- Laws of the order of an export: listed cells by sorted keys are the distinct cells of their tree.
use Rattle.std.proofs.Common.{◌≡◌, ◌≢◌, ℕ, zero, suc, ◌+◌, ◌-◌, ◌<◌, ◌≤◌, List, [], ◌∷◌, ◌++◌, length, get_or, map, reverse, All, AllPairs, Contains, Less, Equal, Greater, Ordering, nat_cmp, refl, ap, ap₂, sym, ◌∙◌, subst, ⊎_elim, arith}
use Rattle.std.specs.Ordering.{ordering_then, match_ordering}
use Rattle.std.specs.Cmp.{IsTotalOrder}
use Rattle.std.proofs.lemmas.Bool.{cases_lt}
use Rattle.std.proofs.lemmas.Bool.Decides.{nat_tests}
use Rattle.std.proofs.lemmas.Cmp.{then_total, back_total, on_total, nat_cmp_total, tied_itself}
use Rattle.std.proofs.lemmas.List.{length-map, length-reverse, reverse-reverse, get_or-map, get_or-reverse, get_or_default, get_or_append_left, get_or_push, length_push}
use Rattle.std.proofs.lemmas.List.Elements.{Contains-get_or}
use Rattle.cd_base.specs.declared.hash.Hash256.{Hash256}
use Rattle.cd_cell.specs.declared.info.ChildInfo.{ChildInfo}
use Rattle.cd_cell.specs.declared.new_cell.NewCell.{NewCell}
use Rattle.cd_cell.specs.CellFaults.{no_info}
use Rattle.cd_cell.specs.FaceView.{FaceView}
use Rattle.cd_cell.specs.GoodFace.{IsGoodFace}
use Rattle.cd_cell.specs.Infos.{no_hash, rep_of_info, height_of_info}
use Rattle.cd_cell.specs.Levels.{info_of_face, rep_of_face, height_of_face}
use Rattle.cd_cell.specs.Tree.{Tree, cell, subtrees, face_of, rep_of, height_of}
use Rattle.cd_cell.specs.Export.{hash_cmp, export_cmp, with_distinct, sorted_distinct, AreDistinct, distinct_cells}
use Rattle.cd_cell.specs.Listings.{no_cell, listed_at, listing_cmp, new_cell_of}
use Rattle.cd_cell.proofs.Subtrees.{Contains-first, Contains-later, Contains-cases, Contains-nil, Contains-map, Contains-mapped}
use Rattle.cd_cell.proofs.ExportOrder.{hash_cmp-total}
use Rattle.cd_cell.proofs.Distinct.{rises-from_AllPairs, AreDistinct-sorted_distinct, same-rising, one_place-rising}
use Rattle.cd_gen.specs.declared.cell.Cell.{Cell}
use Rattle.cd_cell.specs.declared.export_key.ExportRank.{ExportRank}
use Rattle.cd_cell.specs.declared.export_key.ExportKey.{ExportKey}
use Rattle.cd_gen.specs.States.{sha}
use Rattle.cd_gen.specs.Listing.{turned, faces, faces_of}
use Rattle.cd_cell.specs.Keys.{rank_cmp, export_key, AreFirst}
use Rattle.cd_gen.specs.Keys.{listed_cell, cell_at, AreKeys}
use Rattle.cd_cell.proofs.KeyLaws.{rank_cmp-total}
use Rattle.cd_gen.proofs.ListingLaws.{map-reverse}

-- ---- sorted lists without ties, by their last elements

module _ {A : Type 0} (cmp : A → A → Ordering) (total : IsTotalOrder cmp) where
  put-old : (x : A) (ys : List A) (z : A) → Contains ys z → Contains (with_distinct cmp x ys) z
  put-old x [] z h = absurd (Contains-nil z h)
  put-old x (y ∷ ys) z h = go (cmp x y) (λ old. put-old x ys z old)
    where
      go : (o : Ordering) → (Contains ys z → Contains (with_distinct cmp x ys) z) → Contains (match_ordering o (x ∷ y ∷ ys) (y ∷ ys) (y ∷ with_distinct cmp x ys)) z
      go Less later = Contains-later x (y ∷ ys) z h
      go Equal later = h
      go Greater later =
          ⊎_elim
          (λ same. subst (Contains (y ∷ with_distinct cmp x ys)) same (Contains-first y (with_distinct cmp x ys)))
          (λ old. Contains-later y (with_distinct cmp x ys) z (later old))
          (Contains-cases y ys z h)

  put-new : (x : A) (ys : List A) → ((y : A) → Contains ys y → cmp x y ≢ Equal) → Contains (with_distinct cmp x ys) x
  put-new x [] apart = Contains-first x []
  put-new x (y ∷ ys) apart = go (cmp x y) refl (put-new x ys (λ z h. apart z (Contains-later y ys z h)))
    where
      go : (o : Ordering) → cmp x y ≡ o → Contains (with_distinct cmp x ys) x → Contains (match_ordering o (x ∷ y ∷ ys) (y ∷ ys) (y ∷ with_distinct cmp x ys)) x
      go Less e later = Contains-first x (y ∷ ys)
      go Equal e later = absurd (apart y (Contains-first y ys) e)
      go Greater e later = Contains-later y (with_distinct cmp x ys) x later

  -- of elements that tie the last one is kept
  last-kept : (ys : List A) (z : A) (i : ℕ) → i < length ys → get_or ys i z ≡ z → ((j : ℕ) → i < j → j < length ys → cmp z (get_or ys j z) ≢ Equal) → Contains (sorted_distinct cmp ys) z
  last-kept [] z i in' at last = absurd (omega arith)
  last-kept (y ∷ ys) z zero in' at last =
      subst (λ x. Contains (with_distinct cmp x (sorted_distinct cmp ys)) z) (sym at)
      (put-new z (sorted_distinct cmp ys)
      (λ w h tie.
      let there = (AreDistinct-sorted_distinct cmp total ys).within w h in
      last (suc there.0) (omega arith) (omega (arith, there.1)) (ap (cmp z) (get_or_default ys there.0 z w there.1 ∙ there.2) ∙ tie)))
  last-kept (y ∷ ys) z (suc i) in' at last =
      put-old y (sorted_distinct cmp ys) z (last-kept ys z i (omega arith) at (λ j low high. last (suc j) (omega arith) (omega arith)))

  -- no two elements of a list in strict order tie
  one-tied : (xs : List A) → AllPairs (λ a b. cmp a b ≡ Less) xs → (a b : A) → Contains xs a → Contains xs b → cmp a b ≡ Equal → a ≡ b
  one-tied xs up a b in-a in-b tie =
      let other : get_or xs in-b.0 a ≡ b = get_or_default xs in-b.0 a b in-b.1 ∙ in-b.2 in
      let place = one_place-rising cmp total xs a up in-a.0 in-b.0 in-a.1 in-b.1 (ap₂ cmp in-a.2 other ∙ tie) in
      sym in-a.2 ∙ ap (λ k. get_or xs k a) place ∙ other

-- the order of an export on trees and on what is listed of them
module _ {A B : Type 0} (g : A → B) (c : A → A → Ordering) (d : B → B → Ordering) (same : (a b : A) → d (g a) (g b) ≡ c a b) where
  map-put : (x : A) (ys : List A) → with_distinct d (g x) (map g ys) ≡ map g (with_distinct c x ys)
  map-put x [] = refl
  map-put x (y ∷ ys) =
      ap (λ o. match_ordering o (g x ∷ g y ∷ map g ys) (g y ∷ map g ys) (g y ∷ with_distinct d (g x) (map g ys))) (same x y) ∙ go (c x y) (map-put x ys)
    where
      go : (o : Ordering) → with_distinct d (g x) (map g ys) ≡ map g (with_distinct c x ys)
          → match_ordering o (g x ∷ g y ∷ map g ys) (g y ∷ map g ys) (g y ∷ with_distinct d (g x) (map g ys)) ≡ map g (match_ordering o (x ∷ y ∷ ys) (y ∷ ys) (y ∷ with_distinct c x ys))
      go Less later = refl
      go Equal later = refl
      go Greater later = ap (λ zs. g y ∷ zs) later

  map-sorted : (xs : List A) → sorted_distinct d (map g xs) ≡ map g (sorted_distinct c xs)
  map-sorted [] = refl
  map-sorted (x ∷ xs) = ap (with_distinct d (g x)) (map-sorted xs) ∙ map-put x (sorted_distinct c xs)

height-face : (t : Tree) → height_of_face (face_of sha t) ≡ height_of sha t
height-face (cell exotic bits ts) = refl

listed-distinct : (t : Tree) → sorted_distinct listing_cmp (map (new_cell_of sha) (subtrees t)) ≡ map (new_cell_of sha) (distinct_cells sha t)
listed-distinct t =
    map-sorted (new_cell_of sha) (export_cmp sha) listing_cmp
    (λ a b. ap₂ (λ x y. ordering_then (nat_cmp x y) (hash_cmp (rep_of sha a) (rep_of sha b))) (height-face b) (height-face a))
    (subtrees t)

-- ---- listed cells by their keys

turned-heights : (x y : ℕ) → x ≤ 1024 → y ≤ 1024 → nat_cmp (65535 - x) (65535 - y) ≡ nat_cmp y x
turned-heights x y low-x low-y = grind (arith, nat_tests)

listing_cmp-total : IsTotalOrder listing_cmp
listing_cmp-total = then_total (back_total (on_total (λ (c : NewCell). height_of_face c.face) nat_cmp_total)) (on_total (λ (c : NewCell). c.hash) hash_cmp-total)

abbrev place_at : NewCell → ExportRank
place_at c = record { lowness = 65535 - height_of_face c.face; hash = c.hash }

abbrev key_at : List NewCell → ℕ → ExportKey
key_at cs n = record { rank = place_at (listed_at cs n); number = n }

abbrev no_key : ExportKey
no_key = record { rank = record { lowness = 0; hash = no_hash }; number = 0 }

-- a cell with a good face under the hash of it
pub record IsOwn (c : NewCell) : Type 0 where
  pub good : IsGoodFace c.face
  pub hashed : c.hash ≡ rep_of_face sha c.face

Contains-reverse : {A : Type 0} (xs : List A) (z : A) → Contains (reverse xs) z → Contains xs z
Contains-reverse xs z h =
    let long = length-reverse xs in
    (length xs - 1 - h.0, omega (arith, long, h.1), sym (get_or-reverse xs h.0 z (omega (arith, long, h.1))) ∙ h.2)

module _ (cs : List NewCell) (infos : List ChildInfo) (own : (n : ℕ) → n < length cs → IsOwn (listed_at cs n)) (shown : (n : ℕ) → n < length cs → get_or infos n no_info ≡ info_of_face sha (listed_at cs n).face) where
  module _ (old new : List ExportKey) (made : AreKeys infos old (length cs)) (first : AreFirst old new) where
    abbrev at : ExportKey → NewCell
    at key = listed_at cs key.number

    key-made : (n : ℕ) → n < length cs → export_key (get_or infos n no_info) n ≡ key_at cs n
    key-made n in' =
        ap₂ (λ h r. let k : ExportKey = record { rank = record { lowness = 65535 - h; hash = r }; number = n } in k)
        (ap height_of_info (shown n in')) (ap rep_of_info (shown n in') ∙ sym (own n in').hashed)

    key-is : (key : ExportKey) → Contains old key → (key.number < length cs) × (key ≡ key_at cs key.number)
    key-is key h =
        let in' : h.0 < length cs = omega (arith, h.1, made.counted) in
        let is : key ≡ key_at cs h.0 = sym h.2 ∙ made.made h.0 key no_info in' ∙ key-made h.0 in' in
        let number : key.number ≡ h.0 = ap (λ (k : ExportKey). k.number) is in
        (omega (arith, number, in'), is ∙ ap (key_at cs) (sym number))

    key-there : (n : ℕ) → n < length cs → Contains old (key_at cs n)
    key-there n in' = (n, omega (arith, made.counted, in'), made.made n (key_at cs n) no_info in' ∙ key-made n in')

    new-is : (key : ExportKey) → Contains new key → (key.number < length cs) × (key ≡ key_at cs key.number)
    new-is key h = key-is key (first.within key h)

    pub all-there : All (λ (key : ExportKey). key.number < length cs) new
    all-there k d in' = (new-is (get_or new k d) (Contains-get_or new k d in')).0

    ranked : (i j : ℕ) → i < length cs → j < length cs → rank_cmp (place_at (listed_at cs i)) (place_at (listed_at cs j)) ≡ listing_cmp (listed_at cs i) (listed_at cs j)
    ranked i j in-i in-j =
        ap (λ o. ordering_then o (hash_cmp (listed_at cs i).hash (listed_at cs j).hash))
        (turned-heights (height_of_face (listed_at cs i).face) (height_of_face (listed_at cs j).face) ((own i in-i).good.fit.depths 3 (omega arith)) ((own j in-j).good.fit.depths 3 (omega arith)))

    ranked-keys : (a b : ExportKey) → Contains new a → Contains new b → rank_cmp a.rank b.rank ≡ listing_cmp (at a) (at b)
    ranked-keys a b in-a in-b =
        let is-a = new-is a in-a in
        let is-b = new-is b in-b in
        ap₂ (λ (x y : ExportKey). rank_cmp x.rank y.rank) is-a.1 is-b.1 ∙ ranked a.number b.number is-a.0 is-b.0

    ordered : AllPairs (λ a b. listing_cmp a b ≡ Less) (map at new)
    ordered i j d before in' =
        let in-new : j < length new = omega (arith, in', length-map new at) in
        let a = get_or new i no_key in
        let b = get_or new j no_key in
        ap₂ listing_cmp (get_or-map at new i no_key d (omega arith)) (get_or-map at new j no_key d in-new)
        ∙ sym (ranked-keys a b (Contains-get_or new i no_key (omega arith)) (Contains-get_or new j no_key in-new))
        ∙ first.ordered i j no_key before in-new

    -- a kept key is the first of its place
    is-first : (key : ExportKey) → Contains new key → (m : ℕ) → m < key.number → listing_cmp (at key) (listed_at cs m) ≢ Equal
    is-first key h m before tie =
        let is = new-is key h in
        let in-m : m < length cs = omega (arith, is.0) in
        let other = first.whole (key_at cs m) (key-there m in-m) in
        let tied : rank_cmp key.rank other.0.rank ≡ Equal = ap (λ p. rank_cmp key.rank p) other.2 ∙ ap (λ (k : ExportKey). rank_cmp k.rank (place_at (listed_at cs m))) is.1 ∙ ranked key.number m is.0 in-m ∙ tie in
        let one : key ≡ other.0 = one-tied (λ (a b : ExportKey). rank_cmp a.rank b.rank) (on_total (λ (k : ExportKey). k.rank) rank_cmp-total) new first.ordered key other.0 h other.1 tied in
        let number : key.number ≡ other.0.number = ap (λ (k : ExportKey). k.number) one in
        omega (arith, number, other.3, before)

    abbrev sorted : List NewCell
    sorted = sorted_distinct listing_cmp (reverse cs)

    kept-sorted : (key : ExportKey) → Contains new key → Contains sorted (at key)
    kept-sorted key h =
        let is = new-is key h in
        let long = length-reverse cs in
        let z = at key in
        last-kept listing_cmp listing_cmp-total (reverse cs) z (length cs - 1 - key.number) (omega (arith, long, is.0))
        (get_or-reverse cs (length cs - 1 - key.number) z (omega (arith, is.0))
        ∙ ap (λ n. get_or cs n z) (let e : length cs - 1 - (length cs - 1 - key.number) ≡ key.number = omega (arith, is.0) in e)
        ∙ get_or_default cs key.number z no_cell is.0)
        (λ j low high tie.
        let in-j : j < length cs = omega (arith, long, high) in
        let m = length cs - 1 - j in
        is-first key h m (omega (arith, low, in-j, is.0))
        (ap (listing_cmp z) (sym (get_or-reverse cs j z in-j ∙ get_or_default cs m z no_cell (omega (arith, in-j)))) ∙ tie))

    distinct : AreDistinct listing_cmp (reverse cs) sorted
    distinct = AreDistinct-sorted_distinct listing_cmp listing_cmp-total (reverse cs)

    -- listed by their keys they are the sorted ones
    pub listed-sorted : map at new ≡ sorted_distinct listing_cmp (reverse cs)
    listed-sorted =
        same-rising listing_cmp listing_cmp-total (map at new) sorted (rises-from_AllPairs listing_cmp (map at new) ordered) (rises-from_AllPairs listing_cmp sorted distinct.ordered)
        (λ z h. let named = Contains-map at new z h in subst (Contains sorted) named.2 (kept-sorted named.0 named.1))
        (λ z h.
        let there = Contains-reverse cs z (distinct.within z h) in
        let is : listed_at cs there.0 ≡ z = get_or_default cs there.0 no_cell z there.1 ∙ there.2 in
        let kept = first.whole (key_at cs there.0) (key-there there.0 there.1) in
        let is-kept = new-is kept.0 kept.1 in
        let tied : listing_cmp (at kept.0) z ≡ Equal =
        ap (listing_cmp (at kept.0)) (sym is)
        ∙ sym (ranked kept.0.number there.0 is-kept.0 there.1)
        ∙ ap (λ p. rank_cmp p (place_at (listed_at cs there.0))) (sym (ap (λ (k : ExportKey). k.rank) is-kept.1) ∙ kept.2)
        ∙ tied_itself rank_cmp-total (place_at (listed_at cs there.0)) in
        subst (Contains (map at new)) (one-tied listing_cmp listing_cmp-total sorted distinct.ordered (at kept.0) z (kept-sorted kept.0 kept.1) h tied)
        (Contains-mapped at new kept.0 kept.1))

-- ---- the cells of a tree

pub own-listed : (cells : List Cell) (n : ℕ) → n < length (map listed_cell cells) → IsOwn (listed_at (map listed_cell cells) n)
own-listed [] n in' = absurd (omega arith)
own-listed (c ∷ cells) zero in' = record { good = c.good; hashed = ap rep_of_info c.shows }
own-listed (c ∷ cells) (suc n) in' = own-listed cells n (omega arith)

pub shown-listed : (cells : List Cell) (n : ℕ) → n < length (map listed_cell cells) → get_or (map (λ (c : Cell). c.info) cells) n no_info ≡ info_of_face sha (listed_at (map listed_cell cells) n).face
shown-listed [] n in' = absurd (omega arith)
shown-listed (c ∷ cells) zero in' = c.shows
shown-listed (c ∷ cells) (suc n) in' = shown-listed cells n (omega arith)

abbrev cell_with : FaceView → NewCell
cell_with face = record { hash = rep_of_face sha face; face = face }

by-faces : (cells : List Cell) → map listed_cell cells ≡ map cell_with (faces cells)
by-faces [] = refl
by-faces (c ∷ cells) = ap₂ (λ (h : Hash256) xs. (let x : NewCell = record { hash = h; face = c.face } in x) ∷ xs) (ap rep_of_info c.shows) (by-faces cells)

by-tree : (t : Tree) → cell_with (face_of sha t) ≡ new_cell_of sha t
by-tree (cell exotic bits ts) = refl

all-by_tree : (ts : List Tree) → map cell_with (map (face_of sha) ts) ≡ map (new_cell_of sha) ts
all-by_tree [] = refl
all-by_tree (t ∷ ts) = ap₂ (λ x xs. x ∷ xs) (by-tree t) (all-by_tree ts)

module _ (cells : List Cell) (old new : List ExportKey) (keys : AreKeys (map (λ (c : Cell). c.info) cells) old (length cells)) (first : AreFirst old new) where
  long : length cells ≡ length (map listed_cell cells)
  long = sym (length-map cells listed_cell)

  made : AreKeys (map (λ (c : Cell). c.info) cells) old (length (map listed_cell cells))
  made = subst (AreKeys (map (λ (c : Cell). c.info) cells) old) long keys

  pub keys-there : All (λ (key : ExportKey). key.number < length cells) new
  keys-there k d in' = omega (arith, long, all-there (map listed_cell cells) (map (λ (c : Cell). c.info) cells) (own-listed cells) (shown-listed cells) old new made first k d in')

  pub good-listed : All (λ (c : NewCell). IsGoodFace c.face) (map (cell_at cells) new)
  good-listed k d in' =
      let there : k < length new = omega (arith, in', length-map new (cell_at cells)) in
      let key = get_or new k no_key in
      subst (λ (c : NewCell). IsGoodFace c.face) (sym (get_or-map (cell_at cells) new k no_key d there))
      (own-listed cells key.number (omega (arith, long, keys-there k no_key there))).good

  -- the cells of a tree, listed by their keys, are its distinct ones
  pub distinct-listed : (t : Tree) → faces cells ≡ faces_of t → map (cell_at cells) new ≡ map (new_cell_of sha) (distinct_cells sha t)
  unfolding turned
  distinct-listed t is =
      let cs = map listed_cell cells in
      let ys = map (face_of sha) (subtrees t) in
      let turned-back : reverse cs ≡ map (new_cell_of sha) (subtrees t) = ap reverse (by-faces cells ∙ ap (map cell_with) is ∙ map-reverse cell_with ys) ∙ reverse-reverse (map cell_with ys) ∙ all-by_tree (subtrees t) in
      listed-sorted cs (map (λ (c : Cell). c.info) cells) (own-listed cells) (shown-listed cells) old new made first
      ∙ ap (sorted_distinct listing_cmp) turned-back
      ∙ listed-distinct t

-- the key of one more cell
pub keys-more : (infos : List ChildInfo) (keys new : List ExportKey) (n : ℕ) (x : ExportKey) → AreKeys infos keys n → new ≡ keys ++ x ∷ [] → ((e : ChildInfo) → x ≡ export_key (get_or infos n e) n) → AreKeys infos new (n + 1)
keys-more infos keys new n x before is made = record {
  counted = omega (arith, ap length is, length_push keys x, before.counted);
  made = λ k d e low.
      ap (λ ks. get_or ks k d) is
      ∙ ⊎_elim
      (λ lower. get_or_append_left keys (x ∷ []) d k (omega (arith, lower, before.counted)) ∙ before.made k d e lower)
      (λ last.
      let same : n ≡ k = omega (arith, low, last) in
      get_or_push keys x d k (before.counted ∙ same) ∙ made e ∙ ap (λ m. export_key (get_or infos m e) m) same)
      (cases_lt k n);
}
