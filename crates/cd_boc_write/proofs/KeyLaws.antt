-- Laws of the places of listed cells, by keys that are sorted.
use Rattle.std.proofs.Common.{◌≡◌, ℕ, ◌<◌, ◌≤◌, List, length, get_or, All, Bool, true, false, true≢false, cond, Some, None, Less, Equal, Greater, Ordering, nat_cmp, nat_lt, refl, ap, ap₂, sym, subst, ◌∙◌, ⊎_elim, arith, lt-ltb}
use Rattle.std.specs.Option.{unwrap_or}
use Rattle.std.specs.Ordering.{ordering_then, ordering_index, ordering_reverse, is_lt}
use Rattle.std.specs.Cmp.{IsTotalOrder}
use Rattle.std.specs.List.{position_or_len}
use Rattle.std.specs.List.Sorted.{IsNonDecreasingBy, IsPartitionPoint}
use Rattle.std.proofs.lemmas.Bool.{cases_lt}
use Rattle.std.proofs.lemmas.Bool.Decides.{nat_tests}
use Rattle.std.proofs.lemmas.Cmp.{then_total, on_total, nat_cmp_total, tied_itself}
use Rattle.std.proofs.lemmas.List.{get_or_default}
use Rattle.std.proofs.lemmas.List.Elements.{Contains-get_or, All-map}
use Rattle.std.proofs.lemmas.List.Sums.{position_or_len_is}
use Rattle.std.proofs.lemmas.List.Sorted.{ranks_by, sorted_far, searchable_from_sorted}
use Rattle.cd_base.specs.declared.hash.Hash256.{Hash256}
use Rattle.cd_cell.specs.declared.info.ChildInfo.{ChildInfo}
use Rattle.cd_cell.specs.declared.new_cell.NewCell.{NewCell}
use Rattle.cd_cell.specs.Infos.{rep_of_info}
use Rattle.cd_cell.specs.Equality.{same_hash, same_hash-Decides}
use Rattle.cd_cell.specs.Export.{hash_cmp}
use Rattle.cd_cell.specs.Listings.{no_cell, listed_at}
use Rattle.cd_cell.proofs.ExportOrder.{hash_cmp-total, hash_cmp-ties}
use Rattle.cd_boc_write.specs.declared.placed_hash.PlacedHash.{PlacedHash}
use Rattle.cd_boc_write.specs.Exports.{place_among, refs_among}
use Rattle.cd_boc_write.specs.Keys.{placed_cmp, placed_at, AreKeysOf}

-- ---- the place of a hash

not_true : (b : Bool) → (b ≡ true → ⊥) → b ≡ false
not_true true differs = absurd (differs refl)
not_true false differs = refl

-- the first cell listed under a hash is at its place
pub place_among-first : (cells : List NewCell) (hash : Hash256) (n : ℕ) → n < length cells → (listed_at cells n).hash ≡ hash → ((k : ℕ) → k < n → (listed_at cells k).hash ≡ hash → ⊥) → place_among cells hash ≡ n
unfolding place_among
place_among-first cells hash n in' same first =
    let test : NewCell → Bool = λ c. same_hash c.hash hash in
    let place : position_or_len test cells ≡ n =
    position_or_len_is test cells n no_cell (omega arith)
    (λ k below. not_true (test (listed_at cells k)) (λ e. first k below ((same_hash-Decides (listed_at cells k).hash hash).0 e)))
    (λ _. (same_hash-Decides (listed_at cells n).hash hash).1 same)
    in
    ap (λ p. unwrap_or (cond (nat_lt p (length cells)) (Some p) None) 0) place
    ∙ ap (λ b. unwrap_or (cond b (Some n) None) 0) (lt-ltb n (length cells) in')

-- a hash that isn't listed has place 0
pub place_among-none : (cells : List NewCell) (hash : Hash256) → ((k : ℕ) → k < length cells → (listed_at cells k).hash ≡ hash → ⊥) → place_among cells hash ≡ 0
unfolding place_among
place_among-none cells hash none =
    let test : NewCell → Bool = λ c. same_hash c.hash hash in
    let place : position_or_len test cells ≡ length cells =
    position_or_len_is test cells (length cells) no_cell (omega arith)
    (λ k below. not_true (test (listed_at cells k)) (λ e. none k below ((same_hash-Decides (listed_at cells k).hash hash).0 e)))
    (λ over. absurd (omega arith))
    in
    ap (λ p. unwrap_or (cond (nat_lt p (length cells)) (Some p) None) 0) place
    ∙ grind (arith, nat_tests)

-- a place is one of the list's
pub place_among-below : (cells : List NewCell) (hash : Hash256) → 0 < length cells → place_among cells hash < length cells
unfolding place_among
place_among-below cells hash some = inside (position_or_len (λ c. same_hash c.hash hash) cells) (length cells) some
  where
    inside : (p n : ℕ) → 0 < n → unwrap_or (cond (nat_lt p n) (Some p) None) 0 < n
    inside p n some = ⊎_elim (λ below. subst (λ b. unwrap_or (cond b (Some p) None) 0 < n) (sym (lt-ltb p n below)) below) (λ past. subst (λ b. unwrap_or (cond b (Some p) None) 0 < n) (sym (not_lower p n past)) some) (cases_lt p n)
      where
        not_lower : (p n : ℕ) → n ≤ p → nat_lt p n ≡ false
        not_lower p n past = grind (arith, nat_tests)

pub refs_among-below : (cells : List NewCell) (kids : List ChildInfo) → 0 < length cells → All (λ r. r < length cells) (refs_among cells kids)
refs_among-below cells kids some = All-map (λ r. r < length cells) (λ kid. place_among cells (rep_of_info kid)) kids (λ k d in'. place_among-below cells (rep_of_info (get_or kids k d)) some)

-- ---- keys

pub placed_cmp-total : IsTotalOrder placed_cmp
placed_cmp-total = then_total (on_total (λ k. k.hash) hash_cmp-total) (on_total (λ k. k.place) nat_cmp_total)

abbrev key : Hash256 → ℕ → PlacedHash
key hash place = record { hash = hash; place = place }

placed_cmp-same : (hash : Hash256) (j k : ℕ) → placed_cmp (key hash j) (key hash k) ≡ nat_cmp j k
placed_cmp-same hash j k = ap (λ o. ordering_then o (nat_cmp j k)) (tied_itself hash_cmp-total hash)

then-ties : (o p : Ordering) → ordering_then o p ≡ Equal → (o ≡ Equal) × (p ≡ Equal)
then-ties Less p e = (e, cc)
then-ties Equal p e = (refl, e)
then-ties Greater p e = (e, cc)

nat_cmp-tied : (j k : ℕ) → nat_cmp j k ≡ Equal → j ≡ k
nat_cmp-tied j k e = grind (arith, nat_tests)

nat_cmp-zero : (j : ℕ) → nat_cmp j 0 ≡ Less → ⊥
nat_cmp-zero j e = grind (arith, nat_tests)

nat_cmp-lower : (j k : ℕ) → j < k → nat_cmp j k ≡ Less
nat_cmp-lower j k below = grind (arith, nat_tests)

module _ (cells : List NewCell) (keys : List PlacedHash) (are : AreKeysOf cells keys) (hash : Hash256) where
  abbrev first : PlacedHash
  first = key hash 0

  -- a later key isn't below an earlier one
  far : (i j : ℕ) (d : PlacedHash) → i ≤ j → j < length keys → placed_cmp (get_or keys j d) (get_or keys i d) ≡ Less → ⊥
  far i j d upto in' less =
      true≢false (sym (ap is_lt less) ∙ sorted_far (λ x y. is_lt (placed_cmp x y)) (ranks_by placed_cmp-total (λ k. k)) keys are.sorted i j d upto in')

  searchable : IsNonDecreasingBy (λ y. ordering_index (placed_cmp y first)) keys
  searchable = searchable_from_sorted placed_cmp-total (λ k. k) keys first are.sorted

  listed : (i : ℕ) (d : PlacedHash) → i < length keys → ((get_or keys i d).place < length cells) × ((listed_at cells (get_or keys i d).place).hash ≡ (get_or keys i d).hash)
  listed i d in' = are.within (get_or keys i d) (Contains-get_or keys i d in')

  -- where the search finds the least key of this hash itself, the first cell has the hash
  pub place_among-found : (i : ℕ) → i < length keys → ((d : PlacedHash) → placed_cmp (get_or keys i d) first ≡ Equal) → 0 ≡ place_among cells hash
  place_among-found i in' tied =
      let found = get_or keys i first in
      let both = then-ties (hash_cmp found.hash hash) (nat_cmp found.place 0) (tied first) in
      let here = listed i first in' in
      let lowest : found.place ≡ 0 = nat_cmp-tied found.place 0 both.1 in
      let same : (listed_at cells 0).hash ≡ hash =
      ap (λ n. (listed_at cells n).hash) (sym lowest) ∙ here.1 ∙ hash_cmp-ties found.hash hash both.0
      in
      sym (place_among-first cells hash 0 (omega (arith, here.0, lowest)) same (λ k below _. absurd (omega arith)))

  -- else the keys before the place that it gives are below it, and those from there on are above
  module _ (at : ℕ) (bound : at ≤ length keys) (result : IsNonDecreasingBy (λ y. ordering_index (placed_cmp y first)) keys → IsPartitionPoint (λ y. placed_cmp y first ≡ Less) (λ y. placed_cmp y first ≡ Greater) keys at) where
    point : IsPartitionPoint (λ y. placed_cmp y first ≡ Less) (λ y. placed_cmp y first ≡ Greater) keys at
    point = result searchable

    -- a cell of this hash has its key there
    behind : (k : ℕ) → k < length cells → (listed_at cells k).hash ≡ hash → (j : ℕ) × (at ≤ j) × (j < length keys) × ((d : PlacedHash) → get_or keys j d ≡ key hash k)
    behind k in' same =
        let place = are.whole k in' in
        let j = place.0 in
        let here : (d : PlacedHash) → get_or keys j d ≡ key hash k =
        λ d. get_or_default keys j d (placed_at cells k) place.1 ∙ place.2 ∙ ap (λ h. key h k) same
        in
        ⊎_elim
        (λ before.
        let less = sym (ap (λ x. placed_cmp x first) (here first)) ∙ point.0 j first (omega arith) before in
        absurd (nat_cmp-zero k (sym (placed_cmp-same hash k 0) ∙ less)))
        (λ after. (j, after, place.1, here))
        (cases_lt j at)

    -- the key there, if it is of this hash, names the first such cell
    pub place_among-next : (k : PlacedHash) → at < length keys → ((d : PlacedHash) → get_or keys at d ≡ k) → k.hash ≡ hash → k.place ≡ place_among cells hash
    place_among-next k in' here same =
        let cell = listed at k in' in
        let at_k : (listed_at cells k.place).hash ≡ hash =
        ap (λ x. (listed_at cells x.place).hash) (sym (here k)) ∙ cell.1 ∙ ap (λ x. x.hash) (here k) ∙ same
        in
        let inside : k.place < length cells = omega (arith, cell.0, ap (λ x. x.place) (here k)) in
        sym
        (place_among-first cells hash k.place inside at_k
        (λ i below other.
        let later = behind i (omega arith) other in
        let less : placed_cmp (get_or keys later.0 k) (get_or keys at k) ≡ Less =
        ap₂ placed_cmp (later.3 k) (here k) ∙ ap (λ h. ordering_then (hash_cmp hash h) (nat_cmp i k.place)) same ∙ placed_cmp-same hash i k.place
        ∙ nat_cmp-lower i k.place below
        in
        far at later.0 k later.1 later.2 less))

    -- else the hash isn't listed
    pub place_among-absent : (k : PlacedHash) → at < length keys → ((d : PlacedHash) → get_or keys at d ≡ k) → (k.hash ≡ hash → ⊥) → 0 ≡ place_among cells hash
    place_among-absent k in' here differs =
        sym
        (place_among-none cells hash
        (λ i in-i other.
        let later = behind i in-i other in
        let above : hash_cmp k.hash hash ≡ Greater =
        greater k.hash hash (nat_cmp k.place 0) differs (sym (ap (λ x. placed_cmp x first) (here first)) ∙ point.1 at first (omega arith) in') in
        let less : placed_cmp (get_or keys later.0 k) (get_or keys at k) ≡ Less =
        ap₂ placed_cmp (later.3 k) (here k) ∙ ap (λ o. ordering_then o (nat_cmp i k.place)) (hash_cmp-total.antisymm hash k.hash ∙ ap ordering_reverse above)
        in
        far at later.0 k later.1 later.2 less))
      where
        greater : (a b : Hash256) (o : Ordering) → (a ≡ b → ⊥) → ordering_then (hash_cmp a b) o ≡ Greater → hash_cmp a b ≡ Greater
        greater a b o differs e = go (hash_cmp a b) refl e
          where
            go : (p : Ordering) → hash_cmp a b ≡ p → ordering_then p o ≡ Greater → p ≡ Greater
            go Less is e = e
            go Equal is e = absurd (differs (hash_cmp-ties a b is))
            go Greater is e = refl

    pub place_among-past : length keys ≤ at → 0 ≡ place_among cells hash
    place_among-past past =
        sym (place_among-none cells hash (λ i in-i other. let later = behind i in-i other in omega (arith, later.1, later.2)))
