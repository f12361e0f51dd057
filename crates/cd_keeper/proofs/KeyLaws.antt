-- Changes in which no key stands twice.
use Rattle.std.proofs.Common.{◌≡◌, ℕ, Bool, true, false, ◌||◌, List, [], ◌∷◌, ◌++◌, map, refl, ap, ◌∙◌, append_assoc}
use Rattle.std.specs.Prelude.{Vec}
use Rattle.std.specs.Global.{Global}
use Rattle.std.proofs.lemmas.List.Folds.{list_any-append}
use Rattle.cd_keeper.specs.Shown.{entries_of}
use Rattle.std.specs.List.{AllByRecursion, IsDistinct, list_any}
use Rattle.std.specs.Map.{keys_of}
use Rattle.std.proofs.lemmas.Bool.{or_parts}
use Rattle.std.proofs.lemmas.List.{map-append}
use Rattle.std.proofs.lemmas.Map.Keys.{IsDistinct-push, IsDistinct-cons, IsDistinct-head, IsDistinct-tail}
use Rattle.cd_keeper.specs.Contents.{Change}
use Rattle.cd_keeper.specs.NoKeyTwice.{HasNoKeyTwice, IsNew, same_key, cell_keys, desc_keys}
use Rattle.cd_keeper.proofs.TableLaws.{same_key-equiv}

apart : (key : List ℕ) (keys : List (List ℕ)) → IsNew key keys → AllByRecursion (λ other. same_key key other ≡ false) keys
apart key [] new = tt
apart key (k ∷ keys) new = let parts = or_parts (same_key key k) (list_any (same_key key) keys) new in (parts.0, apart key keys parts.1)

apart-middle : (x key : List ℕ) (xs ys : List (List ℕ)) → AllByRecursion (λ other. same_key x other ≡ false) (xs ++ ys) → same_key x key ≡ false → AllByRecursion (λ other. same_key x other ≡ false) (xs ++ key ∷ ys)
apart-middle x key [] ys all other = (other, all)
apart-middle x key (y ∷ xs) ys all other = (all.0, apart-middle x key xs ys all.1 other)

-- a new key in the middle
distinct-middle : (xs ys : List (List ℕ)) (key : List ℕ) → IsDistinct same_key (xs ++ ys) → IsNew key (xs ++ ys) → IsDistinct same_key (xs ++ key ∷ ys)
distinct-middle [] ys key distinct new = IsDistinct-cons same_key key ys (apart key ys new) distinct
distinct-middle (x ∷ xs) ys key distinct new =
    let parts = or_parts (same_key key x) (list_any (same_key key) (xs ++ ys)) new in
    IsDistinct-cons same_key x (xs ++ key ∷ ys)
    (apart-middle x key xs ys (IsDistinct-head same_key x (xs ++ ys) distinct) (same_key-equiv.symm x key ∙ parts.0))
    (distinct-middle xs ys key (IsDistinct-tail same_key x (xs ++ ys) distinct) parts.1)

-- a new key among the puts, and one among the drops
distinct-put : (drops : List (List ℕ)) (puts : List (List ℕ × List ℕ)) (key value : List ℕ) → IsDistinct same_key (drops ++ keys_of puts) → IsNew key (drops ++ keys_of puts) → IsDistinct same_key (drops ++ keys_of (puts ++ (key, value) ∷ []))
distinct-put drops puts key value distinct new =
    let keys : keys_of (puts ++ (key, value) ∷ []) ≡ keys_of puts ++ key ∷ [] = map-append (λ e. e.0) puts ((key, value) ∷ []) in
    rw (keys, ← append_assoc) (IsDistinct-push same_key-equiv (drops ++ keys_of puts) key distinct new)

distinct-drop : (drops keys : List (List ℕ)) (key : List ℕ) → IsDistinct same_key (drops ++ keys) → IsNew key (drops ++ keys) → IsDistinct same_key ((drops ++ key ∷ []) ++ keys)
distinct-drop drops keys key distinct new = rw (append_assoc) (distinct-middle drops keys key distinct new)

pub put_cell-new : (change : Change) (key value : List ℕ) → HasNoKeyTwice change → IsNew key (cell_keys change) → HasNoKeyTwice (record change { put_cells = change.put_cells ++ (key, value) ∷ [] })
put_cell-new change key value once new = record { cells = distinct-put change.drop_cells change.put_cells key value once.cells new; descs = once.descs }

pub drop_cell-new : (change : Change) (key : List ℕ) → HasNoKeyTwice change → IsNew key (cell_keys change) → HasNoKeyTwice (record change { drop_cells = change.drop_cells ++ key ∷ [] })
drop_cell-new change key once new = record { cells = distinct-drop change.drop_cells (keys_of change.put_cells) key once.cells new; descs = once.descs }

pub put_desc-new : (change : Change) (key value : List ℕ) → HasNoKeyTwice change → IsNew key (desc_keys change) → HasNoKeyTwice (record change { put_descs = change.put_descs ++ (key, value) ∷ [] })
put_desc-new change key value once new = record { cells = once.cells; descs = distinct-put change.drop_descs change.put_descs key value once.descs new }

pub drop_desc-new : (change : Change) (key : List ℕ) → HasNoKeyTwice change → IsNew key (desc_keys change) → HasNoKeyTwice (record change { drop_descs = change.drop_descs ++ key ∷ [] })
drop_desc-new change key once new = record { cells = once.cells; descs = distinct-drop change.drop_descs (keys_of change.put_descs) key once.descs new }

-- no keys at all
pub none_twice : HasNoKeyTwice record { put_cells = []; drop_cells = []; put_descs = []; drop_descs = [] }
unfolding IsDistinct
none_twice = record { cells = tt; descs = tt }

-- ---- whether a change names a key

list_any-map : {A B : Type 0} (p : B → Bool) (f : A → B) (xs : List A) → list_any p (map f xs) ≡ list_any (λ x. p (f x)) xs
list_any-map p f [] = refl
list_any-map p f (x ∷ xs) = ap (λ b. p (f x) || b) (list_any-map p f xs)

module _ {K : Type 0} (bytes : K → List ℕ) (key : List ℕ) (drops : List K) (puts : List (K × Vec ℕ Global)) where
  abbrev names : Bool
  names = list_any (same_key key) (map bytes drops ++ keys_of (entries_of bytes puts))

  names-parts : names ≡ (list_any (λ k. same_key key (bytes k)) drops || list_any (λ e. same_key key (bytes e.0)) puts)
  names-parts =
      list_any-append (same_key key) (map bytes drops) (keys_of (entries_of bytes puts))
      ∙ rw (list_any-map (same_key key) bytes drops, list_any-map (same_key key) (λ (e : List ℕ × List ℕ). e.0) (entries_of bytes puts), list_any-map (λ (e : List ℕ × List ℕ). same_key key e.0) (λ (e : K × Vec ℕ Global). (bytes e.0, e.1.items)) puts) refl

  either : (a b n : Bool) → n ≡ (a || b) → a ≡ true → true ≡ n
  either a b n e t = cc

  other : (a b n : Bool) → n ≡ (a || b) → a ≡ false → b ≡ n
  other a b n e t = cc

  -- a key that is dropped, and one that is not
  pub names-dropped : list_any (λ k. same_key key (bytes k)) drops ≡ true → true ≡ names
  names-dropped t = either _ _ names names-parts t

  pub names-put : list_any (λ k. same_key key (bytes k)) drops ≡ false → list_any (λ e. same_key key (bytes e.0)) puts ≡ names
  names-put t = other _ _ names names-parts t
