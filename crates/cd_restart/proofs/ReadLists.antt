-- Where all entries are read, what they tell is told in their order, and found under their keys.
use Rattle.std.proofs.Common.{◌≡◌, ℕ, Bool, true, false, cond, List, [], ◌∷◌, Option, Some, None, Result, Ok, Err, Contains, Less, Ordering, refl, sym, ap, ap₂, ◌∙◌, subst, inl, inr, ⊎_elim, ◌⊎◌}
use Rattle.std.specs.List.{filter_map, cons_option}
use Rattle.std.specs.Option.{option_map, option_and_then}
use Rattle.std.specs.Ordering.{eq_by_cmp}
use Rattle.std.specs.Prelude.{find}
use Rattle.std.specs.Str.{bytes_eq}
use Rattle.std.specs.Cmp.Lexicographic.{bytes_decides}
use Rattle.std.specs.FinMap as finite
use Rattle.std.proofs.lemmas.Bool.{true≢false}
use Rattle.std.proofs.lemmas.Option.{none-some, same_Some}
use Rattle.cd_base.specs.declared.hash.Hash256.{Hash256}
use Rattle.cd_cell.specs.Equality.{same_hash, same_hash-Decides}
use Rattle.cd_cell.proofs.Distinct.{Rises}
use Rattle.cd_cell.proofs.Subtrees.{Contains-first, Contains-later, Contains-cases, Contains-nil}
use Rattle.cd_record.specs.declared.record.Record.{Record}
use Rattle.cd_record.specs.declared.record_fault.RecordFault.{RecordFault}
use Rattle.cd_record.specs.RecordReading.{record_in}
use Rattle.cd_keeper.specs.Contents.{Contents}
use Rattle.cd_world.specs.Unfolded.{face_read, face_in}
use Rattle.cd_world.proofs.Held.{same_bytes, bytes_tie}
use Rattle.cd_restart.specs.Lists.{first_of}
use Rattle.cd_restart.specs.Stored.{Entry, Stored, read_cell, cell_of, cells_in}
use Rattle.cd_restart.specs.ScanFaults.{unrecorded, record_fault, record_at}
use Rattle.cd_world.proofs.Tables.{byte_cmp}
use Rattle.cd_restart.proofs.Faults.{neither}

-- ---- a filter that drops nothing

module _ {A B : Type 0} (h : A → Option B) where
  -- what is told is told of an element
  pub told-of : (xs : List A) (y : B) → Contains (filter_map h xs) y → (x : A) × Contains xs x × (h x ≡ Some y)
  told-of [] y c = absurd (Contains-nil y c)
  told-of (x ∷ xs) y c = by (h x) refl c (told-of xs y)
    where
      by : (o : Option B) → h x ≡ o → Contains (cons_option o (filter_map h xs)) y → (Contains (filter_map h xs) y → (z : A) × Contains xs z × (h z ≡ Some y)) → (z : A) × Contains (x ∷ xs) z × (h z ≡ Some y)
      by None e c rest = let found = rest c in (found.0, Contains-later x xs found.0 found.1, found.2)
      by (Some z) e c rest = ⊎_elim
          (λ same. (x, Contains-first x xs, e ∙ ap Some same))
          (λ later. let found = rest later in (found.0, Contains-later x xs found.0 found.1, found.2))
          (Contains-cases z (filter_map h xs) y c)

  pub of-told : (xs : List A) (x : A) (y : B) → Contains xs x → h x ≡ Some y → Contains (filter_map h xs) y
  of-told [] x y c e = absurd (Contains-nil x c)
  of-told (z ∷ xs) x y c e = by (h z) refl (Contains-cases z xs x c) (λ later. of-told xs x y later e)
    where
      by : (o : Option B) → h z ≡ o → (z ≡ x) ⊎ Contains xs x → (Contains xs x → Contains (filter_map h xs) y) → Contains (cons_option o (filter_map h xs)) y
      by None at (inl same) rest = absurd (none-some y (sym at ∙ ap h same ∙ e))
      by None at (inr later) rest = rest later
      by (Some w) at (inl same) rest =
          subst (λ v. Contains (w ∷ filter_map h xs) v) (same_Some w y (sym at ∙ ap h same ∙ e)) (Contains-first w (filter_map h xs))
      by (Some w) at (inr later) rest = Contains-later w (filter_map h xs) y (rest later)

  -- what is told rises where the elements do
  module _ (R : A → A → Ordering) (S : B → B → Ordering) where
    pub rises-told : (xs : List A) → ((x y : A) (u v : B) → Contains xs x → Contains xs y → h x ≡ Some u → h y ≡ Some v → R x y ≡ Less → S u v ≡ Less) → Rises R xs → Rises S (filter_map h xs)
    rises-told [] keeps up = tt
    rises-told (x ∷ xs) keeps up = by (h x) refl (rises-told xs (λ y z u v in-y in-z. keeps y z u v (Contains-later x xs y in-y) (Contains-later x xs z in-z)) up.1)
      where
        by : (o : Option B) → h x ≡ o → Rises S (filter_map h xs) → Rises S (cons_option o (filter_map h xs))
        by None e rest = rest
        by (Some u) e rest = (
          λ v in-v.
              let from = told-of xs v in-v in
              keeps x from.0 u v (Contains-first x xs) (Contains-later x xs from.0 from.1) e from.2 (up.0 from.0 from.1),
          rest,
        )

-- ---- keys

pub tie-eq : (p q : List ℕ) → eq_by_cmp byte_cmp p q ≡ bytes_eq p q
tie-eq p q = by (eq_by_cmp byte_cmp p q) refl (bytes_eq p q) refl
  where
    by : (a : Bool) → eq_by_cmp byte_cmp p q ≡ a → (b : Bool) → bytes_eq p q ≡ b → a ≡ b
    by true e true f = refl
    by false e false f = refl
    by true e false f = absurd (true≢false (sym ((bytes_decides p q).1 (same_bytes p q e)) ∙ f))
    by false e true f = absurd (true≢false (sym (bytes_tie p q ((bytes_decides p q).0 f)) ∙ e))

-- ---- records

pub recorded : (key : List ℕ) (x : Result Record RecordFault) → unrecorded key x ≡ None → (r : Record) × (x ≡ Ok r)
recorded key (Ok r) e = (r, refl)
recorded key (Err fault) e = absurd cc

abbrev pub is_read : Record → Result Record RecordFault
is_read r = Ok r

-- the record under a hash is that of its bytes
record-found : (es : List Entry) (q : List ℕ) → first_of record_fault es ≡ None → option_map record_in (finite.find byte_cmp q es) ≡ option_map is_read (record_at (filter_map cell_of es) (record { 0 = q }))
record-found [] q e = refl
record-found (x ∷ es) q e =
    let both = neither (record_fault x) (first_of record_fault es) e in
    let good = recorded x.0 (record_in x.1) both.0 in
    by (eq_by_cmp byte_cmp q x.0) refl good.0 good.1 (record-found es q both.1)
    ∙ sym (ap (λ (o : Option Stored). option_map is_read (option_map (λ c. c.1) (find (λ c. bytes_eq q (let h = c.0 in h.0)) (cons_option o (filter_map cell_of es))))) (ap (read_cell x.0) good.1))
  where
    by : (b : Bool) → eq_by_cmp byte_cmp q x.0 ≡ b → (r : Record) → record_in x.1 ≡ Ok r
        → option_map record_in (finite.find byte_cmp q es) ≡ option_map is_read (record_at (filter_map cell_of es) (record { 0 = q }))
        → option_map record_in (cond b (Some x.1) (finite.find byte_cmp q es)) ≡ option_map is_read (option_map (λ (c : Stored). c.1) (cond (bytes_eq q x.0) (Some (record { 0 = x.0 }, r)) (find (λ (c : Stored). bytes_eq q (let h = c.0 in h.0)) (filter_map cell_of es))))
    by true at r read rest = rw (sym (tie-eq q x.0) ∙ at) (ap Some read)
    by false at r read rest = rw (sym (tie-eq q x.0) ∙ at) rest

module _ (contents : Contents) (read : first_of record_fault (finite.entries contents.cells) ≡ None) where
  pub record-under : (q : List ℕ) → option_map record_in (finite.get contents.cells q) ≡ option_map is_read (record_at (cells_in contents) (record { 0 = q }))
  record-under q = ap (option_map record_in) (finite.get-entries contents.cells q) ∙ record-found (finite.entries contents.cells) q read

  -- and so its face is the one that the contents tell
  pub face-under : (q : List ℕ) → face_in contents q ≡ option_map (λ r. r.face) (record_at (cells_in contents) (record { 0 = q }))
  face-under q = by (finite.get contents.cells q) (record_at (cells_in contents) (record { 0 = q })) (record-under q)
    where
      by : (o : Option (List ℕ)) (p : Option Record) → option_map record_in o ≡ option_map is_read p → option_and_then (λ bytes. face_read (record_in bytes)) o ≡ option_map (λ r. r.face) p
      by None None e = refl
      by None (Some r) e = absurd cc
      by (Some bytes) None e = absurd cc
      by (Some bytes) (Some r) e = ap face_read (same_Some (record_in bytes) (Ok r) e)

-- what is found under a hash is a cell with that hash
pub stored-at : (cells : List Stored) (hash : Hash256) (r : Record) → record_at cells hash ≡ Some r → Contains cells (hash, r)
stored-at [] hash r e = absurd (none-some r e)
stored-at (c ∷ cells) hash r e = by (same_hash hash c.0) refl e (stored-at cells hash r)
  where
    by : (b : Bool) → same_hash hash c.0 ≡ b → option_map (λ (x : Stored). x.1) (cond b (Some c) (find (λ (x : Stored). same_hash hash x.0) cells)) ≡ Some r
        → (record_at cells hash ≡ Some r → Contains cells (hash, r)) → Contains (c ∷ cells) (hash, r)
    by true same is rest =
        let key : c.0 ≡ hash = sym ((same_hash-Decides hash c.0).0 same) in
        let value : c.1 ≡ r = same_Some c.1 r is in
        subst (Contains (c ∷ cells)) (ap₂ (λ (h : Hash256) (x : Record). (h, x)) key value) (Contains-first c cells)
    by false other is rest = Contains-later c cells (hash, r) (rest is)
