-- Where the held cells have the faces that are stored, references are counted alike by the one and by the other.
use Rattle.std.proofs.Common.{◌≡◌, ℕ, zero, suc, ◌+◌, ◌≤◌, Bool, true, false, cond, List, [], ◌∷◌, map, Some, Contains, refl, sym, ap, ap₂, ◌∙◌, subst, inl, inr, ⊎_elim, ◌⊎◌, arith}
use Rattle.std.specs.List.{count_by, sum_by}
use Rattle.std.specs.Ordering.{on}
use Rattle.std.specs.Str.{bytes_eq}
use Rattle.std.specs.FinMap.{get, entries, values}
use Rattle.std.proofs.lemmas.List.Sums.{sum_by-cons}
use Rattle.cd_base.specs.declared.hash.Hash256.{Hash256}
use Rattle.cd_block.specs.declared.description.Descr.{Descr}
use Rattle.cd_cell.specs.declared.info.ChildInfo.{ChildInfo}
use Rattle.cd_cell.specs.Equality.{same_hash}
use Rattle.cd_cell.specs.FaceView.{FaceView}
use Rattle.cd_cell.specs.Infos.{rep_of_info}
use Rattle.cd_cell.specs.Tree.{Tree, children, info_of, face_of, rep_of}
use Rattle.cd_cell.proofs.Distinct.{Rises, same-rising}
use Rattle.cd_cell.proofs.Subtrees.{Contains-first, Contains-later, Contains-map, Contains-mapped, kids-face_of}
use Rattle.cd_world.specs.World.{Block, has_hash, places_of}
use Rattle.cd_world.specs.Told.{ToldWorld, block_of, held, count}
use Rattle.cd_world.proofs.CountLaws.{sum_by-map}
use Rattle.cd_restart.specs.Stored.{Stored}
use Rattle.cd_restart.specs.ScanFaults.{places_in, references}
use Rattle.cd_world.proofs.Tables.{byte_cmp, by_key, by_key-total, table-in_order, table-get, table-got, rises-map}

-- ---- sums

pub sum_by-each : {A : Type 0} (f g : A → ℕ) (xs : List A) → ((x : A) → Contains xs x → f x ≡ g x) → sum_by f xs ≡ sum_by g xs
sum_by-each f g [] same = refl
sum_by-each f g (x ∷ xs) same =
    sum_by-cons f x xs ∙ ap₂ (λ a b. a + b) (same x (Contains-first x xs)) (sum_by-each f g xs (λ y h. same y (Contains-later x xs y h))) ∙ sym (sum_by-cons g x xs)

one_of_two : (a b : ℕ) → 1 ≤ a + b → (1 ≤ a) ⊎ (1 ≤ b)
one_of_two zero b some = inr (omega arith)
one_of_two (suc a) b some = inl (omega arith)

-- what is counted at all is counted of an element
pub summed-some : {A : Type 0} (f : A → ℕ) (xs : List A) → 1 ≤ sum_by f xs → (x : A) × Contains xs x × (1 ≤ f x)
summed-some f [] some = absurd (omega arith)
summed-some f (x ∷ xs) some = ⊎_elim
    (λ here. (x, Contains-first x xs, here))
    (λ later. let found = summed-some f xs later in (found.0, Contains-later x xs found.0 found.1, found.2))
    (one_of_two (f x) (sum_by f xs) (subst (λ n. 1 ≤ n) (sum_by-cons f x xs) some))

passes : (b : Bool) → 1 ≤ cond {A = ℕ} b 1 0 → b ≡ true
passes true h = refl
passes false h = absurd (omega arith)

pub counted-some : {A : Type 0} (p : A → Bool) (xs : List A) → 1 ≤ count_by p xs → (x : A) × Contains xs x × (p x ≡ true)
counted-some p xs some = let found = summed-some (λ x. cond (p x) 1 0) xs some in (found.0, found.1, passes (p found.0) found.2)

-- a reference is that of a block or of a stored cell
pub referred : (blocks : List Descr) (cells : List Stored) (hash : Hash256) → 1 ≤ references blocks cells hash
    → ((d : Descr) × Contains blocks d × (same_hash d.root hash ≡ true))
    ⊎ ((p : Stored) × Contains cells p × ((k : ChildInfo) × Contains p.1.face.kids k × (same_hash (rep_of_info k) hash ≡ true)))
referred blocks cells hash some = ⊎_elim
    (λ root. inl (counted-some (λ (d : Descr). same_hash d.root hash) blocks root))
    (λ place.
    let parent = summed-some (places_in hash) cells place in
    let kid = counted-some (λ (k : ChildInfo). same_hash (rep_of_info k) hash) parent.0.1.face.kids parent.2 in
    inr (parent.0, parent.1, kid))
    (one_of_two (count_by (λ (d : Descr). same_hash d.root hash) blocks) (sum_by (places_in hash) cells) some)

-- ---- held cells and stored ones

-- the stored cells stand in the order of their hashes, each is held with its face, and each held cell is stored with its face
pub record AreHeld (H : List ℕ → Hash256) (t : ToldWorld) (cells : List Stored) : Type 0 where
  pub ordered : Rises (on (λ (c : Stored). let h = c.0 in h.0) byte_cmp) cells
  pub into : (c : Stored) → Contains cells c → let h = c.0 in (s : Tree) × (get (held H t) h.0 ≡ Some s) × (face_of H s ≡ c.1.face)
  pub back : (q : List ℕ) (s : Tree) → get (held H t) q ≡ Some s → (c : Stored) × Contains cells c × (let h = c.0 in h.0 ≡ q) × (face_of H s ≡ c.1.face)
  pub roots : (d : Descr) → Contains t.world.blocks d → rep_of H (t.state d.id) ≡ d.root

module _ (H : List ℕ → Hash256) (t : ToldWorld) (cells : List Stored) (are : AreHeld H t cells) where
  abbrev held_faces : List (List ℕ × FaceView)
  held_faces = map (λ (e : List ℕ × Tree). (e.0, face_of H e.1)) (entries (held H t))

  abbrev stored_faces : List (List ℕ × FaceView)
  stored_faces = map (λ (c : Stored). (let h = c.0 in h.0, c.1.face)) cells

  into_stored : (e : List ℕ × FaceView) → Contains held_faces e → Contains stored_faces e
  into_stored e h =
      let from = Contains-map (λ (e : List ℕ × Tree). (e.0, face_of H e.1)) (entries (held H t)) e h in
      let c = are.back from.0.0 from.0.1 (table-get (held H t) from.0 from.1) in
      subst (Contains stored_faces) (ap₂ (λ (q : List ℕ) (f : FaceView). (q, f)) c.2 (sym c.3) ∙ from.2)
      (Contains-mapped (λ (c : Stored). (let h = c.0 in h.0, c.1.face)) cells c.0 c.1)

  into_held : (e : List ℕ × FaceView) → Contains stored_faces e → Contains held_faces e
  into_held e h =
      let from = Contains-map (λ (c : Stored). (let h = c.0 in h.0, c.1.face)) cells e h in
      let s = are.into from.0 from.1 in
      let hash = from.0.0 in
      let at = table-got (held H t) hash.0 s.0 s.1 in
      subst (Contains held_faces) (ap₂ (λ (q : List ℕ) (f : FaceView). (q, f)) (sym at.2) (ap (face_of H) at.3 ∙ s.2) ∙ from.2)
      (Contains-mapped (λ (e : List ℕ × Tree). (e.0, face_of H e.1)) (entries (held H t)) at.0 at.1)

  pub faces-match : held_faces ≡ stored_faces
  faces-match = same-rising by_key by_key-total held_faces stored_faces
      (rises-map by_key by_key (λ (e : List ℕ × Tree). (e.0, face_of H e.1)) (entries (held H t)) (λ x y in-x in-y less. less) (table-in_order (held H t)))
      (rises-map (on (λ (c : Stored). let h = c.0 in h.0) byte_cmp) by_key (λ (c : Stored). (let h = c.0 in h.0, c.1.face)) cells (λ x y in-x in-y less. less) are.ordered)
      into_stored into_held

  -- in how many places of a face a kid of this hash stands
  abbrev places_of_face : List ℕ → FaceView → ℕ
  places_of_face q f = count_by (λ k. bytes_eq (let h = rep_of_info k in h.0) q) f.kids

  places-face : (q : List ℕ) (s : Tree) → places_of H q s ≡ places_of_face q (face_of H s)
  places-face q s =
      let test = λ (k : ChildInfo). cond {A = ℕ} (bytes_eq (let h = rep_of_info k in h.0) q) 1 0 in
      sym (ap (λ (ks : List ChildInfo). count_by (λ k. bytes_eq (let h = rep_of_info k in h.0) q) ks) (kids-face_of H s) ∙ sum_by-map test (info_of H) (children s))

  -- the references are the count
  pub counts-match : (q : List ℕ) → count H t q ≡ references t.world.blocks cells (record { 0 = q })
  counts-match q = ap₂ (λ a b. a + b) roots_counted places_counted
    where
      roots_counted : count_by (λ (b : Block). has_hash H q b.state) (map (block_of t) t.world.blocks) ≡ count_by (λ (d : Descr). same_hash d.root (record { 0 = q })) t.world.blocks
      roots_counted =
          sum_by-map (λ (b : Block). cond {A = ℕ} (has_hash H q b.state) 1 0) (block_of t) t.world.blocks
          ∙ sum_by-each (λ (d : Descr). cond {A = ℕ} (has_hash H q (t.state d.id)) 1 0) (λ (d : Descr). cond {A = ℕ} (same_hash d.root (record { 0 = q })) 1 0) t.world.blocks
          (λ d h. ap (λ (r : Hash256). cond {A = ℕ} (bytes_eq r.0 q) 1 0) (are.roots d h))

      places_counted : sum_by (places_of H q) (values (held H t)) ≡ sum_by (places_in (record { 0 = q })) cells
      places_counted =
          let face_at : List ℕ × FaceView → ℕ = λ e. places_of_face q e.1 in
          sum_by-map (places_of H q) (λ (e : List ℕ × Tree). e.1) (entries (held H t))
          ∙ sum_by-each (λ (e : List ℕ × Tree). places_of H q e.1) (λ (e : List ℕ × Tree). places_of_face q (face_of H e.1)) (entries (held H t)) (λ e h. places-face q e.1)
          ∙ sym (sum_by-map face_at (λ (e : List ℕ × Tree). (e.0, face_of H e.1)) (entries (held H t)))
          ∙ ap (sum_by face_at) faces-match
          ∙ sum_by-map face_at (λ (c : Stored). (let h = c.0 in h.0, c.1.face)) cells
