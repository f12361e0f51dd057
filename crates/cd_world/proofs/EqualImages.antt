-- Sound worlds with equal images have equal blocks, trees included.
use Rattle.std.proofs.Common.{◌≡◌, ℕ, ◌+◌, ◌≤◌, Bool, true, false, cond, List, [], ◌∷◌, ◌++◌, map, flat_map, length, get_or, Option, Some, None, Contains, All, Less, refl, sym, ap, ◌∙◌, subst, inl, inr, ⊎_elim, ◌⊎◌, arith}
use Rattle.std.specs.Prelude.{IsSome, is_some}
use Rattle.std.specs.Option.{option_map}
use Rattle.std.specs.List.{count_by, sum_by}
use Rattle.std.specs.Ordering.{on, nat_cmp, eq_by_cmp}
use Rattle.std.specs.Cmp.{on_total}
use Rattle.std.specs.Cmp.Lexicographic.{slice_cmp, nat_list_cmp_total, bytes_decides}
use Rattle.std.specs.FinMap as finite
use Rattle.std.specs.FinMap.{find, get, entries, values, get-from_entries}
use Rattle.std.proofs.lemmas.Bool.{true≢false}
use Rattle.std.proofs.lemmas.Option.{none-some, same_Some}
use Rattle.std.proofs.lemmas.List.Elements.{All-contains, Contains-append_cases, Contains-append_left, Contains-append_right, recursion_from_All, All-nil, All-cons}
use Rattle.std.proofs.lemmas.List.Sums.{get_or-le-sum_by}
use Rattle.cd_base.specs.declared.hash.Hash256.{Hash256}
use Rattle.cd_block.specs.declared.block.BlockId.{BlockId}
use Rattle.cd_block.specs.declared.description.Descr.{Descr}
use Rattle.cd_block.specs.Block.{key_of, id_cmp}
use Rattle.cd_block.specs.Description.{descr_text}
use Rattle.cd_block.proofs.Keys.{key_of_injective}
use Rattle.cd_block.proofs.Descriptions.{descr_text_injective}
use Rattle.cd_cell.specs.Steady.{IsSteady}
use Rattle.cd_cell.specs.Tree.{Tree, cell, children, subtrees, info_of, infos_of, face_of, rep_of, IsWellFormed, AreWellFormed, Trees, no_trees, tree_and}
use Rattle.cd_cell.specs.Export.{AreClashFree}
use Rattle.cd_cell.proofs.Subtrees.{Contains-first, Contains-later, Contains-cases, Contains-nil, Contains-map, Contains-mapped, flat_map-cases, flat_map-listed, same_subtrees, well_formed-subtree, IsGoodFace-face_of, subtree-itself, subtree-parent}
use Rattle.cd_cell.proofs.Heights.{IsSteady-infos_of}
use Rattle.cd_cell.proofs.Distinct.{same-rising, rises-from_AllPairs}
use Rattle.cd_keeper.specs.Contents.{Contents}
use Rattle.cd_record.specs.declared.record.Record.{Record}
use Rattle.cd_record.specs.Records.{IsRecord, IsInfo}
use Rattle.cd_record.specs.RecordText.{record_text}
use Rattle.cd_record.proofs.RecordLaws.{text-injective}
use Rattle.cd_world.specs.World.{Block, has_hash, places_of}
use Rattle.cd_world.specs.Image.{descr_of, descr_entry, IsContentsOf}
use Rattle.cd_world.specs.Standing.{IsBeforeBlock}
use Rattle.cd_world.specs.Told.{ToldWorld, block_of, shown, states_of, held, count, image, IsSoundBlock, IsSound}
use Rattle.cd_world.specs.OneImage.{HasBlocksOf}
use Rattle.cd_world.proofs.Held.{same_bytes, bytes_tie, keyed, found_is, found_for, rep_bytes}
use Rattle.cd_world.proofs.Plain.{image-cell, contents-image}
use Rattle.cd_world.proofs.Orders.{InOrder, order_from_AllPairs, id_cmp-total}
use Rattle.cd_world.proofs.ShownInfos.{IsInfo-info_of}

-- ---- look-ups

-- what is found among entries is the value of one of them
module _ {Item : Type 0} where
  pub found_value : (q : List ℕ) (es : List (List ℕ × Item)) (v : Item) → find (slice_cmp nat_cmp) q es ≡ Some v → (e : List ℕ × Item) × Contains es e × (e.1 ≡ v)
  found_value q [] v e = absurd (none-some v e)
  found_value q (x ∷ es) v e = by (found_value q es v) (eq_by_cmp (slice_cmp nat_cmp) q x.0) e
    where
      by : (find (slice_cmp nat_cmp) q es ≡ Some v → (e : List ℕ × Item) × Contains es e × (e.1 ≡ v)) → (b : Bool) → cond b (Some x.1) (find (slice_cmp nat_cmp) q es) ≡ Some v → (e : List ℕ × Item) × Contains (x ∷ es) e × (e.1 ≡ v)
      by rest true s = (x, Contains-first x es, same_Some x.1 v s)
      by rest false s = let found = rest s in (found.0, Contains-later x es found.0 found.1, found.2)

-- one that passes is counted
counted_one : {A : Type 0} (p : A → Bool) (xs : List A) (x : A) → Contains xs x → p x ≡ true → 1 ≤ count_by p xs
counted_one p xs x h pass =
    let one : cond (p (get_or xs h.0 x)) 1 0 ≡ 1 = ap (λ b. cond {A = ℕ} b 1 0) (ap p h.2 ∙ pass) in
    omega (arith, one, get_or-le-sum_by (λ y. cond (p y) 1 0) xs h.0 x h.1)

summed_one : {A : Type 0} (f : A → ℕ) (xs : List A) (x : A) → Contains xs x → f x ≤ sum_by f xs
summed_one f xs x h = subst (λ y. f y ≤ sum_by f xs) h.2 (get_or-le-sum_by f xs h.0 x h.1)

-- in a list in order each id has one place
pub one_id : (xs : List Descr) → InOrder IsBeforeBlock xs → (a b : Descr) → Contains xs a → Contains xs b → a.id ≡ b.id → a ≡ b
one_id [] up a b in-a in-b same = absurd (Contains-nil a in-a)
one_id (x ∷ xs) up a b in-a in-b same = by (one_id xs up.1 a b) (Contains-cases x xs a in-a) (Contains-cases x xs b in-b)
  where
    not_itself : (p : BlockId) → id_cmp p p ≡ Less → ⊥
    not_itself p e = (let turned = id_cmp-total.antisymm p p in absurd (cc (turned, e)))

    by : (Contains xs a → Contains xs b → a.id ≡ b.id → a ≡ b) → (x ≡ a) ⊎ Contains xs a → (x ≡ b) ⊎ Contains xs b → a ≡ b
    by rest (inl p) (inl q) = sym p ∙ q
    by rest (inl p) (inr q) = absurd (not_itself b.id (subst (λ (k : BlockId). id_cmp k b.id ≡ Less) (ap (λ (d : Descr). d.id) p ∙ same) (up.0 b q)))
    by rest (inr p) (inl q) = absurd (not_itself a.id (subst (λ (k : BlockId). id_cmp k a.id ≡ Less) (ap (λ (d : Descr). d.id) q ∙ sym same) (up.0 a p)))
    by rest (inr p) (inr q) = rest p q same

module _ (H : List ℕ → Hash256) where
  abbrev pub cells_of : ToldWorld → List Tree
  cells_of t = flat_map subtrees (states_of t)

  pooled : (t : ToldWorld) (ds : List Descr) → flat_map (λ (b : Block). subtrees b.state) (map (block_of t) ds) ≡ flat_map subtrees (map (λ d. t.state d.id) ds)
  pooled t [] = refl
  pooled t (d ∷ ds) = ap (λ rest. subtrees (t.state d.id) ++ rest) (pooled t ds)

  -- the held cells by look-ups
  pub get-held : (t : ToldWorld) (q : List ℕ) → get (held H t) q ≡ find (slice_cmp nat_cmp) q (keyed (rep_bytes H) (cells_of t))
  get-held t q =
      get-from_entries nat_list_cmp_total (keyed (rep_bytes H) (flat_map (λ (b : Block). subtrees b.state) (map (block_of t) t.world.blocks))) q
      ∙ ap (λ cells. find (slice_cmp nat_cmp) q (keyed (rep_bytes H) cells)) (pooled t t.world.blocks)

  pub same_rep_bytes : (a b : Tree) → rep_bytes H a ≡ rep_bytes H b → rep_of H a ≡ rep_of H b
  same_rep_bytes a b e = λ i. record { 0 = e i }

  -- what is held under a hash is a cell of a state with that hash
  pub held_is_cell : (t : ToldWorld) (q : List ℕ) (s : Tree) → get (held H t) q ≡ Some s → Contains (cells_of t) s × (rep_bytes H s ≡ q)
  held_is_cell t q s e = found_is (rep_bytes H) q (cells_of t) s (sym (get-held t q) ∙ e)

  -- and each cell of a state is held, where all are free of clashes
  pub cell_is_held : (t : ToldWorld) → AreClashFree H (states_of t) → (s : Tree) → Contains (cells_of t) s → get (held H t) (rep_bytes H s) ≡ Some s
  cell_is_held t clear s in' = by (get (held H t) (rep_bytes H s)) refl
    where
      by : (o : Option Tree) → get (held H t) (rep_bytes H s) ≡ o → o ≡ Some s
      by None e =
          let some = found_for (rep_bytes H) (rep_bytes H s) (cells_of t) s in' refl in
          absurd (true≢false (sym some ∙ ap is_some (sym (get-held t (rep_bytes H s)) ∙ e)))
      by (Some r) e =
          let there = held_is_cell t (rep_bytes H s) r e in
          ap Some (same_subtrees H (states_of t) clear r s there.0 in' (same_rep_bytes r s there.1))

  has_hash-itself : (s : Tree) → has_hash H (rep_bytes H s) s ≡ true
  has_hash-itself s = (bytes_decides (rep_bytes H s) (rep_bytes H s)).1 refl

  -- ---- each held cell is referred to

  Contains-states : (t : ToldWorld) (ds : List Descr) (s : Tree) → Contains (map (λ d. t.state d.id) ds) s → (b : Block) × Contains (map (block_of t) ds) b × (b.state ≡ s)
  Contains-states t [] s h = absurd (Contains-nil s h)
  Contains-states t (d ∷ ds) s h = by (Contains-states t ds s) (Contains-cases (t.state d.id) (map (λ d. t.state d.id) ds) s h)
    where
      by : (Contains (map (λ d. t.state d.id) ds) s → (b : Block) × Contains (map (block_of t) ds) b × (b.state ≡ s)) → (t.state d.id ≡ s) ⊎ Contains (map (λ d. t.state d.id) ds) s
          → (b : Block) × Contains (block_of t d ∷ map (block_of t) ds) b × (b.state ≡ s)
      by rest (inl same) = (block_of t d, Contains-first (block_of t d) (map (block_of t) ds), same)
      by rest (inr later) = let found = rest later in (found.0, Contains-later (block_of t d) (map (block_of t) ds) found.0 found.1, found.2)

  le_left : (a b : ℕ) → 1 ≤ a → 1 ≤ a + b
  le_left a b h = omega arith

  le_right : (a b n : ℕ) → 1 ≤ n → n ≤ b → 1 ≤ a + b
  le_right a b n h k = omega arith

  pub counted : (t : ToldWorld) → AreClashFree H (states_of t) → (s : Tree) → Contains (cells_of t) s → 1 ≤ count H t (rep_bytes H s)
  counted t clear s in' = by (flat_map-cases (states_of t) s in')
    where
      root : (r : Tree) → Contains (states_of t) r → s ≡ r → 1 ≤ count H t (rep_bytes H s)
      root r in-r same =
          let block = Contains-states t t.world.blocks r in-r in
          let passes : has_hash H (rep_bytes H s) (block.0).state ≡ true = subst (λ x. has_hash H (rep_bytes H s) x ≡ true) (same ∙ sym block.2) (has_hash-itself s) in
          le_left (count_by (λ (b : Block). has_hash H (rep_bytes H s) b.state) (map (block_of t) t.world.blocks)) (sum_by (places_of H (rep_bytes H s)) (values (held H t)))
          (counted_one (λ (b : Block). has_hash H (rep_bytes H s) b.state) (map (block_of t) t.world.blocks) block.0 block.1 passes)

      child : (p : Tree) → Contains (cells_of t) p → Contains (children p) s → 1 ≤ count H t (rep_bytes H s)
      child p in-p below =
          let there = found_value (rep_bytes H p) (entries (held H t)) p (sym (finite.get-entries (held H t) (rep_bytes H p)) ∙ cell_is_held t clear p in-p) in
          let valued : Contains (values (held H t)) p = subst (Contains (values (held H t))) there.2 (Contains-mapped (λ (e : List ℕ × Tree). e.1) (entries (held H t)) there.0 there.1) in
          le_right (count_by (λ (b : Block). has_hash H (rep_bytes H s) b.state) (map (block_of t) t.world.blocks)) (sum_by (places_of H (rep_bytes H s)) (values (held H t))) (places_of H (rep_bytes H s) p)
          (counted_one (has_hash H (rep_bytes H s)) (children p) s below (has_hash-itself s))
          (summed_one (places_of H (rep_bytes H s)) (values (held H t)) p valued)

      by : (r : Tree) × Contains (states_of t) r × Contains (subtrees r) s → 1 ≤ count H t (rep_bytes H s)
      by found = ⊎_elim (root found.0 found.1) (λ parent. child parent.0 (flat_map-listed (states_of t) found.0 parent.0 found.1 parent.1) parent.2) (subtree-parent found.0 s found.2)

  -- ---- records

  module _ (long : (m : List ℕ) → length (let h = H m in h.0) ≡ 32) where
    all-infos : (ts : Trees) → AreWellFormed H ts → All IsInfo (infos_of H ts)
    all-infos no_trees good = All-nil IsInfo
    all-infos (tree_and t ts) good = All-cons IsInfo (info_of H t) (infos_of H ts) (IsInfo-info_of H long t good.0) (all-infos ts good.1)

    steady-kids : (s : Tree) → IsWellFormed H s → All IsSteady (face_of H s).kids
    steady-kids (cell exotic bits ts) good = IsSteady-infos_of H ts good.3

    info-kids : (s : Tree) → IsWellFormed H s → All IsInfo (face_of H s).kids
    info-kids (cell exotic bits ts) good = all-infos ts good.3

    abbrev pub record_of : ToldWorld → Tree → Record
    record_of t s = record { count = count H t (rep_bytes H s); face = face_of H s }

    module _ (t : ToldWorld) (sound : IsSound H t) where
      pub state_sound : (d : Descr) → Contains t.world.blocks d → IsSoundBlock H t.state d
      state_sound d h = All-contains (IsSoundBlock H t.state) t.world.blocks d sound.blocks h

      -- a state of the world, by its block
      block_of-state : (ds : List Descr) (r : Tree) → Contains (map (λ d. t.state d.id) ds) r → (d : Descr) × Contains ds d × (t.state d.id ≡ r)
      block_of-state ds r h = Contains-map (λ (d : Descr). t.state d.id) ds r h

      pub well-cell : (s : Tree) → Contains (cells_of t) s → IsWellFormed H s
      well-cell s h =
          let from = flat_map-cases (states_of t) s h in
          let block = block_of-state t.world.blocks from.0 from.1 in
          let sound_block = state_sound block.0 block.1 in
          well_formed-subtree H from.0 s (subst (IsWellFormed H) block.2 sound_block.good) from.2

      pub IsRecord-cell : (s : Tree) → Contains (cells_of t) s → IsRecord (record_of t s)
      IsRecord-cell s h =
          let good = well-cell s h in
          record {
            some = counted t sound.clear s h;
            few = sound.counted (rep_bytes H s);
            face = IsGoodFace-face_of H s good;
            steady = recursion_from_All IsSteady (face_of H s).kids (steady-kids s good);
            infos = recursion_from_All IsInfo (face_of H s).kids (info-kids s good);
          }

      -- the record of a cell in the image
      pub record-cell : (s : Tree) → Contains (cells_of t) s → let c = image H t in get c.cells (rep_bytes H s) ≡ Some (record_text (count H t (rep_bytes H s)) (face_of H s))
      record-cell s h = image-cell H (shown t) (rep_bytes H s) ∙ ap (option_map (λ x. record_text (count H t (rep_bytes H s)) (face_of H x))) (cell_is_held t sound.clear s h)

      -- ---- descriptions

      descr_of-is : (d : Descr) → Contains t.world.blocks d → descr_of H (block_of t d) ≡ d
      descr_of-is d h =
          let block = state_sound d h in
          let root = block.root in
          let depth = block.depth in
          λ i. record { id = d.id; parents = d.parents; root = root i; depth = depth i; tops = d.tops; leaving = d.leaving }

      descr_found : (ds : List Descr) (q value : List ℕ) → find (slice_cmp nat_cmp) q (map (descr_entry H) (map (block_of t) ds)) ≡ Some value
          → (d : Descr) × Contains ds d × (q ≡ key_of d.id) × (descr_text (descr_of H (block_of t d)) ≡ value)
      descr_found [] q value e = absurd (none-some value e)
      descr_found (d ∷ ds) q value e = by (descr_found ds q value) (eq_by_cmp (slice_cmp nat_cmp) q (key_of d.id)) refl e
        where
          by : (find (slice_cmp nat_cmp) q (map (descr_entry H) (map (block_of t) ds)) ≡ Some value → (d : Descr) × Contains ds d × (q ≡ key_of d.id) × (descr_text (descr_of H (block_of t d)) ≡ value))
              → (b : Bool) → eq_by_cmp (slice_cmp nat_cmp) q (key_of d.id) ≡ b → cond b (Some (descr_text (descr_of H (block_of t d)))) (find (slice_cmp nat_cmp) q (map (descr_entry H) (map (block_of t) ds))) ≡ Some value
              → (x : Descr) × Contains (d ∷ ds) x × (q ≡ key_of x.id) × (descr_text (descr_of H (block_of t x)) ≡ value)
          by rest true same s = (d, Contains-first d ds, same_bytes q (key_of d.id) same, same_Some (descr_text (descr_of H (block_of t d))) value s)
          by rest false same s = let found = rest s in (found.0, Contains-later d ds found.0 found.1, found.2, found.3)

      descr_for : (ds : List Descr) (d : Descr) → Contains ds d → IsSome (find (slice_cmp nat_cmp) (key_of d.id) (map (descr_entry H) (map (block_of t) ds)))
      descr_for [] d h = absurd (Contains-nil d h)
      descr_for (x ∷ ds) d h = by (descr_for ds d) (eq_by_cmp (slice_cmp nat_cmp) (key_of d.id) (key_of x.id)) refl
        where
          by : (Contains ds d → IsSome (find (slice_cmp nat_cmp) (key_of d.id) (map (descr_entry H) (map (block_of t) ds)))) → (b : Bool) → eq_by_cmp (slice_cmp nat_cmp) (key_of d.id) (key_of x.id) ≡ b
              → IsSome (cond b (Some (descr_text (descr_of H (block_of t x)))) (find (slice_cmp nat_cmp) (key_of d.id) (map (descr_entry H) (map (block_of t) ds))))
          by rest true e = refl
          by rest false e = ⊎_elim (λ same. absurd (true≢false (sym (bytes_tie (key_of d.id) (key_of x.id) (ap (λ (y : Descr). key_of y.id) (sym same))) ∙ e))) rest (Contains-cases x ds d h)

    module _ (t u : ToldWorld) (sound_t : IsSound H t) (sound_u : IsSound H u) (images : image H t ≡ image H u) where
      same_faces : (a b : Tree) → Contains (cells_of t) a → Contains (cells_of u) b → rep_of H a ≡ rep_of H b → face_of H a ≡ face_of H b
      same_faces a b in-a in-b rep =
          let bytes : rep_bytes H a ≡ rep_bytes H b = ap (λ (h : Hash256). h.0) rep in
          let here = record-cell t sound_t a in-a in
          let there = record-cell u sound_u b in-b in
          let texts = same_Some _ _ (sym here ∙ ap (λ (c : Contents). get c.cells (rep_bytes H a)) images ∙ ap (λ (q : List ℕ). let c = image H u in get c.cells q) bytes ∙ there) in
          ap (λ (r : Record). r.face) (text-injective (record_of t a) (record_of u b) _ (IsRecord-cell t sound_t a in-a) (IsRecord-cell u sound_u b in-b) (inl refl) (inl texts))

      both-clear : AreClashFree H (states_of t ++ states_of u)
      both-clear a b in-a in-b rep = by (side a in-a) (side b in-b)
        where
          side : (s : Tree) → Contains (flat_map subtrees (states_of t ++ states_of u)) s → Contains (cells_of t) s ⊎ Contains (cells_of u) s
          side s h =
              let from = flat_map-cases (states_of t ++ states_of u) s h in
              ⊎_elim (λ left. inl (flat_map-listed (states_of t) from.0 s left from.2)) (λ right. inr (flat_map-listed (states_of u) from.0 s right from.2)) (Contains-append_cases (states_of t) (states_of u) from.0 from.1)

          by : Contains (cells_of t) a ⊎ Contains (cells_of u) a → Contains (cells_of t) b ⊎ Contains (cells_of u) b → face_of H a ≡ face_of H b
          by (inl x) (inl y) = sound_t.clear a b x y rep
          by (inl x) (inr y) = same_faces a b x y rep
          by (inr x) (inl y) = sym (same_faces b a y x (sym rep))
          by (inr x) (inr y) = sound_u.clear a b x y rep

      same_trees : (d : Descr) → Contains t.world.blocks d → Contains u.world.blocks d → t.state d.id ≡ u.state d.id
      same_trees d in-t in-u =
          let xs = states_of t in
          let ys = states_of u in
          let a = t.state d.id in
          let b = u.state d.id in
          let there_a = Contains-append_left xs ys a (Contains-mapped (λ (e : Descr). t.state e.id) t.world.blocks d in-t) in
          let there_b = Contains-append_right xs ys b (Contains-mapped (λ (e : Descr). u.state e.id) u.world.blocks d in-u) in
          let block_t = state_sound t sound_t d in-t in
          let block_u = state_sound u sound_u d in-u in
          same_subtrees H (xs ++ ys) both-clear a b (flat_map-listed (xs ++ ys) a a there_a (subtree-itself a)) (flat_map-listed (xs ++ ys) b b there_b (subtree-itself b)) (block_t.root ∙ sym block_u.root)

      -- a block of the one is a block of the other
      block_into : (d : Descr) → Contains t.world.blocks d → Contains u.world.blocks d
      block_into d in-t = by (find (slice_cmp nat_cmp) (key_of d.id) (map (descr_entry H) (map (block_of t) t.world.blocks))) refl
        where
          entries_of : ToldWorld → List (List ℕ × List ℕ)
          entries_of v = map (descr_entry H) (map (block_of v) v.world.blocks)

          get-descs : (v : ToldWorld) (q : List ℕ) → let c = image H v in get c.descs q ≡ find (slice_cmp nat_cmp) q (map (descr_entry H) (map (block_of v) v.world.blocks))
          get-descs v q = get-from_entries nat_list_cmp_total (map (descr_entry H) (map (block_of v) v.world.blocks)) q

          crossed : (q : List ℕ) → find (slice_cmp nat_cmp) q (map (descr_entry H) (map (block_of t) t.world.blocks)) ≡ find (slice_cmp nat_cmp) q (map (descr_entry H) (map (block_of u) u.world.blocks))
          crossed q = sym (get-descs t q) ∙ ap (λ (c : Contents). get c.descs q) images ∙ get-descs u q

          by : (o : Option (List ℕ)) → find (slice_cmp nat_cmp) (key_of d.id) (map (descr_entry H) (map (block_of t) t.world.blocks)) ≡ o → Contains u.world.blocks d
          by None e = absurd (true≢false (sym (descr_for t sound_t t.world.blocks d in-t) ∙ ap is_some e))
          by (Some value) e =
              let here = descr_found t sound_t t.world.blocks (key_of d.id) value e in
              let there = descr_found u sound_u u.world.blocks (key_of d.id) value (sym (crossed (key_of d.id)) ∙ e) in
              let x = here.0 in
              let y = there.0 in
              let of_d = state_sound t sound_t d in-t in
              let of_x = state_sound t sound_t x here.1 in
              let of_y = state_sound u sound_u y there.1 in
              let is_d = of_d.is in
              let is_x = of_x.is in
              let is_y = of_y.is in
              let same_d : d ≡ x = one_id t.world.blocks (order_from_AllPairs IsBeforeBlock t.world.blocks (let tidy = sound_t.tidy in tidy.ordered)) d x in-t here.1 (key_of_injective d.id x.id is_d.id is_x.id here.2) in
              let texts : descr_text x ≡ descr_text y = ap descr_text (sym (descr_of-is t sound_t x here.1)) ∙ here.3 ∙ sym there.3 ∙ ap descr_text (descr_of-is u sound_u y there.1) in
              let same : x ≡ y = descr_text_injective x y of_x.is of_x.fit of_y.is of_y.fit (sym here.2 ∙ there.2) texts in
              subst (Contains u.world.blocks) (sym (same_d ∙ same)) there.1

    pub equal_images : (t u : ToldWorld) → IsSound H t → IsSound H u → image H t ≡ image H u → HasBlocksOf t u
    equal_images t u sound_t sound_u images =
        let tidy_t = sound_t.tidy in
        let tidy_u = sound_u.tidy in
        let into = block_into t u sound_t sound_u images in
        let back = block_into u t sound_u sound_t (sym images) in
        record {
          blocks = same-rising (on (λ (d : Descr). d.id) id_cmp) (on_total (λ (d : Descr). d.id) id_cmp-total) t.world.blocks u.world.blocks
              (rises-from_AllPairs (on (λ (d : Descr). d.id) id_cmp) t.world.blocks tidy_t.ordered) (rises-from_AllPairs (on (λ (d : Descr). d.id) id_cmp) u.world.blocks tidy_u.ordered) into back;
          trees = λ d in'. same_trees t u sound_t sound_u images d in' (into d in');
        }

    pub one_world : (t u : ToldWorld) (contents : Contents) → IsSound H t → IsSound H u → IsContentsOf H (shown t) contents → IsContentsOf H (shown u) contents → HasBlocksOf t u
    one_world t u contents sound_t sound_u of_t of_u = equal_images t u sound_t sound_u (contents-image H (shown t) contents of_t (shown u) of_u)
