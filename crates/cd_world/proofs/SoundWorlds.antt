-- A journal that follows leads from a sound world to a sound world.
use Rattle.std.proofs.Common.{◌≡◌, ℕ, ◌≤◌, Bool, true, false, cond, not, List, [], ◌∷◌, map, length, Option, Some, None, Contains, refl, sym, ap, ◌∙◌, subst, inl, inr, ⊎_elim, ◌⊎◌, arith, flat_map}
use Rattle.std.specs.Prelude as Prelude
use Rattle.std.specs.Prelude.{is_some, IsSome, nat_lt, nat_eq, ◌&&◌, if◌then◌else◌}
use Rattle.std.specs.List.{count_by, filter, AllByRecursion}
use Rattle.std.specs.Option.{option_map, option_or, option_to_list, unwrap_or}
use Rattle.std.specs.FinMap.{get, entries}
use Rattle.std.proofs.lemmas.Bool.{true≢false, ltb-false}
use Rattle.std.proofs.lemmas.Option.{none-some, same_Some}
use Rattle.std.proofs.lemmas.List.{length-map}
use Rattle.std.proofs.lemmas.List.Elements.{All-contains, All-nil, recursion_from_All}
use Rattle.cd_base.specs.declared.hash.Hash256.{Hash256}
use Rattle.cd_block.specs.declared.block.BlockId.{BlockId}
use Rattle.cd_block.specs.declared.description.Descr.{Descr}
use Rattle.cd_block.specs.Block.{IsBlockId}
use Rattle.cd_block.specs.Lineage.{lineage_fault}
use Rattle.cd_cell.specs.declared.info.ChildInfo.{ChildInfo}
use Rattle.cd_cell.specs.declared.new_cell.NewCell.{NewCell}
use Rattle.cd_cell.specs.FaceView.{FaceView}
use Rattle.cd_cell.specs.Infos.{rep_of_info, height_of_info}
use Rattle.cd_cell.specs.Equality.{same_hash, same_hash-Decides}
use Rattle.cd_cell.specs.Tree.{Tree, subtrees, face_of, info_of, rep_of, mask_of, height_of, IsWellFormed}
use Rattle.cd_cell.specs.Export.{AreClashFree}
use Rattle.cd_cell.specs.Listings.{old_cells, Fits}
use Rattle.cd_cell.specs.PreparedView.{PreparedView}
use Rattle.cd_cell.proofs.Subtrees.{Contains-first, Contains-later, Contains-cases, Contains-nil, Contains-map, Contains-mapped, flat_map-cases, flat_map-listed, well_formed-subtree, same_subtrees, subtree-itself}
use Rattle.cd_record.specs.declared.limits.TheConstants.{GREATEST_COUNT}
use Rattle.cd_event.specs.declared.event.Event.{Event}
use Rattle.cd_event.specs.declared.event.Event.TheVariants.{Zero, Pin, Look, Merge, Unpin, Expire}
use Rattle.cd_event.specs.declared.entry.Entry.{Entry}
use Rattle.cd_event.specs.declared.refusal.Refusal.{Refusal}
use Rattle.cd_event.specs.declared.refusal.Refusal.TheVariants as refusal
use Rattle.cd_world.specs.declared.world.World.{World}
use Rattle.cd_world.specs.declared.world.PinRow.{PinRow}
use Rattle.cd_world.specs.World.{has_hash}
use Rattle.cd_world.specs.Standing.{same_id, block_at, kept_at, pin_at, is_expired, IsTidy}
use Rattle.cd_world.specs.Changes.{with_block, stored, without_pin, without_pins, goes_with, goes_at_once, marked, without_expired}
use Rattle.cd_world.specs.Machine.{rows_at, two_rows, blocks_of, refused_if, unrelated, other_root, unmergeable, refusal_of, answered, reply_of, unless_expired, moved, is_refused}
use Rattle.cd_world.specs.Following.{Follows}
use Rattle.cd_world.specs.Told.{ToldWorld, states_of, with_state, held, count, IsSoundBlock, IsSound, made, with_stored, first_clash, first_overflow, storing_refusal, cell_refusal, stated, told_after, FollowsTold}
use Rattle.cd_world.specs.Preparing.{IsCellOf, KnownOverStates, StaysClear, StandsForPrepared}
use Rattle.cd_world.specs.Soundness.{IsStorable, IsAsked, StaysSound}
use Rattle.cd_world.proofs.Searches.{find-contains, find-some}
use Rattle.cd_world.proofs.Orders.{Contains-filter, count_by-filter, All-from_Contains, Contains-placed}
use Rattle.cd_world.proofs.PinsStay.{same_id-Decides, same_id-self, false_from, none_of, or_first, or_second, not_refused}
use Rattle.cd_world.proofs.TidyWorlds.{IsThere, found-there, there-pinned, id-marked, tidy_after, there-found}
use Rattle.cd_world.proofs.Replays.{follows-told}
use Rattle.cd_world.proofs.EqualImages.{cells_of}
use Rattle.cd_world.proofs.CountLaws.{sum_by-map, sum_by-same, entry-got, count-not_held, count-fewer}
use Rattle.cd_world.proofs.BesideHeld.{known-clear, beside-clear}
use Rattle.cd_world.proofs.MadeTrees.{made_cells, are-made, info-made, good-made, cell-made}

module _ (H : List ℕ → Hash256) where
  -- what is sound of the blocks and their trees
  pub record AreSound (t : ToldWorld) : Type 0 where
    pub blocks : (d : Descr) → Contains t.world.blocks d → IsSoundBlock H t.state d
    pub clear : AreClashFree H (states_of t)
    pub counted : (hash : List ℕ) → count H t hash ≤ GREATEST_COUNT

  sound-parts : (t : ToldWorld) → IsSound H t → AreSound t
  sound-parts t sound = record { blocks = λ d h. All-contains (IsSoundBlock H t.state) t.world.blocks d sound.blocks h; clear = sound.clear; counted = sound.counted }

  sound-whole : (t : ToldWorld) → IsTidy t.world → AreSound t → IsSound H t
  sound-whole t tidy are = record { tidy = tidy; blocks = All-from_Contains (IsSoundBlock H t.state) t.world.blocks are.blocks; clear = are.clear; counted = are.counted }

  -- a cell is below the state of a block
  cell-block : (t : ToldWorld) (s : Tree) → Contains (cells_of H t) s → (d : Descr) × Contains t.world.blocks d × Contains (subtrees (t.state d.id)) s
  cell-block t s h =
      let from = flat_map-cases (states_of t) s h in
      let block = Contains-map (λ (d : Descr). t.state d.id) t.world.blocks from.0 from.1 in
      (block.0, block.1, subst (λ (r : Tree). Contains (subtrees r) s) (sym block.2) from.2)

  block-cell : (t : ToldWorld) (d : Descr) (s : Tree) → Contains t.world.blocks d → Contains (subtrees (t.state d.id)) s → Contains (cells_of H t) s
  block-cell t d s h below = flat_map-listed (states_of t) (t.state d.id) s (Contains-mapped (λ (d : Descr). t.state d.id) t.world.blocks d h) below

  -- ---- blocks go, and are marked

  -- each block of a world is one of another's, but for whether it is leaving
  pub record HasSomeOf (t u : ToldWorld) : Type 0 where
    pub state : t.state ≡ u.state
    pub from : (d : Descr) → Contains t.world.blocks d → (x : Descr) × Contains u.world.blocks x × (d ≡ record x { leaving = d.leaving })
    pub fewer : (q : List ℕ) → count_by (λ (d : Descr). has_hash H q (t.state d.id)) t.world.blocks ≤ count_by (λ (d : Descr). has_hash H q (u.state d.id)) u.world.blocks

  sound-marked : (state : BlockId → Tree) (x : Descr) (leaving : Bool) → IsSoundBlock H state x → IsSoundBlock H state (record x { leaving = leaving })
  sound-marked state x leaving sound = record {
    good = sound.good;
    plain = sound.plain;
    root = sound.root;
    depth = sound.depth;
    lineage = sound.lineage;
    zero = sound.zero;
    fit = let fit = sound.fit in record { parents = fit.parents; depth = fit.depth; tops = fit.tops; tops_on_master = fit.tops_on_master };
    is = let is = sound.is in record { id = is.id; parents = is.parents; root = is.root; tops = is.tops };
  }

  pub sound-some : (t u : ToldWorld) → HasSomeOf t u → AreSound u → AreSound t
  sound-some t u some are = record {
    blocks = λ d h.
        let x = some.from d h in
        subst (λ (state : BlockId → Tree). IsSoundBlock H state d) (sym some.state) (subst (IsSoundBlock H u.state) (sym x.2) (sound-marked u.state x.0 d.leaving (are.blocks x.0 x.1)));
    clear = λ a b in-a in-b rep. are.clear a b (within a in-a) (within b in-b) rep;
    counted = λ q. let less = count-fewer H t u q are.clear within (some.fewer q) in omega (arith, less, are.counted q);
  }
    where
      within : (s : Tree) → Contains (cells_of H t) s → Contains (cells_of H u) s
      within s h =
          let at = cell-block t s h in
          let x = some.from at.0 at.1 in
          let same : t.state (at.0).id ≡ u.state (x.0).id = ap (λ (state : BlockId → Tree). state (at.0).id) some.state ∙ ap (λ (d : Descr). u.state d.id) x.2 in
          block-cell u x.0 s x.1 (subst (λ (r : Tree). Contains (subtrees r) s) same at.2)

  some-filtered : (t : ToldWorld) (w : World) (p : Descr → Bool) → w.blocks ≡ filter p t.world.blocks → HasSomeOf (record { world = w; state = t.state }) t
  some-filtered t w p is = record {
    state = refl;
    from = λ d h. (d, (Contains-filter p t.world.blocks d (subst (λ (ds : List Descr). Contains ds d) is h)).0, refl);
    fewer = λ q. subst (λ (ds : List Descr). count_by (λ (d : Descr). has_hash H q (t.state d.id)) ds ≤ count_by (λ (d : Descr). has_hash H q (t.state d.id)) t.world.blocks) (sym is)
        (count_by-filter p (λ (d : Descr). has_hash H q (t.state d.id)) t.world.blocks);
  }

  still-marked : (m d : Descr) → marked m d ≡ record d { leaving = (marked m d).leaving }
  still-marked m d = by (is_expired m d)
    where
      by : (b : Bool) → let x : Descr = cond b (record d { leaving = true }) d in x ≡ record d { leaving = x.leaving }
      by true = refl
      by false = refl

  some-marked : (t : ToldWorld) (m : Descr) → HasSomeOf (record { world = record t.world { blocks = map (marked m) t.world.blocks }; state = t.state }) t
  some-marked t m = record {
    state = refl;
    from = λ d h.
        let x = Contains-map (marked m) t.world.blocks d h in
        (x.0, x.1, sym x.2 ∙ still-marked m x.0 ∙ ap (λ (y : Descr). record (x.0) { leaving = y.leaving }) x.2);
    fewer = λ q.
        let same : count_by (λ (d : Descr). has_hash H q (t.state d.id)) (map (marked m) t.world.blocks) ≡ count_by (λ (d : Descr). has_hash H q (t.state d.id)) t.world.blocks =
        sum_by-map (λ (d : Descr). cond (has_hash H q (t.state d.id)) 1 0) (marked m) t.world.blocks
        ∙ sum_by-same (λ (d : Descr). cond (has_hash H q (t.state (marked m d).id)) 1 0) (λ (d : Descr). cond (has_hash H q (t.state d.id)) 1 0) (λ d. ap (λ (id : BlockId). cond (has_hash H q (t.state id)) 1 0) (id-marked m d)) t.world.blocks in
        omega (arith, same);
  }

  sound-without_pins : (t : ToldWorld) (rows : List PinRow) → AreSound t → AreSound (record { world = without_pins t.world rows; state = t.state })
  sound-without_pins t [] are = are
  sound-without_pins t (row ∷ rows) are =
      let next : ToldWorld = record { world = without_pin t.world row; state = t.state } in
      sound-without_pins next rows (sound-some next t (some-filtered t (without_pin t.world row) (λ d. not (goes_with t.world row d)) refl) are)

  sound-without_expired : (t : ToldWorld) (m : Descr) → AreSound t → AreSound (record { world = without_expired t.world m; state = t.state })
  sound-without_expired t m are =
      let stays : World = record t.world { blocks = filter (λ d. not (goes_at_once t.world m d)) t.world.blocks } in
      let left : ToldWorld = record { world = stays; state = t.state } in
      sound-some (record { world = record stays { blocks = map (marked m) stays.blocks }; state = t.state }) left (some-marked left m)
      (sound-some left t (some-filtered t stays (λ d. not (goes_at_once t.world m d)) refl) are)

  -- ---- a state is stored

  -- a cell of the state of a block that is there
  state-cell : (t : ToldWorld) (ids : List BlockId) → ((q : BlockId) → Contains ids q → IsThere t.world q) → (s : Tree) → Contains (old_cells (map t.state ids)) s → Contains (cells_of H t) s
  state-cell t ids there s h =
      let from = flat_map-cases (map t.state ids) s h in
      let q = Contains-map t.state ids from.0 from.1 in
      let block = there q.0 q.1 in
      let state : t.state (block.0).id ≡ from.0 = ap t.state block.2 ∙ q.2 in
      block-cell t block.0 s block.1 (subst (λ (r : Tree). Contains (subtrees r) s) (sym state) from.2)

  module _ (t : ToldWorld) (are : AreSound t) (id : BlockId) (parents tops : List BlockId) (p : PreparedView) (storable : IsStorable H id tops p)
      (fresh : block_at t.world id ≡ None) (there : (q : BlockId) → Contains parents q → IsThere t.world q) (fits : Fits H p.root p.cells (map t.state parents)) where
    abbrev olds : List Tree
    olds = map t.state parents

    abbrev new : Tree
    new = made H p olds

    abbrev v : ToldWorld
    v = with_stored H t id parents tops p

    abbrev new_block : Descr
    new_block = stored id parents tops p

    old-cell : (s : Tree) → Contains (old_cells olds) s → Contains (cells_of H t) s
    old-cell = state-cell t parents there

    good-cell : (s : Tree) → Contains (cells_of H t) s → IsWellFormed H s
    good-cell s h = let at = cell-block t s h in let block = are.blocks at.0 at.1 in well_formed-subtree H (t.state (at.0).id) s block.good at.2

    good-old : (s : Tree) → Contains (old_cells olds) s → IsWellFormed H s
    good-old s h = good-cell s (old-cell s h)

    other-id : (d : Descr) → Contains t.world.blocks d → same_id d.id id ≡ false
    other-id d h = false_from (same_id d.id id) (λ same.
        true≢false (sym (found-there t.world id (d, h, (same_id-Decides d.id id).0 same)) ∙ ap is_some fresh))

    state-old : (d : Descr) → Contains t.world.blocks d → v.state d.id ≡ t.state d.id
    state-old d h = ap (λ b. cond b new (t.state d.id)) (other-id d h)

    state-new : v.state id ≡ new
    state-new = ap (λ b. cond b new (t.state id)) (same_id-self id)

    -- a cell of the new world is one of the old world, or below the new state
    v-cell : (s : Tree) → Contains (cells_of H v) s → Contains (cells_of H t) s ⊎ Contains (subtrees new) s
    v-cell s h =
        let at = cell-block v s h in
        ⊎_elim
        (λ (same : new_block ≡ at.0). inr (subst (λ (r : Tree). Contains (subtrees r) s) (ap (λ (d : Descr). v.state d.id) (sym same) ∙ state-new) at.2))
        (λ old_one. inl (block-cell t at.0 s old_one (subst (λ (r : Tree). Contains (subtrees r) s) (state-old at.0 old_one) at.2)))
        (Contains-placed new_block t.world.blocks at.0 at.1)

    abbrev listed : List Tree
    listed = made_cells H olds good-old p.root p.cells storable.valid fits

    new-cell : (s : Tree) → Contains (subtrees new) s → Contains listed s ⊎ Contains (cells_of H t) s
    new-cell s h = ⊎_elim inl (λ old_one. inr (old-cell s old_one)) (cell-made H olds good-old p.root p.cells storable.valid fits s h)

    -- ---- free of clashes

    -- a listed cell has the face of its line
    pub cell-known : (s : Tree) → Contains (subtrees new) s → IsCellOf H t p s
    cell-known s h = ⊎_elim
        (λ one.
        let made = are-made H olds good-old p.root p.cells storable.valid fits in
        inr (Contains-map (λ (c : NewCell). c.face) p.cells (face_of H s) (subst (λ (fs : List FaceView). Contains fs (face_of H s)) made.faces (Contains-mapped (face_of H) listed s one))))
        inl
        (new-cell s h)

    pub clear-stored : first_clash H t p.cells ≡ None → AreClashFree H (states_of v)
    clear-stored none a b in-a in-b rep = known-clear H t are.clear p storable.valid none a b (side a (v-cell a in-a)) (side b (v-cell b in-b)) rep
      where
        side : (s : Tree) → Contains (cells_of H t) s ⊎ Contains (subtrees new) s → IsCellOf H t p s
        side s (inl old_one) = inl old_one
        side s (inr below) = cell-known s below

    -- ---- counts

    pub counted-stored : (limit : ℕ) → limit ≤ GREATEST_COUNT → first_overflow H limit t v ≡ None → (q : List ℕ) → count H v q ≤ GREATEST_COUNT
    counted-stored limit low none q = by (get (held H v) q) refl
      where
        over : List ℕ × Tree → Bool
        over e = nat_lt (count H t e.0) (count H v e.0) && nat_lt limit (count H v e.0)

        tested : (a b : Bool) → nat_lt (count H t q) (count H v q) ≡ a → nat_lt limit (count H v q) ≡ b → (a && b) ≡ false → count H v q ≤ GREATEST_COUNT
        tested true true x y e = absurd cc
        tested true false x y e = let most = ltb-false limit (count H v q) y in omega (arith, most, low)
        tested false b x y e = let most = ltb-false (count H t q) (count H v q) x in omega (arith, most, are.counted q)

        missed : (o : Option (List ℕ × Tree)) → Prelude.find over (entries (held H v)) ≡ o → option_map (λ (e : List ℕ × Tree). refusal.CountFull (record { 0 = e.0 }) (count H v e.0)) o ≡ None → (e : List ℕ × Tree) → Contains (entries (held H v)) e → over e ≡ false
        missed None at is e h = false_from (over e) (λ passes. true≢false (sym (find-some over (entries (held H v)) e h passes) ∙ ap is_some at))
        missed (Some x) at is e h = absurd (none-some _ (sym is))

        by : (o : Option Tree) → get (held H v) q ≡ o → count H v q ≤ GREATEST_COUNT
        by None at = let nothing = count-not_held H v q at in omega (arith, nothing)
        by (Some s) at =
            let e = entry-got (held H v) q s at in
            let fails : over e.0 ≡ false = missed (Prelude.find over (entries (held H v))) refl none e.0 e.1 in
            tested (nat_lt (count H t q) (count H v q)) (nat_lt limit (count H v q)) refl refl (subst (λ (k : List ℕ). (nat_lt (count H t k) (count H v k) && nat_lt limit (count H v k)) ≡ false) (sym e.2) fails)

    -- ---- the tree that was prepared

    pub made-prepared : first_clash H t p.cells ≡ None → (tree : Tree) → info_of H tree ≡ p.root → ((s : Tree) → Contains (subtrees tree) s → IsCellOf H t p s) → new ≡ tree
    made-prepared none tree info known =
        let both = new ∷ tree ∷ [] in
        let there_new = Contains-first new (tree ∷ []) in
        let there_tree = Contains-later new (tree ∷ []) tree (Contains-first tree []) in
        same_subtrees H both clear new tree (flat_map-listed both new new there_new (subtree-itself new)) (flat_map-listed both tree tree there_tree (subtree-itself tree))
        (ap rep_of_info (info-made H olds good-old p.root p.cells storable.valid fits ∙ sym info))
      where
        side : (s : Tree) → Contains (flat_map subtrees (new ∷ tree ∷ [])) s → IsCellOf H t p s
        side s h =
            let from = flat_map-cases (new ∷ tree ∷ []) s h in
            ⊎_elim
            (λ same. cell-known s (subst (λ (r : Tree). Contains (subtrees r) s) (sym same) from.2))
            (λ later. ⊎_elim (λ same. known s (subst (λ (r : Tree). Contains (subtrees r) s) (sym same) from.2)) (λ more. absurd (Contains-nil from.0 more)) (Contains-cases tree [] from.0 later))
            (Contains-cases new (tree ∷ []) from.0 from.1)

        clear : AreClashFree H (new ∷ tree ∷ [])
        clear a b in-a in-b rep = known-clear H t are.clear p storable.valid none a b (side a in-a) (side b in-b) rep

    -- ---- blocks

    module _ (related : lineage_fault id parents ≡ None) (root : parents ≡ [] → id.root ≡ rep_of_info p.root) (few : length parents ≤ 2) (named : AllByRecursion IsBlockId parents) where
      new-sound : IsSoundBlock H v.state new_block
      new-sound =
          let shows = info-made H olds good-old p.root p.cells storable.valid fits in
          let valid = storable.valid in
          let info : info_of H (v.state id) ≡ p.root = ap (info_of H) state-new ∙ shows in
          record {
            good = subst (IsWellFormed H) (sym state-new) (good-made H olds good-old p.root p.cells storable.valid fits);
            plain = ap (λ (k : ChildInfo). k.mask) info ∙ valid.plain;
            root = ap rep_of_info info;
            depth = ap height_of_info info;
            lineage = related;
            zero = root;
            fit = record { parents = few; depth = valid.shallow; tops = storable.few; tops_on_master = storable.on_master };
            is = record { id = storable.named; parents = named; root = storable.root; tops = storable.tops_named };
          }

      pub blocks-stored : (d : Descr) → Contains v.world.blocks d → IsSoundBlock H v.state d
      blocks-stored d h = ⊎_elim
          (λ same. subst (IsSoundBlock H v.state) same new-sound)
          (λ old_one.
          let sound = are.blocks d old_one in
          let state = sym (state-old d old_one) in
          record {
            good = subst (IsWellFormed H) state sound.good;
            plain = sym (ap (mask_of H) state) ∙ sound.plain;
            root = sym (ap (rep_of H) state) ∙ sound.root;
            depth = sym (ap (height_of H) state) ∙ sound.depth;
            lineage = sound.lineage;
            zero = sound.zero;
            fit = sound.fit;
            is = sound.is;
          })
          (Contains-placed new_block t.world.blocks d h)

      pub sound-stored : (limit : ℕ) → limit ≤ GREATEST_COUNT → storing_refusal H limit t v p.cells ≡ None → AreSound v
      sound-stored limit low none = record {
        blocks = blocks-stored;
        clear = clear-stored (or_first _ _ none);
        counted = counted-stored limit low (or_second _ _ none);
      }

  -- ---- the machine keeps a world sound

  none_few : length {A = BlockId} [] ≤ 2
  none_few = omega arith

  itself : (n : ℕ) → n ≤ n
  itself n = omega arith

  option_map-none : {A B : Type 0} (f : A → B) (o : Option A) → option_map f o ≡ None → o ≡ None
  option_map-none f None e = refl
  option_map-none f (Some x) e = absurd cc

  related-by : (id : BlockId) (parents : List BlockId) → unrelated id parents ≡ None → lineage_fault id parents ≡ None
  related-by id parents e = option_map-none (λ fault. refusal.Lineage fault) (lineage_fault id parents) e

  root-by : (id : BlockId) (p : PreparedView) → other_root id p ≡ None → id.root ≡ rep_of_info p.root
  root-by id p e = by (same_hash id.root (rep_of_info p.root)) refl e
    where
      by : (b : Bool) → same_hash id.root (rep_of_info p.root) ≡ b → refused_if (not b) (refusal.ZeroHash id.root (rep_of_info p.root)) ≡ None → id.root ≡ rep_of_info p.root
      by true same f = (same_hash-Decides id.root (rep_of_info p.root)).0 same
      by false same f = absurd cc

  over-by : (b : Bool) → refused_if (not b) refusal.WrongPin ≡ None → b ≡ true
  over-by true e = refl
  over-by false e = absurd cc

  -- the pins of a merge
  pub record AreRows (w : World) (rows : List PinRow) : Type 0 where
    pub there : (r : PinRow) → Contains rows r → Contains w.pins r
    pub few : length rows ≤ 2
    pub some : rows ≡ [] → ⊥

  rows-are : (w : World) (worker pin : ℕ) (other : Option ℕ) (rows : List PinRow) → rows_at w worker pin other ≡ Some rows → AreRows w rows
  rows-are w worker pin None rows e = by (pin_at w worker pin) refl e
    where
      by : (o : Option PinRow) → pin_at w worker pin ≡ o → option_map (λ row. row ∷ []) o ≡ Some rows → AreRows w rows
      by None at is = absurd (none-some rows is)
      by (Some r) at is = subst (AreRows w) (same_Some (r ∷ []) rows is) (record {
        there = λ x h. ⊎_elim (λ same. subst (Contains w.pins) same (find-contains _ w.pins r at)) (λ later. absurd (Contains-nil x later)) (Contains-cases r [] x h);
        few = omega arith;
        some = λ e. cc e;
      })
  rows-are w worker pin (Some second) rows e = by (nat_eq pin second) (pin_at w worker pin) (pin_at w worker second) refl refl e
    where
      by : (b : Bool) (o q : Option PinRow) → pin_at w worker pin ≡ o → pin_at w worker second ≡ q → (if b then None else two_rows o q) ≡ Some rows → AreRows w rows
      by true o q at at' is = absurd (none-some rows is)
      by false None q at at' is = absurd (none-some rows is)
      by false (Some r) None at at' is = absurd (none-some rows is)
      by false (Some r) (Some s) at at' is = subst (AreRows w) (same_Some (r ∷ s ∷ []) rows is) (record {
        there = λ x h. ⊎_elim
            (λ same. subst (Contains w.pins) same (find-contains _ w.pins r at))
            (λ later. ⊎_elim (λ same. subst (Contains w.pins) same (find-contains _ w.pins s at')) (λ none. absurd (Contains-nil x none)) (Contains-cases s [] x later))
            (Contains-cases r (s ∷ []) x h);
        few = omega arith;
        some = λ e. cc e;
      })

  module _ {X : Type 0} where
    -- an event that nothing refuses
    sound_moved : (limit : ℕ) → limit ≤ GREATEST_COUNT → (t : ToldWorld) (worker : ℕ) (event : Event X) → IsSound H t → IsAsked H t worker event
        → refusal_of H t.world worker event ≡ None → cell_refusal H limit t worker event ≡ None → AreSound (record { world = moved t.world worker event; state = stated H t worker event })
    sound_moved limit low t worker (Zero id tops p) sound asked free cells =
        let rest = or_second _ _ free in
        sound-stored t (sound-parts t sound) id [] tops p asked.0 (none_of t.world id (or_first _ _ free)) (λ q h. absurd (Contains-nil q h)) asked.1
        (related-by id [] (or_first _ _ rest)) (λ e. root-by id p (or_second _ _ rest)) none_few (recursion_from_All IsBlockId [] (All-nil IsBlockId)) limit low cells
    sound_moved limit low t worker (Pin id) sound asked free cells = sound-some _ t (record { state = refl; from = λ d h. (d, h, refl); fewer = λ q. itself _ }) (sound-parts t sound)
    sound_moved limit low t worker (Look pin asked_for) sound asked free cells = sound-parts t sound
    sound_moved limit low t worker (Merge pin other id tops p) sound asked free cells = by (rows_at t.world worker pin other) refl free cells
      where
        block-there : (rows : List PinRow) → AreRows t.world rows → (q : BlockId) → Contains (blocks_of rows) q → IsThere t.world q
        block-there rows are q h =
            let r = Contains-map (λ (r : PinRow). r.block) rows q h in
            subst (IsThere t.world) r.2 (there-pinned t.world sound.tidy r.0 (are.there r.0 r.1))

        block-named : (q : BlockId) → IsThere t.world q → IsBlockId q
        block-named q there =
            let block = All-contains (IsSoundBlock H t.state) t.world.blocks there.0 sound.blocks there.1 in
            let is = block.is in
            subst IsBlockId there.2 is.id

        few-blocks : (rows : List PinRow) → length rows ≤ 2 → length (blocks_of rows) ≤ 2
        few-blocks rows few = omega (arith, length-map rows (λ (r : PinRow). r.block), few)

        no-blocks : (rows : List PinRow) → AreRows t.world rows → blocks_of rows ≡ [] → ⊥
        no-blocks [] are e = are.some refl
        no-blocks (r ∷ rows) are e = cc e

        by : (o : Option (List PinRow)) → rows_at t.world worker pin other ≡ o → unmergeable H t.world id p o ≡ None
            → (let rows = unwrap_or o [] in storing_refusal H limit t (with_stored H t id (blocks_of rows) tops p) p.cells ≡ None)
            → (let rows = unwrap_or o [] in AreSound (record { world = without_pins (with_block t.world (stored id (blocks_of rows) tops p)) rows; state = with_state id (made H p (map t.state (blocks_of rows))) t.state }))
        by None at f g = absurd cc
        by (Some rows) at f g =
            let are = rows-are t.world worker pin other rows at in
            let rest = or_second _ _ f in
            let parents = blocks_of rows in
            let there = block-there rows are in
            let named = recursion_from_All IsBlockId parents (All-from_Contains IsBlockId parents (λ q h. block-named q (there q h))) in
            sound-without_pins (with_stored H t id parents tops p) rows
            (sound-stored t (sound-parts t sound) id parents tops p asked.0 (none_of t.world id (or_first _ _ rest)) there (asked.1 rows at (over-by _ (or_first _ _ f)))
            (related-by id parents (or_second _ _ rest)) (λ e. absurd (no-blocks rows are e)) (few-blocks rows are.few) named limit low g)
    sound_moved limit low t worker (Unpin pin) sound asked free cells = sound-without_pins t (option_to_list (pin_at t.world worker pin)) (sound-parts t sound)
    sound_moved limit low t worker (Expire id) sound asked free cells = by (kept_at t.world id)
      where
        by : (o : Option Descr) → AreSound (record { world = unless_expired t.world o; state = t.state })
        by None = sound-parts t sound
        by (Some m) = sound-without_expired t m (sound-parts t sound)

    -- what isn't refused is refused by no cell
    cells_free : (limit : ℕ) (t : ToldWorld) (e : Entry X) → FollowsTold H limit t e → is_refused e.reply ≡ false → cell_refusal H limit t e.who.worker e.event ≡ None
    cells_free limit t e (inl same) unlike = by (option_or (refusal_of H t.world e.who.worker e.event) (cell_refusal H limit t e.who.worker e.event)) refl same
      where
        by : (o : Option Refusal) → option_or (refusal_of H t.world e.who.worker e.event) (cell_refusal H limit t e.who.worker e.event) ≡ o
            → e.reply ≡ answered o (reply_of t.world e.who.worker e.event) → cell_refusal H limit t e.who.worker e.event ≡ None
        by None at is = or_second _ _ at
        by (Some r) at is = absurd (true≢false (sym (ap is_refused is) ∙ unlike))
    cells_free limit t e (inr failed) unlike = absurd (true≢false (sym (ap is_refused failed.reply) ∙ unlike))

    sound_after : (limit : ℕ) → limit ≤ GREATEST_COUNT → (t : ToldWorld) (e : Entry X) → IsSound H t → FollowsTold H limit t e → IsAsked H t e.who.worker e.event → IsSound H (told_after H t e)
    sound_after limit low t e sound follows asked =
        sound-whole (told_after H t e) (tidy_after H t.world e sound.tidy plainly) (by (is_refused e.reply) refl)
      where
        plainly : Follows H t.world e
        plainly = follows-told H limit t e follows

        by : (b : Bool) → is_refused e.reply ≡ b → AreSound (record { world = cond b t.world (moved t.world e.who.worker e.event); state = cond b t.state (stated H t e.who.worker e.event) })
        by true is = sound-parts t sound
        by false is = sound_moved limit low t e.who.worker e.event sound asked (not_refused H t.world e plainly is) (cells_free limit t e follows is)

    pub stays_sound : StaysSound H X
    stays_sound limit t [] low sound follow asked = sound
    stays_sound limit t (e ∷ es) low sound follow asked =
        stays_sound limit (told_after H t e) es low (sound_after limit low t e sound follow.0 asked.0) follow.1 asked.1

  -- ---- prepared values

  pub known_over_states : KnownOverStates H
  known_over_states t parents p s there known =
      ⊎_elim (λ old. inl (state-cell t parents (λ q h. there-found t.world q (All-contains (λ q. IsSome (block_at t.world q)) parents q there h)) s old)) inr known

  pub all_together : StaysClear H
  all_together t p ns sound valid none known = beside-clear H t sound.clear p valid none ns known

  pub stands_for : StandsForPrepared H
  stands_for t id tops parents p tree sound storable fresh there fits none info known =
      made-prepared t (sound-parts t sound) id parents tops p storable fresh (λ q h. there-found t.world q (All-contains (λ q. IsSome (block_at t.world q)) parents q there h)) fits none tree info known
