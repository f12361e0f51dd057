-- A leaving block is dropped while there are no pins: what becomes of the world, and of what the keeper holds.
use Rattle.std.proofs.Common.{◌≡◌, ℕ, ◌+◌, ◌<◌, ◌≤◌, Bool, true, false, cond, not, zero, suc, List, [], ◌∷◌, length, get_or, map, take, Option, Some, None, Contains, refl, sym, ap, ◌∙◌, subst, ◌⊎◌, ⊎_elim, inl, inr, arith, add-one}
use Rattle.std.specs.Prelude.{◌&&◌, find, slice_get, remove, IfSome}
use Rattle.std.specs.List.{filter, count_by}
use Rattle.std.specs.Option.{option_map}
use Rattle.std.proofs.lemmas.Option.{none-some, same_Some, slice_get_read, slice_get_within}
use Rattle.std.proofs.lemmas.List.Elements.{All-contains}
use Rattle.cd_base.specs.declared.hash.Hash256.{Hash256}
use Rattle.cd_block.specs.declared.description.Descr.{Descr}
use Rattle.cd_block.specs.Description.{IsDescr, IsDescrFit}
use Rattle.cd_cell.specs.Tree.{mask_of, rep_of, height_of, IsWellFormed}
use Rattle.cd_cell.specs.Export.{AreClashFree}
use Rattle.cd_cell.proofs.Subtrees.{Contains-first, Contains-later}
use Rattle.cd_keeper.specs.Contents.{Contents, Change, changed}
use Rattle.cd_record.specs.declared.limits.TheConstants.{GREATEST_COUNT}
use Rattle.cd_event.specs.declared.entry.Entry.{Entry}
use Rattle.cd_world.specs.declared.world.World.{World}
use Rattle.cd_world.specs.declared.world.PinRow.{PinRow}
use Rattle.cd_world.specs.World.{Block, has_hash, count_of}
use Rattle.cd_world.specs.Standing.{IsTidy, is_pinned}
use Rattle.cd_world.specs.Changes.{goes_with, pins_without, without_pin}
use Rattle.cd_world.specs.Image.{IsContentsOf}
use Rattle.cd_world.specs.Told.{ToldWorld, block_of, pin_of, shown, told_replay, IsSound, IsSoundBlock}
use Rattle.cd_world.specs.Unfolded.{told_in}
use Rattle.cd_world.proofs.Orders.{Contains-filter, count_by-filter, All-from_Contains}
use Rattle.cd_world.proofs.PinsStay.{same_id-self}
use Rattle.cd_world.proofs.SoundWorlds.{AreSound, HasSomeOf, sound-some}
use Rattle.cd_world.proofs.TidyWorlds.{tidy-without_pin}
use Rattle.cd_world.proofs.UnfoldedTrees.{state-told}
use Rattle.cd_count.specs.SoundContents.{AreSoundContents}
use Rattle.cd_core.specs.declared.start.CoreStart.{CoreStart}
use Rattle.cd_core.specs.Cores.{IsCore, IsHeld, IsWritable, Holds, opened, world_after}
use Rattle.cd_core.specs.Settling.{is_leaving, without_first, without_leaving, told_without_leaving, IsDropped}
use Rattle.cd_core.specs.Steps.{Batches, told_without}
use Rattle.cd_core.proofs.Adopted.{begun}
use Rattle.cd_core.proofs.Apart.{goes-at}

-- ---- the first element that passes

module _ {A : Type 0} (p : A → Bool) where
  pub first-at : (xs : List A) (i : ℕ) (x : A) → find p (take i xs) ≡ None → slice_get xs i ≡ Some x → p x ≡ true
      → (find p xs ≡ Some x) × (remove xs i ≡ without_first p xs)
  first-at [] i x none at pass = absurd (none-some x at)
  first-at (y ∷ ys) zero x none at pass =
      let same : y ≡ x = same_Some y x at in
      let here : p y ≡ true = ap p same ∙ pass in (
        ap (λ b. cond b (Some y) (find p ys)) here ∙ ap {B = Option A} Some same,
        sym (ap (λ b. cond b ys (y ∷ without_first p ys)) here),
      )
  first-at (y ∷ ys) (suc i) x none at pass = by (p y) refl none (λ later. first-at ys i x later at pass)
    where
      by : (b : Bool) → p y ≡ b → cond b (Some y) (find p (take i ys)) ≡ None
          → (find p (take i ys) ≡ None → (find p ys ≡ Some x) × (remove ys i ≡ without_first p ys))
          → (find p (y ∷ ys) ≡ Some x) × (remove (y ∷ ys) (suc i) ≡ without_first p (y ∷ ys))
      by true e none more = absurd (none-some y (sym none))
      by false e none more =
          let rest = more none in (
            ap (λ b. cond b (Some y) (find p ys)) e ∙ rest.0,
            ap (λ zs. y ∷ zs) rest.1 ∙ sym (ap (λ b. cond b ys (y ∷ without_first p ys)) e),
          )

  none-more : (xs : List A) (i : ℕ) (x : A) → find p (take i xs) ≡ None → slice_get xs i ≡ Some x → p x ≡ false → find p (take (suc i) xs) ≡ None
  none-more [] i x none at fail = refl
  none-more (y ∷ ys) zero x none at fail = ap (λ b. cond {A = Option A} b (Some y) None) (ap p (same_Some y x at) ∙ fail)
  none-more (y ∷ ys) (suc i) x none at fail = by (p y) refl none (λ later. none-more ys i x later at fail)
    where
      by : (b : Bool) → p y ≡ b → cond b (Some y) (find p (take i ys)) ≡ None → (find p (take i ys) ≡ None → find p (take (suc i) ys) ≡ None)
          → find p (take (suc (suc i)) (y ∷ ys)) ≡ None
      by true e none more = absurd (none-some y (sym none))
      by false e none more = ap (λ b. cond b (Some y) (find p (take (suc i) ys))) e ∙ more none

  pub none-later : (xs : List A) (i : ℕ) (x : A) → find p (take i xs) ≡ None → slice_get xs i ≡ Some x → p x ≡ false → find p (take (i + 1) xs) ≡ None
  none-later xs i x none at fail = ap (λ n. find p (take n xs)) (add-one i) ∙ none-more xs i x none at fail

-- the block that is read at its place
pub block-is : (xs ys : List Descr) (place : ℕ) (b d : Descr) → ys ≡ xs → b ≡ get_or ys place b → slice_get xs place ≡ Some d → b ≡ d
block-is xs ys place b d same is at =
    let read : slice_get xs place ≡ Some b = slice_get_read xs (length xs) place b refl (slice_get_within xs place d at) (is ∙ ap (λ zs. get_or zs place b) same) in
    same_Some b d (sym read ∙ at)

-- ---- the world without the block

module _ (w : World) (ready : IsWritable w) (bare : w ≡ opened w.blocks) (place : ℕ) (d : Descr) (at : slice_get w.blocks place ≡ Some d) (leaving : d.leaving ≡ true) where
  alone : w.pins ≡ []
  alone = ap (λ (v : World). v.pins) bare

  -- a pin that isn't there
  abbrev pub ended : PinRow
  ended = record { pin = 0; worker = 0; block = d.id }

  -- the block goes with its end
  pub ended-goes : goes_with w ended d ≡ true
  ended-goes =
      ap (λ b. (b && d.leaving) && not (is_pinned (pins_without ended w.pins) d.id)) (same_id-self d.id)
      ∙ ap (λ b. (true && b) && not (is_pinned (pins_without ended w.pins) d.id)) leaving
      ∙ ap (λ ps. (true && true) && not (is_pinned (pins_without ended ps) d.id)) alone

  abbrev stays : Descr → Bool
  stays x = not (goes_with w ended x)

  module _ (first : remove w.blocks place ≡ without_first is_leaving w.blocks) where
    blocks-left : without_first is_leaving w.blocks ≡ filter stays w.blocks
    blocks-left = let both = goes-at w ended place d ready at ended-goes in sym first ∙ both.1

    world-left : without_pin w ended ≡ without_leaving w
    world-left =
        let pins : pins_without ended w.pins ≡ [] = ap (pins_without ended) alone in
        let next : w.next ≡ 0 = ap (λ (v : World). v.next) bare in
        λ i. record { blocks = sym blocks-left i; pins = pins i; next = next i }

    pub writable-left : IsWritable (without_leaving w)
    writable-left = subst IsWritable world-left (record {
      tidy = tidy-without_pin w ready.tidy ended;
      fit = All-from_Contains IsDescrFit (filter stays w.blocks) (λ x h. let from = Contains-filter stays w.blocks x h in All-contains IsDescrFit w.blocks x ready.fit from.0);
      are = All-from_Contains IsDescr (filter stays w.blocks) (λ x h. let from = Contains-filter stays w.blocks x h in All-contains IsDescr w.blocks x ready.are from.0);
    })

    module _ {K : Type 0} (held : K → Option Contents) (H : List ℕ → Hash256) (trail : K → Option (List Contents)) (batches : K → ℕ) (k k' : K) where
      pub batches-left : Batches held H trail batches w (told_without ended) k k' → Batches held H trail batches w told_without_leaving k k'
      batches-left made = record {
        change = made.change;
        applied = made.applied;
        leads = λ t contents same said so.
            let both = made.leads t contents same said so in
            let world : without_pin t.world ended ≡ without_leaving t.world = subst (λ v. without_pin v ended ≡ without_leaving v) (sym same) world-left in
            (subst (λ v. IsContentsOf H (shown (record { world = v; state = t.state })) (changed made.change contents)) world both.0, both.1);
      }

      sound-left : (t : ToldWorld) → t.world ≡ w → IsSound H t → IsSound H (told_without_leaving t)
      sound-left t same sound =
          let v = without_leaving t.world in
          let few : v.blocks ≡ filter stays t.world.blocks = subst (λ (u : World). without_first is_leaving u.blocks ≡ filter stays u.blocks) (sym same) blocks-left in
          let some : HasSomeOf H (told_without_leaving t) t = record {
            state = refl;
            from = λ x h. (x, (Contains-filter stays t.world.blocks x (subst (λ (xs : List Descr). Contains xs x) few h)).0, refl);
            fewer = λ q. subst (λ (xs : List Descr). count_by (λ (x : Descr). has_hash H q (t.state x.id)) xs ≤ count_by (λ (x : Descr). has_hash H q (t.state x.id)) t.world.blocks) (sym few)
                (count_by-filter stays (λ (x : Descr). has_hash H q (t.state x.id)) t.world.blocks);
          } in
          let parts : AreSound H t = record { blocks = λ x h. All-contains (IsSoundBlock H t.state) t.world.blocks x sound.blocks h; clear = sound.clear; counted = sound.counted } in
          let left = sound-some H (told_without_leaving t) t some parts in
          let tidy : IsTidy v = subst (λ u. IsTidy (without_leaving u)) (sym same) writable-left.tidy in
          record { tidy = tidy; blocks = All-from_Contains (IsSoundBlock H t.state) v.blocks left.blocks; clear = left.clear; counted = left.counted }

      -- what the keeper holds then
      pub dropped-left : Batches held H trail batches w told_without_leaving k k' → (t : ToldWorld) → t.world ≡ w → Holds held H t k → IsDropped held H trail batches t k k'
      dropped-left made t same h =
          let so = h.are in
          let applied = made.applied in
          let both = made.leads t h.contents same h.is_held so in
          record {
            holds = record {
              contents = changed made.change h.contents;
              is_held = applied.made ∙ ap (option_map (changed made.change)) h.is_held;
              are = record { sound = sound-left t same so.sound; are = both.0; bytes = both.1; wide = so.wide };
            };
            trailed = applied.trailed;
          }

-- ---- contents tell the trees of their world again

maps-agree : {A B : Type 0} (f g : A → B) (xs : List A) → ((x : A) → Contains xs x → f x ≡ g x) → map f xs ≡ map g xs
maps-agree f g [] agree = refl
maps-agree f g (x ∷ xs) agree =
    let rest = maps-agree f g xs (λ y h. agree y (Contains-later x xs y h)) in
    let here = agree x (Contains-first x xs) in
    λ i. here i ∷ rest i

module _ (H : List ℕ → Hash256) (t : ToldWorld) (contents : Contents) (so : AreSoundContents H t contents) where
  abbrev again : ToldWorld
  again = told_in contents t.world

  agree : (d : Descr) → Contains t.world.blocks d → again.state d.id ≡ t.state d.id
  agree d h = state-told H so.wide t contents so.sound so.bytes so.are d h

  shown-again : shown again ≡ shown t
  shown-again =
      let blocks : map (block_of again) t.world.blocks ≡ map (block_of t) t.world.blocks =
      maps-agree (block_of again) (block_of t) t.world.blocks (λ d h.
      ap {B = Block} (λ s. record { id = d.id; parents = d.parents; state = s; tops = d.tops; leaving = d.leaving }) (agree d h)) in
      λ i. record { blocks = blocks i; pins = map pin_of t.world.pins; next_pin = t.world.next }

  sound-again : IsSound H again
  sound-again =
      let sound = so.sound in
      record {
        tidy = sound.tidy;
        blocks = All-from_Contains (IsSoundBlock H again.state) t.world.blocks (λ d h.
            let was = All-contains (IsSoundBlock H t.state) t.world.blocks d sound.blocks h in
            let same = agree d h in
            record {
              good = subst (IsWellFormed H) (sym same) was.good;
              plain = ap (mask_of H) same ∙ was.plain;
              root = ap (rep_of H) same ∙ was.root;
              depth = ap (height_of H) same ∙ was.depth;
              lineage = was.lineage;
              zero = was.zero;
              fit = was.fit;
              is = was.is;
            });
        clear = subst (AreClashFree H) (sym (maps-agree (λ (d : Descr). again.state d.id) (λ (d : Descr). t.state d.id) t.world.blocks agree)) sound.clear;
        counted = λ hash. subst (λ v. count_of H v hash ≤ GREATEST_COUNT) (sym shown-again) (sound.counted hash);
      }

  pub told-again : AreSoundContents H again contents
  told-again = record {
    sound = sound-again;
    are = subst (λ v. IsContentsOf H v contents) (sym shown-again) so.are;
    bytes = so.bytes;
    wide = so.wide;
  }

-- ---- the core

module _ {K X : Type 0} (held : K → Option Contents) (H : List ℕ → Hash256) (trail : K → Option (List Contents)) (batches faults : K → ℕ)
    (start : CoreStart K) (journal : List (Entry X)) (k : K) (w : World) (none : journal ≡ [])
    (is : (w ≡ world_after start journal) × IsCore held H trail batches faults start journal k) where
  next-none : w.next ≤ 0
  next-none =
      let core = is.1 in
      subst (λ (v : World). v.next ≤ 0) (sym is.0) (let few = core.numbered in let nothing = ap length none in omega (arith, few, nothing))

  -- without an entry there are no pins
  pub bare-core : w ≡ opened w.blocks
  bare-core =
      let core = is.1 in
      let ready = core.writable in
      let tidy : IsTidy w = subst IsTidy (sym is.0) ready.tidy in
      let pins : w.pins ≡ [] = nothing w.pins (λ r h. let low = All-contains (λ (x : PinRow). x.pin < w.next) w.pins r tidy.below h in omega (arith, low, next-none)) in
      let next : w.next ≡ 0 = omega (arith, next-none) in
      λ i. record { blocks = w.blocks; pins = pins i; next = next i }
    where
      nothing : (ps : List PinRow) → ((r : PinRow) → Contains ps r → ⊥) → ps ≡ []
      nothing [] none = refl
      nothing (p ∷ ps) none = absurd (none p (Contains-first p ps))

  pub writable-core : IsWritable w
  writable-core = let core = is.1 in subst IsWritable (sym is.0) core.writable

  -- a keeper that tells what it holds told so at the start
  told-core : (contents : Contents) → held k ≡ Some contents → (t : ToldWorld) × (t.world ≡ w) × Holds held H t k
  told-core contents said = let core = is.1 in by (held start.keeper.value) refl core.told
    where
      by : (o : Option Contents) → held start.keeper.value ≡ o
          → IfSome (option_map (λ contents. told_in contents start.world.value) o) (λ t. IsHeld held H trail start.limit t journal start.keeper.value k)
          → (t : ToldWorld) × (t.world ≡ w) × Holds held H t k
      by None at told = let core = is.1 in absurd (none-some contents (sym (core.silent at) ∙ said))
      by (Some first) at told =
          let t = told_in first start.world.value in
          let world : start.world.value ≡ w = sym (ap (world_after start) none) ∙ sym is.0 in
          (t, world, subst (λ es. Holds held H (told_replay H t es) k) none told.holds)

  pub settled-core : (start' : CoreStart K) (w' : World) (k' : K) → start'.world.value ≡ w' → start'.keeper.value ≡ k' → start'.limit ≡ start.limit
      → w' ≡ without_leaving w → IsWritable (without_leaving w) → held k' ≡ None ⊎ ((contents : Contents) × (held k ≡ Some contents))
      → ((t : ToldWorld) → t.world ≡ w → Holds held H t k → IsDropped held H trail batches t k k')
      → (w' ≡ world_after start' journal) × IsCore held H trail batches faults start' journal k'
  settled-core start' w' k' value keeper limit left ready tells drops =
      let core = is.1 in
      begun held H trail batches faults k' start' w' journal value keeper none (ap (λ (v : World). v.pins) left) (subst IsWritable (sym left) ready)
      (subst (λ (v : World). v.next ≤ 0) (sym left) (omega arith))
      (subst (λ n. (1 ≤ n) × (n ≤ GREATEST_COUNT)) (sym limit) core.limited)
      (⊎_elim
      (λ silent. subst (λ (o : Option Contents). IfSome o (λ contents. AreSoundContents H (told_in contents w') contents)) (sym silent) tt)
      (λ said. let from = told-core said.0 said.1 in told from.0 from.1 (drops from.0 from.1 from.2))
      tells)
    where
      told : (t : ToldWorld) → t.world ≡ w → IsDropped held H trail batches t k k' → IfSome (held k') (λ contents. AreSoundContents H (told_in contents w') contents)
      told t same dropped =
          let now = dropped.holds in
          let world : without_leaving t.world ≡ w' = ap without_leaving same ∙ sym left in
          subst (λ (o : Option Contents). IfSome o (λ contents. AreSoundContents H (told_in contents w') contents)) (sym now.is_held)
          (subst (λ v. AreSoundContents H (told_in now.contents v) now.contents) world (told-again H (told_without_leaving t) now.contents now.are))

-- a keeper that tells after a batch told before it
pub tells-left : {K : Type 0} (held : K → Option Contents) (change : Change) (k k' : K) → held k' ≡ option_map (changed change) (held k) → held k' ≡ None ⊎ ((contents : Contents) × (held k ≡ Some contents))
tells-left held change k k' made = by (held k) refl
  where
    by : (o : Option Contents) → held k ≡ o → held k' ≡ None ⊎ ((contents : Contents) × (held k ≡ Some contents))
    by None at = inl (made ∙ ap (option_map (changed change)) at)
    by (Some contents) at = inr (contents, at)
