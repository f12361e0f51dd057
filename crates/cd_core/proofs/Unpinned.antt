-- A pin ends: what becomes of the world, of the keeper's contents, and what the plan is of.
use Rattle.std.proofs.Common.{◌≡◌, ℕ, ◌≤◌, Bool, true, false, cond, not, List, [], ◌∷◌, map, Option, Some, None, Contains, refl, sym, ap, ◌∙◌, subst}
use Rattle.std.specs.Prelude.{◌||◌, ◌&&◌, slice_get, IfSome, Err}
use Rattle.std.specs.Option.{option_to_list}
use Rattle.std.specs.List.{filter, list_any, IsDistinct}
use Rattle.std.proofs.lemmas.Bool.{true≢false}
use Rattle.std.proofs.lemmas.List.Elements.{All-contains}
use Rattle.cd_base.specs.declared.hash.Hash256.{Hash256}
use Rattle.cd_block.specs.declared.description.Descr.{Descr}
use Rattle.cd_block.specs.Block.{key_of}
use Rattle.cd_cell.specs.Tree.{Tree}
use Rattle.cd_cell.specs.Export.{AreClashFree}
use Rattle.cd_keeper.specs.Contents.{Contents, Change, changed}
use Rattle.cd_keeper.specs.NoKeyTwice.{same_key}
use Rattle.cd_nodes.specs.Graphs as nodes
use Rattle.cd_nodes.proofs.Together.{together-filter}
use Rattle.cd_event.specs.declared.event.Event.TheVariants.{Unpin}
use Rattle.cd_world.specs.declared.world.World.{World}
use Rattle.cd_world.specs.declared.world.PinRow.{PinRow}
use Rattle.cd_world.specs.Standing.{pin_at, is_pin, names_block, has_id, is_pinned}
use Rattle.cd_world.specs.Changes.{goes_with, is_collected, pins_without, without_pin, without_pins}
use Rattle.cd_world.specs.Machine.{moved}
use Rattle.cd_world.specs.Told.{ToldWorld, block_of, shown, IsSound, IsSoundBlock}
use Rattle.cd_world.specs.Image.{IsContentsOf}
use Rattle.cd_world.specs.ToldTrees.{HasBytes}
use Rattle.cd_world.proofs.Orders.{Contains-filter}
use Rattle.cd_count.specs.Changes.{states, cell_graph, rep_bytes, Rows, AreTogether, AreCounted, DescsLead, IsCellBatch}
use Rattle.cd_count.specs.PlanRows.{AreOfBytes}
use Rattle.cd_count.proofs.Changes.{leads}
use Rattle.cd_core.specs.Cores.{IsWritable}
use Rattle.cd_event.specs.Turning.{RisesOnly}
use Rattle.cd_count.specs.declared.count_fault.CountFault.{CountFault}
use Rattle.cd_count.specs.declared.count_fault.CountFault.TheVariants as count
use Rattle.cd_count.specs.Reading.{IsCaused}
use Rattle.cd_core.specs.Steps.{told_without, of_count, is_keeper_fault, IsOutsideFault}
use Rattle.cd_core.proofs.Apart.{goes-at, keys-apart-in}
use Rattle.cd_core.proofs.DescrTables.{key, look, look-filtered, descs-lead}
use Rattle.cd_core.proofs.Leading.{bytes-changed}

-- ---- no block goes

pub filter-all : {A : Type 0} (p : A → Bool) (xs : List A) → list_any p xs ≡ false → filter (λ x. not (p x)) xs ≡ xs
filter-all p [] e = refl
filter-all p (x ∷ xs) e = elim (p x) as (λ b. (b || list_any p xs) ≡ false → cond (not b) (x ∷ filter (λ y. not (p y)) xs) (filter (λ y. not (p y)) xs) ≡ x ∷ xs) [
  | true ↦ λ f. absurd (true≢false f)
  | false ↦ λ f. ap (λ ys. x ∷ ys) (filter-all p xs f)
] e

-- the world after the end of a pin
pub unpinned : (X : Type 0) (w : World) (worker pin : ℕ) (row : PinRow) → pin_at w worker pin ≡ Some row → moved {X = X} w worker (Unpin pin) ≡ without_pin w row
unpinned X w worker pin row at = ap (λ o. without_pins w (option_to_list o)) at

-- where no block goes
pub still-blocks : (w : World) (row : PinRow) → is_collected w row ≡ false → without_pin w row ≡ record w { pins = pins_without row w.pins }
still-blocks w row none = ap (λ (bs : List Descr). record w { blocks = bs; pins = pins_without row w.pins }) (filter-all (goes_with w row) w.blocks none)

-- ---- a block goes

no-keys : IsDistinct same_key []
unfolding IsDistinct
no-keys = tt

pub filter-same : {A : Type 0} (p q : A → Bool) → ((x : A) → p x ≡ q x) → (xs : List A) → filter p xs ≡ filter q xs
filter-same p q same [] = refl
filter-same p q same (x ∷ xs) =
    ap (λ b. cond b (x ∷ filter p xs) (filter p xs)) (same x) ∙ ap (λ ys. cond (q x) (x ∷ ys) ys) (filter-same p q same xs)

pub not-not : (b : Bool) → not (not b) ≡ b
not-not true = refl
not-not false = refl

states-are : (t : ToldWorld) (ds : List Descr) → states (map (block_of t) ds) ≡ map (λ d. t.state d.id) ds
states-are t [] = refl
states-are t (d ∷ ds) = ap (λ ts. t.state d.id ∷ ts) (states-are t ds)

module _ (H : List ℕ → Hash256) (t : ToldWorld) (row : PinRow) where
  abbrev goes : Descr → Bool
  goes = goes_with t.world row

  abbrev root : Descr → Tree
  root d = t.state d.id

  -- the blocks that stay, and the one that goes
  pub together-without : (d : Descr) → filter goes t.world.blocks ≡ d ∷ []
      → (let left = shown (told_without row t) in let all = shown t in AreTogether H left.blocks (block_of t d ∷ []) all.blocks)
  together-without d one =
      let ds = t.world.blocks in
      let gone : map root (filter (λ x. not (not (goes x))) ds) ≡ t.state d.id ∷ [] =
      ap (map root) (filter-same (λ x. not (not (goes x))) goes (λ x. not-not (goes x)) ds ∙ one) in
      let at = together-filter (cell_graph H) root (λ x. not (goes x)) ds in
      let few = subst (λ ts. nodes.AreTogether (cell_graph H) ts (map root (filter (λ x. not (not (goes x))) ds)) (map root ds)) (sym (states-are t (filter (λ x. not (goes x)) ds))) at in
      let many = subst (λ ts. nodes.AreTogether (cell_graph H) (states (map (block_of t) (filter (λ x. not (goes x)) ds))) (map root (filter (λ x. not (not (goes x))) ds)) ts) (sym (states-are t ds)) few in
      subst (λ ts. nodes.AreTogether (cell_graph H) (states (map (block_of t) (filter (λ x. not (goes x)) ds))) ts (states (map (block_of t) ds))) gone many

  sound-block : IsSound H t → (d : Descr) → Contains t.world.blocks d → IsSoundBlock H t.state d
  sound-block sound d h = All-contains (IsSoundBlock H t.state) t.world.blocks d sound.blocks h

  sound-left : IsSound H t → (d : Descr) → Contains (filter (λ x. not (goes x)) t.world.blocks) d → IsSoundBlock H t.state d
  sound-left sound d h = let from = Contains-filter (λ x. not (goes x)) t.world.blocks d h in sound-block sound d from.0

  -- the batch of the plan leads to the contents without the block
  pub contents-left : (place : ℕ) (d : Descr) → IsSound H t → IsWritable t.world → slice_get t.world.blocks place ≡ Some d → goes d ≡ true
      → (dead : List Tree) (rows : Rows) → AreCounted H (shown t) (shown t) (shown (told_without row t)) [] (block_of t d ∷ []) [] dead rows
      → (change : Change) → IsCellBatch rows change → AreOfBytes change.put_cells → change.put_descs ≡ [] → change.drop_descs ≡ key_of d.id ∷ []
      → (contents : Contents) → IsContentsOf H (shown t) contents → HasBytes contents
      → IsContentsOf H (shown (told_without row t)) (changed change contents) × HasBytes (changed change contents)
  contents-left place d sound ready at goes_d dead rows counted change cells bytes puts drops contents are of_bytes =
      let u = told_without row t in
      let one = goes-at t.world row place d ready at goes_d in
      let descs : DescsLead H change (shown t) (shown u) =
      descs-lead H t u change [] (key_of d.id ∷ []) (sound-block sound) (sound-left sound) puts drops no-keys
      (λ q. look-filtered goes t.world.blocks q (keys-apart-in t.world ready)
      ∙ ap (λ (xs : List Descr). cond (list_any (same_key q) (map key xs)) None (look t.world.blocks q)) one.0) in (
        leads H (shown t) (shown t) (shown u) [] (block_of t d ∷ []) [] dead rows counted change cells descs contents are,
        bytes-changed change contents of_bytes bytes,
      )

  -- the root of the block that goes
  pub root-named : (d : Descr) → IsSound H t → Contains t.world.blocks d → rep_bytes H (t.state d.id) ≡ d.root.0
  root-named d sound h = let block = sound-block sound d h in ap (λ (r : Hash256). r.0) block.root

-- ---- the tests

-- what passes both of two tests
pub any-filtered : {A : Type 0} (p q : A → Bool) (xs : List A) → list_any q (filter p xs) ≡ list_any (λ x. p x && q x) xs
any-filtered p q [] = refl
any-filtered p q (x ∷ xs) = by (p x) (any-filtered p q xs)
  where
    by : (b : Bool) → list_any q (filter p xs) ≡ list_any (λ y. p y && q y) xs → list_any q (cond b (x ∷ filter p xs) (filter p xs)) ≡ ((b && q x) || list_any (λ y. p y && q y) xs)
    by true rest = ap (λ b. q x || b) rest
    by false rest = rest

none-any : {A : Type 0} (p : A → Bool) → ((x : A) → p x ≡ false) → (xs : List A) → list_any p xs ≡ false
none-any p none [] = refl
none-any p none (x ∷ xs) = ap (λ b. b || list_any p xs) (none x) ∙ none-any p none xs

and-false : (a b : Bool) → b ≡ true → (a && not b) ≡ false
and-false true true e = refl
and-false false b e = refl
and-false true false e = absurd (true≢false (sym e))

module _ (w : World) (row : PinRow) where
  -- whether another pin is on the block of a pin
  abbrev pub is_shared : Bool
  is_shared = list_any (λ r. not (is_pin row.worker row.pin r) && names_block row.block r) w.pins

  shared-is : is_pinned (pins_without row w.pins) row.block ≡ is_shared
  shared-is = any-filtered (λ r. not (is_pin row.worker row.pin r)) (names_block row.block) w.pins

  -- a block with another pin stays
  pub shared-stays : is_shared ≡ true → is_collected w row ≡ false
  shared-stays shared = none-any (goes_with w row) (λ d. and-false (has_id row.block d && d.leaving) (is_pinned (pins_without row w.pins) row.block) (shared-is ∙ shared)) w.blocks

  -- one without goes where it is leaving
  pub goes-is : is_shared ≡ false → (d : Descr) → goes_with w row d ≡ (has_id row.block d && d.leaving)
  goes-is alone d = ap (λ b. (has_id row.block d && d.leaving) && not b) (shared-is ∙ alone) ∙ by (has_id row.block d && d.leaving)
    where
      by : (b : Bool) → (b && not false) ≡ b
      by true = refl
      by false = refl

-- ---- what a plan tells

-- what is said of an option's value
pub of-some : {A : Type 0} (o : Option A) (x : A) (P : A → Type 0) → o ≡ Some x → IfSome o P → P x
of-some {A} o x P is h = let Q : Option A → Type 0 = λ y. IfSome y P in subst Q is h

-- the states of a sound world are free of clashes
pub clear-shown : (H : List ℕ → Hash256) (t : ToldWorld) → IsSound H t → (let all = shown t in AreClashFree H (states all.blocks))
clear-shown H t sound = subst (AreClashFree H) (sym (states-are t t.world.blocks)) sound.clear

-- ---- a plan's fault

pub outside-unpin : (fault : CountFault) → IsOutsideFault {A = Rows} (Err (of_count fault))
outside-unpin count.Keeper = tt
outside-unpin count.Memory = tt
outside-unpin (count.Clash hash stored offered) = tt
outside-unpin (count.CountFull hash n) = tt

pub caused-unpin : (fault : CountFault) (before now : ℕ) → before ≤ now → IsCaused before now fault → RisesOnly (is_keeper_fault {A = Rows} (Err (of_count fault))) before now
caused-unpin count.Keeper before now later caused = record { later = later; steady = λ e. absurd (true≢false e); rose = λ _. caused }
caused-unpin count.Memory before now later caused = record { later = later; steady = λ _. caused; rose = λ e. absurd (true≢false (sym e)) }
caused-unpin (count.Clash hash stored offered) before now later caused = record { later = later; steady = λ _. caused; rose = λ e. absurd (true≢false (sym e)) }
caused-unpin (count.CountFull hash n) before now later caused = record { later = later; steady = λ _. caused; rose = λ e. absurd (true≢false (sym e)) }
