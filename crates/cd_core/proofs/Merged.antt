-- A block comes over parents whose pins end with it: the blocks that go, and what the batch leads to.
use Rattle.std.proofs.Common.{◌≡◌, ℕ, Bool, true, false, cond, not, List, [], ◌∷◌, map, None, Contains, refl, sym, ap, ap₂, ◌∙◌, subst}
use Rattle.std.specs.Prelude.{◌&&◌, ◌||◌, is_some}
use Rattle.std.specs.List.{filter}
use Rattle.std.proofs.lemmas.Bool.{true≢false}
use Rattle.cd_base.specs.declared.hash.Hash256.{Hash256}
use Rattle.cd_block.specs.declared.block.BlockId.{BlockId}
use Rattle.cd_block.specs.declared.description.Descr.{Descr}
use Rattle.cd_cell.specs.Tree.{Tree}
use Rattle.cd_cell.specs.PreparedView.{PreparedView}
use Rattle.cd_cell.proofs.Subtrees.{Contains-first, Contains-later}
use Rattle.cd_keeper.specs.Contents.{Contents, Change, changed}
use Rattle.cd_keeper.specs.Shown.{hash_bytes}
use Rattle.cd_nodes.specs.Graphs as nodes
use Rattle.cd_nodes.proofs.Together.{together-filter}
use Rattle.cd_world.specs.declared.world.World.{World}
use Rattle.cd_world.specs.declared.world.PinRow.{PinRow}
use Rattle.cd_world.specs.World.{Block}
use Rattle.cd_world.specs.Standing.{same_id, block_at, has_id, is_pinned}
use Rattle.cd_world.specs.Changes.{placed, stored, pins_without, without_pin, without_pins}
use Rattle.cd_world.specs.Image.{IsContentsOf}
use Rattle.cd_world.specs.Told.{ToldWorld, block_of, shown, made, with_stored, IsSound}
use Rattle.cd_world.proofs.Orders.{Contains-filter, Contains-filtered, Contains-placed_new}
use Rattle.cd_world.proofs.PinsStay.{same_id-Decides, false_from}
use Rattle.cd_world.proofs.TidyWorlds.{found-there}
use Rattle.cd_count.specs.Changes.{states, cell_graph, rep_bytes, Rows, AreTogether, AreCounted, DescsLead, IsCellBatch}
use Rattle.cd_count.specs.PlanRows.{descr_puts}
use Rattle.cd_count.proofs.Changes.{leads}
use Rattle.cd_core.specs.Cores.{IsWritable}
use Rattle.cd_core.specs.Effects.{goes_in_turn, ended_by}
use Rattle.cd_core.proofs.Apart.{keys-apart-in}
use Rattle.cd_core.proofs.Brought.{map-same, states-shown}
use Rattle.cd_core.proofs.DescrTables.{key, look, descs-lead}
use Rattle.cd_core.proofs.InTurn.{goes-by_pins, left-in-turn, filter-placed, look-in-turn, apart-placed}
use Rattle.cd_core.proofs.Stores.{sound-block, fresh-keys, one-key}
use Rattle.cd_core.proofs.Unpinned.{filter-same, not-not}

off-and : (a b : Bool) → ((a && false) && b) ≡ false
off-and true b = refl
off-and false b = refl

-- a kept block goes with no pin
pub kept-stays : (w : World) (rows : List PinRow) (d : Descr) → d.leaving ≡ false → goes_in_turn w rows d ≡ false
kept-stays w [] d kept = refl
kept-stays w (row ∷ rows) d kept =
    ap₂ (λ a b. a || b)
    (ap (λ l. (has_id row.block d && l) && not (is_pinned (pins_without row w.pins) row.block)) kept ∙ off-and (has_id row.block d) (not (is_pinned (pins_without row w.pins) row.block)))
    (kept-stays (without_pin w row) rows d kept)

module _ (H : List ℕ → Hash256) (v : ToldWorld) (rows : List PinRow) where
  abbrev goes : Descr → Bool
  goes = goes_in_turn v.world rows

  abbrev root : Descr → Tree
  root x = v.state x.id

  abbrev pub ended : ToldWorld
  ended = record { world = without_pins v.world rows; state = v.state }

  abbrev pub gone : List Block
  gone = map (block_of v) (filter goes v.world.blocks)

  -- the blocks that stay, and those that go
  pub together-ended : AreTogether H (let left = shown ended in left.blocks) gone (let all = shown v in all.blocks)
  together-ended =
      let xs = v.world.blocks in
      let few : states (map (block_of v) (let w = without_pins v.world rows in w.blocks)) ≡ map root (filter (λ x. not (goes x)) xs) =
      states-shown v (let w = without_pins v.world rows in w.blocks) ∙ ap (map root) (left-in-turn v.world rows) in
      let more : states gone ≡ map root (filter (λ x. not (not (goes x))) xs) = states-shown v (filter goes xs) ∙ ap (map root) (sym (filter-same (λ x. not (not (goes x))) goes (λ x. not-not (goes x)) xs)) in
      let at = together-filter (cell_graph H) root (λ x. not (goes x)) xs in
      let one = subst (λ ts. nodes.AreTogether (cell_graph H) ts (map root (filter (λ x. not (not (goes x))) xs)) (map root xs)) (sym few) at in
      let two = subst (λ ts. nodes.AreTogether (cell_graph H) (states (map (block_of v) (let w = without_pins v.world rows in w.blocks))) ts (map root xs)) (sym more) one in
      subst (λ ts. nodes.AreTogether (cell_graph H) (states (map (block_of v) (let w = without_pins v.world rows in w.blocks))) (states gone) ts) (sym (states-shown v xs)) two

module _ (H : List ℕ → Hash256) (t : ToldWorld) (id : BlockId) (parents tops : List BlockId) (p : PreparedView) (sound : IsSound H t) (ready : IsWritable t.world)
    (fresh : block_at t.world id ≡ None) (rows : List PinRow) where
  abbrev v : ToldWorld
  v = with_stored H t id parents tops p

  abbrev d : Descr
  d = stored id parents tops p

  abbrev leaves : Descr → Bool
  leaves = goes_in_turn t.world rows

  state-old : (x : Descr) → Contains t.world.blocks x → v.state x.id ≡ t.state x.id
  state-old x h =
      let other : same_id x.id id ≡ false = false_from (same_id x.id id) (λ same. true≢false (sym (found-there t.world id (x, h, (same_id-Decides x.id id).0 same)) ∙ ap is_some fresh)) in
      ap (λ b. cond b (made H p (map t.state parents)) (t.state x.id)) other

  goes-same : (x : Descr) → goes_in_turn v.world rows x ≡ leaves x
  goes-same x = goes-by_pins t.world (placed d t.world.blocks) rows x

  gone-old : filter (goes_in_turn v.world rows) v.world.blocks ≡ filter leaves t.world.blocks
  gone-old = filter-placed (goes_in_turn v.world rows) d t.world.blocks (kept-stays v.world rows d refl) ∙ filter-same (goes_in_turn v.world rows) leaves goes-same t.world.blocks

  block-old : (x : Descr) → Contains t.world.blocks x → block_of v x ≡ block_of t x
  block-old x h = ap (λ (s : Tree). let b : Block = record { id = x.id; parents = x.parents; state = s; tops = x.tops; leaving = x.leaving } in b) (state-old x h)

  -- they are blocks that were there before
  pub gone-before : gone H v rows ≡ ended_by t rows
  gone-before =
      ap (map (block_of v)) gone-old
      ∙ map-same (block_of v) (block_of t) (filter leaves t.world.blocks) (λ x h. let there = Contains-filter leaves t.world.blocks x h in block-old x there.0)

  roots-of : (xs : List Descr) → ((x : Descr) → Contains xs x → Contains t.world.blocks x) → map (rep_bytes H) (map (λ x. v.state x.id) xs) ≡ map hash_bytes (map (λ x. x.root) xs)
  roots-of [] within = refl
  roots-of (x ∷ xs) within =
      let here = within x (Contains-first x xs) in
      let block = sound-block H t sound x here in
      ap₂ (λ (y : List ℕ) (ys : List (List ℕ)). y ∷ ys) (ap (rep_bytes H) (state-old x here) ∙ ap (λ (r : Hash256). r.0) block.root) (roots-of xs (λ y h. within y (Contains-later x xs y h)))

  -- the roots of those that go
  pub roots-ended : map (rep_bytes H) (states (gone H v rows)) ≡ map hash_bytes (map (λ x. x.root) (filter leaves t.world.blocks))
  roots-ended =
      ap (map (rep_bytes H)) (states-shown v (filter (goes_in_turn v.world rows) v.world.blocks) ∙ ap (map (λ (x : Descr). v.state x.id)) gone-old)
      ∙ roots-of (filter leaves t.world.blocks) (λ x h. let there = Contains-filter leaves t.world.blocks x h in there.0)

  -- the batch of the plan leads to the contents with the block and without those that go
  pub merged-leads : IsSound H (ended H v rows) → (news dead : List Tree) (plan : Rows) → AreCounted H (shown t) (shown v) (shown (ended H v rows)) (block_of v d ∷ []) (gone H v rows) news dead plan
      → (change : Change) → IsCellBatch plan change → change.put_descs ≡ descr_puts (d ∷ []) → change.drop_descs ≡ map key (filter leaves t.world.blocks)
      → (contents : Contents) → IsContentsOf H (shown t) contents → IsContentsOf H (shown (ended H v rows)) (changed change contents)
  merged-leads sound_u news dead plan counted change cells puts drops contents are =
      let goes = goes_in_turn v.world rows in
      let stays = kept-stays v.world rows d refl in
      let there : Contains (let w = without_pins v.world rows in w.blocks) d =
      subst (λ (xs : List Descr). Contains xs d) (sym (left-in-turn v.world rows)) (Contains-filtered (λ x. not (goes x)) v.world.blocks d (Contains-placed_new d t.world.blocks) (ap not stays)) in
      let sound_d = sound-block H (ended H v rows) sound_u d there in
      let new = fresh-keys H t.world d fresh sound_d.is (λ x h. let block = sound-block H t sound x h in block.is) in
      let apart = apart-placed d t.world.blocks new (keys-apart-in t.world ready) in
      let descs : DescsLead H change (shown t) (shown (ended H v rows)) =
      descs-lead H t (ended H v rows) change (d ∷ []) (map key (filter goes t.world.blocks)) (sound-block H t sound) (sound-block H (ended H v rows) sound_u) puts
      (drops ∙ ap (map key) (sym (filter-same goes leaves goes-same t.world.blocks))) (one-key d)
      (λ q. ap (λ (xs : List Descr). look xs q) (left-in-turn v.world rows) ∙ look-in-turn goes d t.world.blocks q stays new apart) in
      leads H (shown t) (shown v) (shown (ended H v rows)) (block_of v d ∷ []) (gone H v rows) news dead plan counted change cells descs contents are
