-- Trusted: a world whose trees are told: the world, and the tree of each block's state.
use Rattle.std.specs.Prelude.{◌≡◌, ℕ, ◌≤◌, nat_lt, not, ◌&&◌, Bool, false, if◌then◌else◌, List, [], ◌∷◌, map, find, All, Option, Some, None}
use Rattle.std.specs.List.{filter}
use Rattle.std.specs.Option.{option_map, option_or, option_and_then}
use Rattle.std.specs.Ordering.{is_lt}
use Rattle.std.specs.FinMap as finite
use Rattle.cd_base.specs.declared.hash.Hash256.{Hash256}
use Rattle.cd_block.specs.declared.block.BlockId.{BlockId}
use Rattle.cd_block.specs.declared.description.Descr.{Descr}
use Rattle.cd_block.specs.Description.{IsDescrFit, IsDescr}
use Rattle.cd_block.specs.Lineage.{lineage_fault}
use Rattle.cd_cell.specs.declared.new_cell.NewCell.{NewCell}
use Rattle.cd_cell.specs.FaceView.{FaceView}
use Rattle.cd_cell.specs.Equality.{same_face}
use Rattle.cd_cell.specs.Tree.{Tree, face_of, rep_of, height_of, mask_of, IsWellFormed}
use Rattle.cd_cell.specs.Export.{hash_cmp, AreClashFree}
use Rattle.cd_cell.specs.Listings.{tree_of}
use Rattle.cd_cell.specs.PreparedView.{PreparedView}
use Rattle.cd_record.specs.declared.limits.TheConstants.{GREATEST_COUNT}
use Rattle.cd_keeper.specs.Contents.{Contents}
use Rattle.cd_event.specs.declared.event.Event.{Event}
use Rattle.cd_event.specs.declared.event.Event.TheVariants.{Zero, Merge}
use Rattle.cd_event.specs.declared.entry.Entry.{Entry}
use Rattle.cd_event.specs.declared.refusal.Refusal.{Refusal}
use Rattle.cd_event.specs.declared.refusal.Refusal.TheVariants as refusal
use Rattle.cd_world.specs.declared.world.World.{World}
use Rattle.cd_world.specs.declared.world.PinRow.{PinRow}
use Rattle.cd_world.specs.World as trees
use Rattle.cd_world.specs.World.{Block, CellMap, held_cells, count_of}
use Rattle.cd_world.specs.Image.{image_of}
use Rattle.cd_world.specs.Standing.{same_id, IsTidy}
use Rattle.cd_world.specs.Changes.{with_block, stored}
use Rattle.cd_world.specs.Machine.{blocks_of, merge_rows, after, is_refused}
use Rattle.cd_world.specs.Following.{FollowsBy}

pub record ToldWorld : Type 0 where
  pub world : World
  pub state : BlockId → Tree

-- the same world with the trees in their blocks
abbrev pub block_of : ToldWorld → Descr → Block
block_of t d = record { id = d.id; parents = d.parents; state = t.state d.id; tops = d.tops; leaving = d.leaving }

abbrev pub pin_of : PinRow → trees.Pin
pin_of r = record { number = r.pin; worker = r.worker; block = r.block }

abbrev pub shown : ToldWorld → trees.World
shown t = record { blocks = map (block_of t) t.world.blocks; pins = map pin_of t.world.pins; next_pin = t.world.next }

-- the trees of all blocks
abbrev pub states_of : ToldWorld → List Tree
states_of t = map (λ d. t.state d.id) t.world.blocks

-- the tree of the block with this id, and the others as they are
abbrev pub with_state : BlockId → Tree → (BlockId → Tree) → BlockId → Tree
with_state id tree state q = if same_id q id then tree else state q

module _ (H : List ℕ → Hash256) where
  abbrev pub held : ToldWorld → CellMap
  held t = held_cells H (shown t)

  abbrev pub count : ToldWorld → List ℕ → ℕ
  count t hash = count_of H (shown t) hash

  abbrev pub image : ToldWorld → Contents
  image t = image_of H (shown t)

  -- the face of the held cell with this hash
  abbrev pub seen : ToldWorld → Hash256 → Option FaceView
  seen t hash = option_map (face_of H) (finite.get (held t) hash.0)

  -- ---- what is sound

  -- a block's tree is that of its description: well-formed, of mask 0, with this root and depth; its parents are right,
  -- a zero state has the root that its id names, and the description is one that a keeper has a text for
  pub record IsSoundBlock (state : BlockId → Tree) (d : Descr) : Type 0 where
    pub good : IsWellFormed H (state d.id)
    pub plain : mask_of H (state d.id) ≡ 0
    pub root : rep_of H (state d.id) ≡ d.root
    pub depth : height_of H (state d.id) ≡ d.depth
    pub lineage : lineage_fault d.id d.parents ≡ None
    pub zero : d.parents ≡ [] → d.id.root ≡ d.root
    pub fit : IsDescrFit d
    pub is : IsDescr d

  -- all trees together are free of clashes, and no count is over the greatest
  pub record IsSound (t : ToldWorld) : Type 0 where
    pub tidy : IsTidy t.world
    pub blocks : All (IsSoundBlock t.state) t.world.blocks
    pub clear : AreClashFree H (states_of t)
    pub counted : (hash : List ℕ) → count t hash ≤ GREATEST_COUNT

  -- ---- what the cells refuse

  -- the tree of a prepared value over some old trees
  abbrev pub made : PreparedView → List Tree → Tree
  made p olds = tree_of H p.root p.cells olds

  -- the world with a stored block, before any pin ends
  abbrev pub with_stored : ToldWorld → BlockId → List BlockId → List BlockId → PreparedView → ToldWorld
  with_stored t id parents tops p =
      record {
        world = with_block t.world (stored id parents tops p);
        state = with_state id (made p (map t.state parents)) t.state;
      }

  abbrev pub lesser : NewCell → Option NewCell → NewCell
  lesser c None = c
  lesser c (Some d) = if is_lt (hash_cmp d.hash c.hash) then d else c

  -- the cell with the least hash
  abbrev pub least : List NewCell → Option NewCell
  least [] = None
  least (c ∷ cs) = Some (lesser c (least cs))

  -- another face is held under the hash of a listed cell
  abbrev pub is_other : Option FaceView → FaceView → Bool
  is_other None offered = false
  is_other (Some face) offered = not (same_face face offered)

  abbrev pub clash_with : ToldWorld → NewCell → Option Refusal
  clash_with t c = option_map (λ face. refusal.Clash c.hash face c.face) (seen t c.hash)

  -- the clash of the least listed hash under which another face is held
  abbrev pub first_clash : ToldWorld → List NewCell → Option Refusal
  first_clash t cells = option_and_then (clash_with t) (least (filter (λ c. is_other (seen t c.hash) c.face) cells))

  -- the least hash whose count is greater in the second world, and over the limit
  abbrev pub first_overflow : ℕ → ToldWorld → ToldWorld → Option Refusal
  first_overflow limit t v =
      option_map (λ e. refusal.CountFull (record { 0 = e.0 }) (count v e.0))
      (find (λ e. nat_lt (count t e.0) (count v e.0) && nat_lt limit (count v e.0)) (finite.entries (held v)))

  abbrev pub storing_refusal : ℕ → ToldWorld → ToldWorld → List NewCell → Option Refusal
  storing_refusal limit t v cells = option_or (first_clash t cells) (first_overflow limit t v)

  -- ---- the machine

  module _ {X : Type 0} where
    -- what the cells refuse of an event
    abbrev pub cell_refusal : ℕ → ToldWorld → ℕ → Event X → Option Refusal
    cell_refusal limit t worker (Zero id tops p) = storing_refusal limit t (with_stored t id [] tops p) p.cells
    cell_refusal limit t worker (Merge pin other id tops p) =
        storing_refusal limit t (with_stored t id (blocks_of (merge_rows t.world worker pin other)) tops p) p.cells
    cell_refusal limit t worker _ = None

    -- the trees once an event is done
    abbrev pub stated : ToldWorld → ℕ → Event X → BlockId → Tree
    stated t worker (Zero id tops p) = with_state id (made p []) t.state
    stated t worker (Merge pin other id tops p) =
        with_state id (made p (map t.state (blocks_of (merge_rows t.world worker pin other)))) t.state
    stated t worker _ = t.state

    -- the world and its trees after an entry
    abbrev pub told_after : ToldWorld → Entry X → ToldWorld
    told_after t e = record {
      world = after t.world e;
      state = if is_refused e.reply then t.state else stated t e.who.worker e.event;
    }

    -- and after some entries
    abbrev pub told_replay : ToldWorld → List (Entry X) → ToldWorld
    told_replay t [] = t
    told_replay t (e ∷ es) = told_replay (told_after t e) es

    -- the entry follows the world, and the cells refuse exactly this
    abbrev pub FollowsTold : ℕ → ToldWorld → Entry X → Type 0
    FollowsTold limit t e = FollowsBy H t.world (cell_refusal limit t e.who.worker e.event) e

    -- each entry follows the world so far
    abbrev pub AllFollowTold : ℕ → ToldWorld → List (Entry X) → Type 0
    AllFollowTold limit t [] = Unit {0}
    AllFollowTold limit t (e ∷ es) = FollowsTold limit t e × AllFollowTold limit (told_after t e) es
