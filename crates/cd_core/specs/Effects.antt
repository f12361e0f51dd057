-- Trusted: what the calls of a core ask and do, by what the core began with and its entries before: so that others may
-- call it in between.
use Rattle.std.specs.Prelude.{◌≡◌, ℕ, ◌-◌, ◌^◌, min, Bool, true, false, ◌||◌, List, [], ◌∷◌, ◌++◌, length, map, filter, Option, Some, None, IfSome}
use Rattle.std.specs.List.{sum_by, list_any}
use Rattle.std.specs.FinMap as finite
use Rattle.cd_base.specs.declared.hash.Hash256.{Hash256}
use Rattle.cd_block.specs.declared.block.BlockId.{BlockId}
use Rattle.cd_block.specs.declared.description.Descr.{Descr}
use Rattle.cd_cell.specs.FaceView.{FaceView}
use Rattle.cd_cell.specs.Listings.{Fits}
use Rattle.cd_cell.specs.PreparedView.{PreparedView}
use Rattle.cd_cell.specs.Tree.{Tree}
use Rattle.cd_keeper.specs.Contents.{Contents}
use Rattle.cd_event.specs.declared.names.Who.{Who}
use Rattle.cd_event.specs.declared.answers.Pinned.{Pinned}
use Rattle.cd_event.specs.declared.event.Event.{Event}
use Rattle.cd_event.specs.declared.entry.Entry.{Entry}
use Rattle.cd_event.specs.declared.entry.Reply.{Reply}
use Rattle.cd_event.specs.Replies.{entry_of, entries_of}
use Rattle.cd_world.specs.declared.world.World.{World}
use Rattle.cd_world.specs.declared.world.PinRow.{PinRow}
use Rattle.cd_world.specs.declared.world.Totals.{Totals}
use Rattle.cd_world.specs.World.{Block}
use Rattle.cd_world.specs.Standing.{block_at, kept_at, pin_at}
use Rattle.cd_world.specs.Changes.{goes_with, goes_at_once, without_pin}
use Rattle.cd_world.specs.Machine.{root_info, rows_at, merge_rows, blocks_of, old_info, is_over}
use Rattle.cd_world.specs.Following.{Follows}
use Rattle.cd_world.specs.Told.{ToldWorld, told_replay, shown, block_of, with_stored, FollowsTold, AllFollowTold, seen, held, count}
use Rattle.cd_count.specs.Changes.{AreDeadCells}
use Rattle.cd_core.specs.declared.start.CoreStart.{CoreStart}
use Rattle.cd_core.specs.Cores.{world_after, told_start}

-- a count that stops at the last u64
abbrev pub at_most_last : ℕ → ℕ
at_most_last n = min n (2 ^ 64 - 1)

module _ {K : Type 0} (holds : K → Option Contents) (H : List ℕ → Hash256) where
  module _ {X : Type 0} where
    -- what a call adds to the entries: one that follows the world before it, or none where it found no memory
    pub record Adds (start : CoreStart K) (before : List (Entry X)) (who : Who) (event : Event X) (answer : Option Reply)
        (now : List (Entry X)) : Type 0 where
      pub entry : now ≡ before ++ entries_of who event answer
      pub follows : IfSome answer (λ reply. Follows H (world_after start before) (entry_of who event reply))
      pub told : IfSome answer (λ reply. IfSome (told_start holds start)
          (λ t. FollowsTold H start.limit (told_replay H t before) (entry_of who event reply)))

    -- ---- what calls ask

    -- A value that was prepared over the states of these pins fits them, where they are told. It is asked only where
    -- the worker has the pins, and the value names the old tree's root.
    abbrev pub MayStoreOver : CoreStart K → List (Entry X) → ℕ → ℕ → Option ℕ → PreparedView → Type 0
    MayStoreOver start before worker pin other p = IfSome (told_start holds start) (λ t.
        AllFollowTold H start.limit t before → (rows : List PinRow)
        → let now = told_replay H t before in rows_at now.world worker pin other ≡ Some rows
        → is_over p (old_info H (map (block_at now.world) (blocks_of rows))) ≡ true
        → Fits H p.root p.cells (map now.state (blocks_of rows)))

    -- ---- what calls answer

    -- the pin has the root of the block's state
    abbrev pub IsPinOf : CoreStart K → List (Entry X) → BlockId → Pinned → Type 0
    IsPinOf start before id pinned =
        (d : Descr) × (kept_at (world_after start before) id ≡ Some d) × (pinned.root ≡ root_info d)

    -- beside each hash the face of the held cell, and none where none is held
    abbrev pub AreSeen : CoreStart K → List (Entry X) → List Hash256 → List (Option FaceView) → Type 0
    AreSeen start before hashes found = IfSome (told_start holds start)
        (λ t. found ≡ map (seen H (told_replay H t before)) hashes)

    -- how many blocks there are, how many cells these hold, and all references to the cells together
    pub record AreTotals (start : CoreStart K) (journal : List (Entry X)) (totals : Totals) : Type 0 where
      pub blocks : totals.blocks ≡ at_most_last (let w = world_after start journal in length w.blocks)
      pub cells : IfSome (told_start holds start) (λ t.
          totals.cells ≡ at_most_last (length (finite.entries (held H (told_replay H t journal)))))
      pub counts : IfSome (told_start holds start) (λ t. let now = told_replay H t journal in
          totals.counts ≡ at_most_last (sum_by (λ e. count H now e.0) (finite.entries (held H now))))

-- whether a block goes with the end of some pins, one after another
abbrev pub goes_in_turn : World → List PinRow → Descr → Bool
goes_in_turn w [] d = false
goes_in_turn w (row ∷ rows) d = goes_with w row d || goes_in_turn (without_pin w row) rows d

-- whether any block goes with a merge
abbrev pub merge_collects : World → ℕ → ℕ → Option ℕ → Bool
merge_collects w worker pin other = list_any (goes_in_turn w (merge_rows w worker pin other)) w.blocks

-- the blocks that go with the end of these pins
abbrev pub ended_by : ToldWorld → List PinRow → List Block
ended_by t rows = map (block_of t) (filter (goes_in_turn t.world rows) t.world.blocks)

module _ (H : List ℕ → Hash256) where
  -- the blocks that go with the end of a worker's pin
  abbrev pub collected_by : ToldWorld → Option PinRow → List Block
  collected_by t None = []
  collected_by t (Some row) = map (block_of t) (filter (goes_with t.world row) t.world.blocks)

  -- the cells that go with the end of a worker's pin
  abbrev pub AreCollected : ToldWorld → ℕ → ℕ → List Tree → Type 0
  AreCollected t worker pin dead =
      let all = shown t in AreDeadCells H all.blocks (collected_by t (pin_at t.world worker pin)) dead

  -- the cells that go with the end of a merge's pins, once its block is there
  abbrev pub AreEnded : ToldWorld → List PinRow → BlockId → List BlockId → PreparedView → List Tree → Type 0
  AreEnded t rows id tops p dead =
      let all = shown (with_stored H t id (blocks_of rows) tops p) in AreDeadCells H all.blocks (ended_by t rows) dead

  -- the blocks that go as a masterchain block lets others expire
  abbrev pub dropped_by : ToldWorld → Option Descr → List Block
  dropped_by t None = []
  dropped_by t (Some m) = map (block_of t) (filter (goes_at_once t.world m) t.world.blocks)

  -- the cells that go with them
  abbrev pub AreExpired : ToldWorld → BlockId → List Tree → Type 0
  AreExpired t id dead =
      let all = shown t in AreDeadCells H all.blocks (dropped_by t (kept_at t.world id)) dead
