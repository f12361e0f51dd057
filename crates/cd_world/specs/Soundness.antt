-- Trusted: a journal that follows leads from a sound world to a sound world.
use Rattle.std.specs.Prelude.{◌≡◌, ℕ, ◌<◌, ◌≤◌, true, List, [], ◌∷◌, length, map, IsTrue, Some}
use Rattle.std.specs.List.{AllByRecursion}
use Rattle.cd_base.specs.declared.hash.Hash256.{Hash256}
use Rattle.cd_block.specs.declared.block.BlockId.{BlockId}
use Rattle.cd_block.specs.Block.{IsHash, IsBlockId}
use Rattle.cd_block.specs.Shard.{is_master}
use Rattle.cd_cell.specs.Infos.{rep_of_info}
use Rattle.cd_cell.specs.Listings.{IsValid, Fits}
use Rattle.cd_cell.specs.PreparedView.{PreparedView}
use Rattle.cd_record.specs.declared.limits.TheConstants.{GREATEST_COUNT}
use Rattle.cd_event.specs.declared.event.Event.{Event}
use Rattle.cd_event.specs.declared.event.Event.TheVariants.{Zero, Merge}
use Rattle.cd_event.specs.declared.entry.Entry.{Entry}
use Rattle.cd_world.specs.declared.world.PinRow.{PinRow}
use Rattle.cd_world.specs.Standing.{block_at}
use Rattle.cd_world.specs.Machine.{rows_at, blocks_of, old_info, is_over}
use Rattle.cd_world.specs.Told.{ToldWorld, told_after, told_replay, AllFollowTold, IsSound}

module _ (H : List ℕ → Hash256) where
  -- what a call asks of a state that is to be stored, for every keeper: a valid value, and tops on a masterchain block
  -- alone, at most 64; beside what each id and hash of the program is
  pub record IsStorable (id : BlockId) (tops : List BlockId) (p : PreparedView) : Type 0 where
    pub valid : IsValid H p.root p.cells
    pub root : IsHash (rep_of_info p.root)
    pub named : IsBlockId id
    pub tops_named : AllByRecursion IsBlockId tops
    pub few : length tops ≤ 64
    pub on_master : 0 < length tops → IsTrue (is_master id.shard_id)

  module _ {X : Type 0} where
    -- and where the trees are told: a zero state is listed whole, and the value of a merge fits over the pins' trees
    -- where it was prepared over them
    abbrev pub IsAsked : ToldWorld → ℕ → Event X → Type 0
    IsAsked t worker (Zero id tops p) = IsStorable id tops p × Fits H p.root p.cells []
    IsAsked t worker (Merge pin other id tops p) =
        IsStorable id tops p × ((rows : List PinRow) → rows_at t.world worker pin other ≡ Some rows
        → is_over p (old_info H (map (block_at t.world) (blocks_of rows))) ≡ true
        → Fits H p.root p.cells (map t.state (blocks_of rows)))
    IsAsked t worker _ = Unit {0}

    -- each event is asked for so
    abbrev pub AllAsked : ToldWorld → List (Entry X) → Type 0
    AllAsked t [] = Unit {0}
    AllAsked t (e ∷ es) = IsAsked t e.who.worker e.event × AllAsked (told_after H t e) es

abbrev pub StaysSound : (List ℕ → Hash256) → Type 0 → Type 0
StaysSound H X = (limit : ℕ) (t : ToldWorld) (journal : List (Entry X)) → limit ≤ GREATEST_COUNT
    → IsSound H t → AllFollowTold H limit t journal → AllAsked H t journal → IsSound H (told_replay H t journal)
