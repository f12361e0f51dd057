-- Inner: what the rows of a plan say of worlds while blocks go.
use Rattle.std.specs.Prelude.{◌≡◌, ℕ, List, map}
use Rattle.std.specs.Option.{option_map}
use Rattle.cd_base.specs.declared.hash.Hash256.{Hash256}
use Rattle.cd_cell.specs.Tree.{Tree, face_of}
use Rattle.cd_keeper.specs.Contents.{Contents}
use Rattle.cd_keeper.specs.Shown.{hash_bytes}
use Rattle.cd_record.specs.declared.record.Record.{Record}
use Rattle.cd_nodes.specs.Plans as plans
use Rattle.cd_world.specs.World.{Block, World, count_of}
use Rattle.cd_count.specs.Changes.{states, row_in, rep_bytes, cell_graph, held_under, AreDeadCells}
use Rattle.cd_count.specs.PlanRows.{rows_of}
use Rattle.cd_count.specs.PlanSteps.{RowMap}
use Rattle.cd_count.specs.Reading.{stored_in}

module _ (H : List ℕ → Hash256) where
  -- the record of a held cell has its count and its face
  abbrev pub record_of_cell : World → List ℕ → Tree → Record
  record_of_cell world hash t = record { count = count_of H world hash; face = face_of H t }

  -- under each hash there is the record of the held cell, and none where no cell is held
  abbrev pub IsReadable : World → Contents → Type 0
  IsReadable world contents = (hash : List ℕ) → stored_in contents hash ≡ option_map (record_of_cell world hash) (held_under H world hash)

  -- the rows have the references that come and those that go, and these are the hashes of the dead cells
  pub record IsDropped (old grown : World) (come gone : List Block) (news : List Tree) (rows : RowMap) (dead : List Hash256)
      : Type 0 where
    pub cells : List Tree
    pub named : map (rep_bytes H) cells ≡ map hash_bytes dead
    pub ended : AreDeadCells H grown.blocks gone cells
    pub rows_are : plans.AreRows (cell_graph H) (face_of H) (states old.blocks) (states come) (states grown.blocks)
        (states gone) news cells (row_in (rows_of rows.entries))
