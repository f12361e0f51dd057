-- Inner: going over a table's entries in the order of their keys, by the key that was met last.
use Rattle.std.specs.Prelude.{◌≡◌, ℕ, List, [], ◌∷◌, ◌++◌, IsTrue, Contains, AllPairs, Option, Some, None, Result, Ok, Err}
use Rattle.std.specs.List.{filter_map, AllByRecursion}
use Rattle.std.specs.Option.{option_or}
use Rattle.cd_base.specs.declared.hash.Hash256.{Hash256}
use Rattle.cd_block.specs.declared.description.Descr.{Descr}
use Rattle.cd_block.specs.Block.{key_of}
use Rattle.cd_block.specs.Description.{IsDescr, IsDescrFit}
use Rattle.cd_keeper.specs.Contents.{is_above}
use Rattle.cd_world.specs.Standing.{IsBeforeBlock}
use Rattle.cd_world.specs.Walks.{above}
use Rattle.cd_restart.specs.declared.scan_fault.ScanFault.{ScanFault}
use Rattle.cd_restart.specs.Lists.{first_of}
use Rattle.cd_restart.specs.RowView.{RowView}
use Rattle.cd_restart.specs.Rows.{rows_of, kid_references, AreRowsOf}
use Rattle.cd_restart.specs.ScanFaults.{desc_fault, record_fault, key_fault, missing_fault, kid_fault}
use Rattle.cd_restart.specs.Stored.{Entry, Stored, descr_of, cell_of, IsDescEntry, IsCellEntry}
use Rattle.cd_restart.specs.Answers.{Refuses}

-- the next entry above a key, that of a cell
pub record IsCellNext (es : List Entry) (after : Option (List ℕ)) (c : Stored) : Type 0 where
  pub entry : Entry
  pub rest : above after es ≡ entry ∷ above (Some (let hash = c.0 in hash.0)) es
  pub told : cell_of entry ≡ Some c
  pub read : record_fault entry ≡ None
  pub fit : IsCellEntry entry

-- the next entry above a key, that of a block
pub record IsBlockNext (es : List Entry) (after : Option (List ℕ)) (d : Descr) : Type 0 where
  pub entry : Entry
  pub rest : above after es ≡ entry ∷ above (Some (key_of d.id)) es
  pub told : descr_of entry ≡ Some d
  pub read : desc_fault entry ≡ None
  pub fit : IsDescEntry entry

-- what is read next; a refusal is the first of those that are left
abbrev pub IsNext : {A : Type 0} → (Entry → Option ScanFault) → (List Entry → Option (List ℕ) → A → Type 0) → List Entry → Option (List ℕ) → Result (Option A) ScanFault → Type 0
IsNext fault Is es after (Ok None) = above after es ≡ []
IsNext fault Is es after (Ok (Some x)) = Is es after x
IsNext fault Is es after (Err e) = Refuses (first_of fault (above after es)) e

-- the descriptions so far, and those that are left, are all
pub record AreBlocksRead (es : List Entry) (after : Option (List ℕ)) (blocks : List Descr) : Type 0 where
  pub faults : first_of desc_fault (above after es) ≡ first_of desc_fault es
  pub blocks_are : blocks ++ filter_map descr_of (above after es) ≡ filter_map descr_of es
  pub fit : AllByRecursion IsDescEntry (above after es) → AllByRecursion IsDescEntry es

-- what is read of a block above a key, whatever the keeper tells
pub record IsBlockAbove (after : Option (List ℕ)) (d : Descr) : Type 0 where
  pub is : IsDescr d
  pub fit : IsDescrFit d
  pub above : IsTrue (is_above after (key_of d.id))

-- the blocks that were read up to a key stand in the order of their ids
pub record AreBlocksTo (after : Option (List ℕ)) (blocks : List Descr) : Type 0 where
  pub are : (d : Descr) → Contains blocks d → IsDescr d × IsDescrFit d
  pub ordered : AllPairs IsBeforeBlock blocks
  pub below : (d next : Descr) → Contains blocks d → IsBlockAbove after next → IsBeforeBlock d next

module _ (H : List ℕ → Hash256) where
  -- the rows so far, and those of the cells that are left, are all; and so are the faults
  pub record AreCellsRead (es : List Entry) (after : Option (List ℕ)) (wrong : Option ScanFault) (rows : List RowView) : Type 0 where
    pub faults : first_of record_fault (above after es) ≡ first_of record_fault es
    pub keys : option_or wrong (first_of (key_fault H) (filter_map cell_of (above after es))) ≡ first_of (key_fault H) (filter_map cell_of es)
    pub rows_are : rows ++ rows_of H (filter_map cell_of (above after es)) [] ≡ rows_of H (filter_map cell_of es) []
    pub fit : AllByRecursion IsCellEntry (above after es) → AllByRecursion IsCellEntry es

  -- the kids so far were looked at and counted
  pub record AreKidsRead (all : List Stored) (es : List Entry) (after : Option (List ℕ)) (other : Option ScanFault) (rows : List RowView) : Type 0 where
    pub missing : first_of (missing_fault H all) (filter_map cell_of (above after es)) ≡ first_of (missing_fault H all) (filter_map cell_of es)
    pub others : option_or other (first_of (kid_fault H all) (filter_map cell_of (above after es))) ≡ first_of (kid_fault H all) (filter_map cell_of es)
    pub hashes : List Hash256
    pub rows_are : AreRowsOf H all hashes rows
    pub hashes_are : hashes ++ kid_references (filter_map cell_of (above after es)) ≡ kid_references (filter_map cell_of es)
    pub records : first_of record_fault (above after es) ≡ first_of record_fault es
