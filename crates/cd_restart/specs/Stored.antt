-- Trusted: the blocks and the cells that a keeper's contents tell, one by one, in the order of their keys.
use Rattle.std.specs.Prelude.{◌≡◌, ℕ, List, Option, Some, None, Result, Ok, Err, length}
use Rattle.std.specs.List.{filter_map, AllByRecursion}
use Rattle.std.specs.FinMap as finite
use Rattle.cd_base.specs.declared.hash.Hash256.{Hash256}
use Rattle.cd_base.specs.Numbers.{IsBytes}
use Rattle.cd_block.specs.declared.description.Descr.{Descr}
use Rattle.cd_block.specs.declared.description.DescrFault.{DescrFault}
use Rattle.cd_block.specs.Reading.{descr_in}
use Rattle.cd_record.specs.declared.record.Record.{Record}
use Rattle.cd_record.specs.declared.record_fault.RecordFault.{RecordFault}
use Rattle.cd_record.specs.RecordReading.{record_in}
use Rattle.cd_keeper.specs.Contents.{Contents}

-- a key and the bytes under it
abbrev pub Entry : Type 0
Entry = List ℕ × List ℕ

-- a cell's hash and its record
abbrev pub Stored : Type 0
Stored = Hash256 × Record

abbrev pub read_descr : Result Descr DescrFault → Option Descr
read_descr (Ok d) = Some d
read_descr (Err fault) = None

abbrev pub read_cell : List ℕ → Result Record RecordFault → Option Stored
read_cell key (Ok r) = Some (record { 0 = key }, r)
read_cell key (Err fault) = None

-- the description under a key, and the record under a hash, where the bytes are such
abbrev pub descr_of : Entry → Option Descr
descr_of e = read_descr (descr_in e.0 e.1)

abbrev pub cell_of : Entry → Option Stored
cell_of e = read_cell e.0 (record_in e.1)

abbrev pub blocks_in : Contents → List Descr
blocks_in contents = filter_map descr_of (finite.entries contents.descs)

abbrev pub cells_in : Contents → List Stored
cells_in contents = filter_map cell_of (finite.entries contents.cells)

-- ---- what each keeper of the program holds; a clause that ranges over all contents has this as its premise

pub record IsDescEntry (e : Entry) : Type 0 where
  pub len : length e.0 ≡ 80
  pub key : IsBytes e.0
  pub value : IsBytes e.1

pub record IsCellEntry (e : Entry) : Type 0 where
  pub value : IsBytes e.1

-- keys of descriptions are 80 bytes, and all values are bytes
pub record AreBytes (contents : Contents) : Type 0 where
  pub descs : AllByRecursion IsDescEntry (finite.entries contents.descs)
  pub cells : AllByRecursion IsCellEntry (finite.entries contents.cells)
