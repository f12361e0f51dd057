-- What is read next of a table: a cell, a block, or a refusal.
use Rattle.std.proofs.Common.{◌≡◌, ◌≢◌, ℕ, List, ◌∷◌, length, Option, Some, Result, Ok, Err, ap, ◌∙◌}
use Rattle.std.specs.Option.{option_or}
use Rattle.std.specs.FinMap as finite
use Rattle.cd_base.specs.declared.hash.Hash256.{Hash256}
use Rattle.cd_base.specs.Numbers.{IsBytes}
use Rattle.cd_block.specs.declared.description.Descr.{Descr}
use Rattle.cd_block.specs.declared.description.DescrFault.{DescrFault}
use Rattle.cd_block.specs.declared.description.DescrFault.TheVariants as descr
use Rattle.cd_block.specs.Block.{key_of}
use Rattle.cd_block.specs.Reading.{descr_in}
use Rattle.cd_record.specs.declared.record.Record.{Record}
use Rattle.cd_record.specs.declared.record_fault.RecordFault.{RecordFault}
use Rattle.cd_record.specs.RecordReading.{record_in}
use Rattle.cd_keeper.specs.Contents.{Table, next_entry}
use Rattle.cd_restart.specs.declared.scan_fault.ScanFault.TheVariants as refusal
use Rattle.cd_restart.specs.Answers.{of_descr, Refuses, IsCaused}
use Rattle.cd_restart.specs.Lists.{first_of}
use Rattle.cd_restart.specs.Stored.{read_cell, read_descr}
use Rattle.cd_restart.specs.ScanFaults.{unrecorded, undescribed, record_fault, desc_fault}
use Rattle.cd_restart.specs.Walks.{IsCellNext, IsBlockNext}
use Rattle.cd_world.specs.Walks.{above}
use Rattle.cd_world.proofs.Walks.{next-some}

module _ (m : Table) (after : Option (List ℕ)) where
  pub cell-next : (hash : Hash256) (bytes : List ℕ) (r : Record) → next_entry m after ≡ Some (hash.0, bytes) → record_in bytes ≡ Ok r → IsBytes bytes → IsCellNext (finite.entries m) after (hash, r)
  cell-next hash bytes r next read fit = record {
    entry = (hash.0, bytes);
    rest = next-some m after (hash.0, bytes) next;
    told = ap (read_cell hash.0) read;
    read = ap (unrecorded hash.0) read;
    fit = record { value = fit };
  }

  pub cell-refused : (hash : Hash256) (bytes : List ℕ) (fault : RecordFault) → next_entry m after ≡ Some (hash.0, bytes) → record_in bytes ≡ Err fault
      → first_of record_fault (above after (finite.entries m)) ≡ Some (refusal.Record hash fault)
  cell-refused hash bytes fault next read =
      ap (first_of record_fault) (next-some m after (hash.0, bytes) next)
      ∙ ap (λ (x : Result Record RecordFault). option_or (unrecorded hash.0 x) (first_of record_fault (above (Some hash.0) (finite.entries m)))) read

  pub block-next : (key bytes : List ℕ) (d : Descr) → next_entry m after ≡ Some (key, bytes) → descr_in key bytes ≡ Ok d → key ≡ key_of d.id → length key ≡ 80 → IsBytes key → IsBytes bytes
      → IsBlockNext (finite.entries m) after d
  block-next key bytes d next read named len key_fit fit = record {
    entry = (key, bytes);
    rest = next-some m after (key, bytes) next ∙ ap (λ (k : List ℕ). (key, bytes) ∷ above (Some k) (finite.entries m)) named;
    told = ap read_descr read;
    read = ap (undescribed key) read;
    fit = record { len = len; key = key_fit; value = fit };
  }

  block-refused : (key bytes : List ℕ) (fault : DescrFault) → next_entry m after ≡ Some (key, bytes) → descr_in key bytes ≡ Err fault
      → first_of desc_fault (above after (finite.entries m)) ≡ Some (refusal.Desc key)
  block-refused key bytes fault next read =
      ap (first_of desc_fault) (next-some m after (key, bytes) next)
      ∙ ap (λ (x : Result Descr DescrFault). option_or (undescribed key x) (first_of desc_fault (above (Some key) (finite.entries m)))) read

  -- unless memory ran out
  pub block-refuses : (key bytes : List ℕ) (fault : DescrFault) → next_entry m after ≡ Some (key, bytes) → (fault ≢ descr.Memory → descr_in key bytes ≡ Err fault)
      → Refuses (first_of desc_fault (above after (finite.entries m))) (of_descr key fault)
  block-refuses key bytes descr.Version next read = block-refused key bytes descr.Version next (read (λ e. cc))
  block-refuses key bytes descr.Cut next read = block-refused key bytes descr.Cut next (read (λ e. cc))
  block-refuses key bytes descr.Extra next read = block-refused key bytes descr.Extra next (read (λ e. cc))
  block-refuses key bytes descr.Form next read = block-refused key bytes descr.Form next (read (λ e. cc))
  block-refuses key bytes descr.Memory next read = tt

pub descr-caused : (before now : ℕ) (key : List ℕ) (fault : DescrFault) → now ≡ before → IsCaused before now (of_descr key fault)
descr-caused before now key descr.Version same = same
descr-caused before now key descr.Cut same = same
descr-caused before now key descr.Extra same = same
descr-caused before now key descr.Form same = same
descr-caused before now key descr.Memory same = same
