-- Trusted: what reads, slices and serves find in the state of their pin, where it is told.
use Rattle.std.specs.Prelude.{◌≡◌, ◌≤◌, ◌<◌, ◌+◌, ◌*◌, ℕ, List, length, Option, Some, IfSome}
use Rattle.std.specs.Option.{option_map}
use Rattle.sha2.specs.Sha256.{sha256}
use Rattle.cd_base.specs.declared.hash.Hash256.{Hash256}
use Rattle.cd_boc_write.specs.Exports.{bag_of}
use Rattle.cd_cell.specs.declared.limits.TheConstants.{MOST_CELLS}
use Rattle.cd_cell.specs.Export.{distinct_cells}
use Rattle.cd_cell.specs.Tree.{Tree, rep_of}
use Rattle.cd_reader.specs.Paths.{cell_along, IsFirstMissing}
use Rattle.cd_run.specs.declared.outcome.Outcome.{Outcome}
use Rattle.cd_run.specs.declared.outcome.Outcome.TheVariants as outcome
use Rattle.cd_run.specs.declared.outcome.TaskRefusal.TheVariants as word

-- SHA-256, by FIPS 180-4
abbrev pub sha_of : List ℕ → Hash256
sha_of bytes = record { 0 = sha256 bytes }

-- a text of so many bytes is so many slices of `max` bytes, of which the last one may be shorter, and isn't empty
pub record AreSlices (max bytes slices : ℕ) : Type 0 where
  pub whole : bytes ≤ slices * max
  pub needed : slices * max < bytes + max

module _ (digest : List ℕ → Hash256) where
  -- the state has an export, whose text has so many bytes
  pub record IsExported (bytes : ℕ) (t : Tree) : Type 0 where
    pub few : length (distinct_cells digest t) ≤ MOST_CELLS
    pub long : bytes ≡ length (bag_of digest t)

  -- it has more distinct cells than a bag may have
  abbrev pub IsTooBig : Tree → Type 0
  IsTooBig t = MOST_CELLS < length (distinct_cells digest t)

  -- the hash of the cell to which the path leads, or that it leads to none
  abbrev pub ReadFinds : List ℕ → Option Tree → Outcome → Type 0
  ReadFinds path told (outcome.Read hash) = IfSome told (λ t. option_map (rep_of digest) (cell_along path t) ≡ Some hash)
  ReadFinds path told (outcome.Refused word.NoChild) = IfSome told (λ t. (at : ℕ) × IsFirstMissing path t at)
  ReadFinds path told _ = ⊥

  -- the length of the export's text, the number of its slices, and its SHA-256; or that there is none
  abbrev pub SliceFinds : ℕ → Option Tree → Outcome → Type 0
  SliceFinds max told (outcome.Slice bytes slices sha) = AreSlices max bytes slices
      × IfSome told (λ t. IsExported bytes t × (sha ≡ sha_of (bag_of digest t)))
  SliceFinds max told (outcome.Refused word.TooMany) = IfSome told IsTooBig
  SliceFinds max told _ = ⊥

  -- the length of the export's text, or that there is none
  abbrev pub ServeFinds : Option Tree → Outcome → Type 0
  ServeFinds told (outcome.Serve bytes done failed) = IfSome told (IsExported bytes)
  ServeFinds told (outcome.Refused word.TooMany) = IfSome told IsTooBig
  ServeFinds told _ = ⊥
