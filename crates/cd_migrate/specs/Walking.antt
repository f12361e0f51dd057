-- Inner: a migration under way.
use Rattle.std.specs.Prelude.{◌≡◌, ℕ, ◌+◌, ◌*◌, ◌<◌, ◌≤◌, false, not, List, [], length, map, drop, filter, Contains, Option, Result}
use Rattle.std.specs.Option.{option_map}
use Rattle.std.specs.FinMap as finite
use Rattle.cd_keeper.specs.Contents.{Contents, Change, is_above}
use Rattle.cd_keeper.specs.Shown.{hash_bytes}
use Rattle.cd_migrate.specs.declared.limits.TheConstants.{BATCH_RECORDS}
use Rattle.cd_migrate.specs.declared.migrate_fault.MigrateFault.{MigrateFault}
use Rattle.cd_migrate.specs.declared.migrating.Migration.{Migration}
use Rattle.cd_migrate.specs.Answers.{IsSoFar}
use Rattle.cd_migrate.specs.Rewritten.{Entry, is_old, renewed, all_batches, at_most_last, AreMade}

-- the entries that were met, of which this is the last key
abbrev pub upto : Option (List ℕ) → List Entry → List Entry
upto after es = filter (λ e. not (is_above after e.0)) es

abbrev pub only_puts : List Entry → Change
only_puts puts = record { put_cells = puts; drop_cells = []; put_descs = []; drop_descs = [] }

abbrev pub bound_of : Migration → Option (List ℕ)
bound_of m = option_map hash_bytes m.after

-- the batch only puts, and under no hash that is yet to be met
pub record IsApart (m : Migration) : Type 0 where
  pub only : let batch = m.batch in m.batch ≡ only_puts batch.put_cells
  pub met : let batch = m.batch in (e : Entry) → Contains batch.put_cells e → is_above (bound_of m) e.0 ≡ false

-- the records of version 1 that were met
abbrev pub olds_met : Contents → Migration → List Entry
olds_met contents m = filter is_old (upto (bound_of m) (finite.entries contents.cells))

module _ {S : Type 0} (held : S → Option Contents) (trail : S → Option (List Contents)) (batches : S → ℕ) where
  -- n batches were made over these contents, and the records of version 1 that were met since stand in the next one
  pub record IsUnderWay (contents : Contents) (old now : S) (m : Migration) : Type 0 where
    pub n : ℕ
    pub made : AreMade held trail batches n contents old now
    pub puts : let batch = m.batch in batch.put_cells ≡ map renewed (drop (BATCH_RECORDS * n) (olds_met contents m))
    pub low : BATCH_RECORDS * n ≤ length (olds_met contents m)
    pub few : length (olds_met contents m) < BATCH_RECORDS * n + BATCH_RECORDS
    pub records : let done = m.done in done.records ≡ at_most_last (length (upto (bound_of m) (finite.entries contents.cells)))
    pub rewritten : let done = m.done in done.rewritten ≡ at_most_last (length (olds_met contents m))

  -- so many batches, and not too many
  pub record IsPart {T : Type 0} (contents : Contents) (old now : S) (result : Result T MigrateFault) : Type 0 where
    pub n : ℕ
    pub made : AreMade held trail batches n contents old now
    pub so_far : IsSoFar (all_batches contents) n result
