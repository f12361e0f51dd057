-- Trusted: what a migration makes of a keeper's contents, batch by batch.
use Rattle.std.specs.Prelude.{◌≡◌, ℕ, zero, suc, ◌+◌, ◌-◌, ◌*◌, ◌/◌, ◌^◌, ◌&&◌, min, Bool, List, length, map, take, filter, Option, Some}
use Rattle.std.specs.Result.{is_ok}
use Rattle.std.specs.FinMap as finite
use Rattle.cd_base.specs.Counts.{one_more}
use Rattle.cd_record.specs.RecordReading.{record_in}
use Rattle.cd_keeper.specs.Contents.{Contents, put_all}
use Rattle.cd_keeper.specs.Keeping.{longer}
use Rattle.cd_world.specs.Image.{is_version_1, plain_record}
use Rattle.cd_migrate.specs.declared.limits.TheConstants.{BATCH_RECORDS}
use Rattle.cd_migrate.specs.declared.migrated.Migrated.{Migrated}

abbrev pub Entry : Type 0
Entry = List ℕ × List ℕ

-- the bytes are a record in version 1
abbrev pub is_old_text : List ℕ → Bool
is_old_text bytes = is_version_1 bytes && is_ok (record_in bytes)

abbrev pub is_old : Entry → Bool
is_old e = is_old_text e.1

-- the record in version 2, under the same hash
abbrev pub renewed : Entry → Entry
renewed e = (e.0, plain_record e.1)

-- the records in version 1, in the order of their hashes
abbrev pub old_entries : Contents → List Entry
old_entries contents = filter is_old (finite.entries contents.cells)

-- the contents with the first n of them rewritten
abbrev pub rewritten : ℕ → Contents → Contents
rewritten n contents = record {
  cells = put_all contents.cells (map renewed (take n (old_entries contents)));
  descs = contents.descs;
}

-- ---- batches

abbrev pub after_batches : ℕ → Contents → Contents
after_batches n contents = rewritten (BATCH_RECORDS * n) contents

-- how many batches a whole migration makes
abbrev pub all_batches : Contents → ℕ
all_batches contents = (length (old_entries contents) + (BATCH_RECORDS - 1)) / BATCH_RECORDS

-- a told trail with the contents after each of so many batches
abbrev pub trail_with : ℕ → Contents → Option (List Contents) → Option (List Contents)
trail_with zero contents trail = trail
trail_with (suc n) contents trail = longer (trail_with n contents trail) (Some (after_batches (suc n) contents))

-- the count of batches after so many more
abbrev pub count_with : ℕ → ℕ → ℕ
count_with zero count = count
count_with (suc n) count = one_more (count_with n count)

module _ {S : Type 0} (held : S → Option Contents) (trail : S → Option (List Contents)) (batches : S → ℕ) where
  -- so many batches of a migration were made over these contents
  pub record AreMade (n : ℕ) (contents : Contents) (old new : S) : Type 0 where
    pub made : held new ≡ Some (after_batches n contents)
    pub trailed : trail new ≡ trail_with n contents (trail old)
    pub counted : batches new ≡ count_with n (batches old)

-- ---- the answer

abbrev pub at_most_last : ℕ → ℕ
at_most_last n = min n (2 ^ 64 - 1)

abbrev pub migrated_of : Contents → Migrated
migrated_of contents = record {
  records = at_most_last (length (finite.entries contents.cells));
  rewritten = at_most_last (length (old_entries contents));
}
