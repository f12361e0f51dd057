-- Trusted: the lines that the commands print.
use Rattle.std.specs.Prelude.{ℕ, List, ◌++◌, codes}
use Rattle.std.specs.Fmt.{decimal}
use Rattle.cd_migrate.specs.declared.migrated.Migrated.{Migrated}

-- how many blocks, distinct cells and references to cells a store holds
unfoldable pub totals_text : ℕ → ℕ → ℕ → List ℕ
totals_text blocks cells counts = codes "blocks " ++ decimal blocks ++ codes "\ncells " ++ decimal cells
    ++ codes "\ncounts " ++ decimal counts ++ codes "\n"

-- how many records a migration went over, and how many of these it rewrote
unfoldable pub migrated_text : Migrated → List ℕ
migrated_text done = codes "records " ++ decimal done.records ++ codes "\nrewritten " ++ decimal done.rewritten ++ codes "\n"
