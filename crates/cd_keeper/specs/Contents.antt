-- Trusted: what a keeper holds, two tables from keys to values, and what a batch makes of it. Keys and values are lists of bytes.
use Rattle.std.specs.Prelude.{ℕ, Bool, true, List, Option, Some, None, fold, find, refl}
use Rattle.std.specs.Ordering.{nat_cmp, is_lt}
use Rattle.std.specs.Cmp.Lexicographic.{slice_cmp}
use Rattle.std.specs.Coded.{Coded, coded_ℕ, coded_list, coded×, code_by}
use Rattle.std.specs.FinMap as finite

-- a table from keys, in the order of their bytes, to values
abbrev pub Table : Type 0
Table = finite.FinMap (slice_cmp nat_cmp) (List ℕ)

abbrev pub coded_table : Coded Table
coded_table = finite.code (coded_list coded_ℕ) (coded_list coded_ℕ)

-- records of cells under their hashes, and descriptions of blocks under their keys
pub record Contents : Type 0 where
  pub cells : Table
  pub descs : Table

abbrev pub coded_contents : Coded Contents
coded_contents = code_by (Table × Table) (coded× coded_table coded_table) (λ c. (c.cells, c.descs)) (λ p. record { cells = p.0; descs = p.1 }) (λ _. refl)

abbrev pub no_contents : Contents
no_contents = record { cells = finite.empty; descs = finite.empty }

-- what a batch puts and drops
pub record Change : Type 0 where
  pub put_cells : List (List ℕ × List ℕ)
  pub drop_cells : List (List ℕ)
  pub put_descs : List (List ℕ × List ℕ)
  pub drop_descs : List (List ℕ)

abbrev pub put_all : Table → List (List ℕ × List ℕ) → Table
put_all table puts = fold (λ t e. finite.insert t e.0 e.1) table puts

abbrev pub drop_all : Table → List (List ℕ) → Table
drop_all table keys = fold (λ t key. finite.remove t key) table keys

-- the contents after a change
abbrev pub changed : Change → Contents → Contents
changed change contents = record {
  cells = put_all (drop_all contents.cells change.drop_cells) change.put_cells;
  descs = put_all (drop_all contents.descs change.drop_descs) change.put_descs;
}

-- whether a key lies above a bound; each does where there is none
abbrev pub is_above : Option (List ℕ) → List ℕ → Bool
is_above None key = true
is_above (Some after) key = is_lt (slice_cmp nat_cmp after key)

-- the entry with the least key above a bound
abbrev pub next_entry : Table → Option (List ℕ) → Option (List ℕ × List ℕ)
next_entry table after = find (λ e. is_above after e.0) (finite.entries table)
