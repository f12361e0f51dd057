-- Inner: how the rows of a plan that is under way stand to what is stored.
use Rattle.std.specs.Prelude.{◌≡◌, ℕ, cond, nat_eq, List, [], ◌∷◌, ◌++◌, map, Option, Some, None}
use Rattle.std.specs.Option.{option_map, option_or}
use Rattle.std.specs.Str.{bytes_eq}
use Rattle.std.specs.BTreeMap as tree
use Rattle.cd_base.specs.declared.hash.Hash256.{Hash256}
use Rattle.cd_cell.specs.FaceView.{FaceView}
use Rattle.cd_cell.specs.Infos.{rep_of_info}
use Rattle.cd_cell.specs.Export.{hash_cmp}
use Rattle.cd_keeper.specs.Shown.{hash_bytes}
use Rattle.cd_record.specs.declared.record.Record.{Record}
use Rattle.cd_nodes.specs.Worklists.{Left, take_one, take_all}
use Rattle.cd_count.specs.declared.rows.Row.{Row}

abbrev pub RowMap : Type 0
RowMap = tree.BTreeMap Hash256 Row

-- the row that a record begins with
abbrev pub first_row : Record → Row
first_row r = record { stored = Some r.count; count = r.count; face = r.face }

abbrev pub fixed_part : Row → Option ℕ × FaceView
fixed_part r = (r.stored, r.face)

-- the hashes of a face's children, as bytes
abbrev pub kid_bytes : FaceView → List (List ℕ)
kid_bytes face = map hash_bytes (map rep_of_info face.kids)

abbrev pub with_last : ℕ → List Hash256 → Hash256 → List Hash256
with_last count dead hash = cond (nat_eq count 1) (dead ++ hash ∷ []) dead

module _ (stored : List ℕ → Option Record) where
  -- the row of a hash: the plan's, else the one that its record begins with
  abbrev pub row_at : RowMap → List ℕ → Option Row
  row_at rows hash = option_or (tree.get hash_cmp rows (record { 0 = hash })) (option_map first_row (stored hash))

  abbrev pub count_of_row : Option Row → ℕ
  count_of_row None = 0
  count_of_row (Some r) = r.count

  abbrev pub count_at : RowMap → List ℕ → ℕ
  count_at rows hash = count_of_row (row_at rows hash)

  -- what no step changes of a row
  abbrev pub fixed_at : RowMap → List ℕ → Option (Option ℕ × FaceView)
  fixed_at rows hash = option_map fixed_part (row_at rows hash)

  abbrev pub left_in : RowMap → List Hash256 → Left (List ℕ)
  left_in rows dead = record { counts = count_at rows; dead = map hash_bytes dead }

  -- one reference to a hash was taken away
  pub record IsTaken (rows : RowMap) (dead : List Hash256) (hash : List ℕ) (rows' : RowMap) (dead' : List Hash256)
      : Type 0 where
    pub left : left_in rows' dead' ≡ take_one bytes_eq (left_in rows dead) hash
    pub fixed : (h : List ℕ) → fixed_at rows' h ≡ fixed_at rows h

  -- one reference to each of some hashes was
  pub record AreTaken (rows : RowMap) (dead : List Hash256) (hashes : List (List ℕ)) (rows' : RowMap) (dead' : List Hash256)
      : Type 0 where
    pub left : left_in rows' dead' ≡ take_all bytes_eq (left_in rows dead) hashes
    pub fixed : (h : List ℕ) → fixed_at rows' h ≡ fixed_at rows h
