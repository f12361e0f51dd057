-- Inner: how the rows of a plan that is under way change as a block comes.
use Rattle.std.specs.Prelude.{◌≡◌, ℕ, ◌+◌, ◌≤◌, nat_lt, ◌&&◌, Bool, false, not, cond, is_some, fold, List, [], Contains, Option, Some, None, IsSome, IfSome}
use Rattle.std.specs.Option.{option_map, unwrap_or}
use Rattle.std.specs.List.{flat_map, AllByRecursion}
use Rattle.std.specs.Str.{bytes_eq}
use Rattle.std.specs.Ordering.{is_eq}
use Rattle.std.specs.BTreeMap as tree
use Rattle.cd_base.specs.declared.hash.Hash256.{Hash256}
use Rattle.cd_cell.specs.declared.new_cell.NewCell.{NewCell}
use Rattle.cd_cell.specs.FaceView.{FaceView}
use Rattle.cd_cell.specs.Equality.{same_face}
use Rattle.cd_cell.specs.Fit.{IsFaceFit}
use Rattle.cd_cell.specs.Export.{hash_cmp}
use Rattle.cd_record.specs.declared.record.Record.{Record}
use Rattle.cd_record.specs.declared.limits.TheConstants.{GREATEST_COUNT}
use Rattle.cd_nodes.specs.Plans as plans
use Rattle.cd_count.specs.declared.rows.Row.{Row}
use Rattle.cd_count.specs.Changes.{Rows}
use Rattle.cd_count.specs.PlanSteps.{RowMap, first_row, kid_bytes, row_at, count_of_row, count_at, fixed_at}

-- the row of a cell of which nothing is stored
abbrev pub new_row : FaceView → Row
new_row face = record { stored = None; count = 0; face = face }

-- the row of a listed cell before anything changes
abbrev pub listed_row : Option Record → FaceView → Row
listed_row None face = new_row face
listed_row (Some r) face = first_row r

-- another face is stored than the one that is listed
abbrev pub is_another : Option Record → FaceView → Bool
is_another None offered = false
is_another (Some r) offered = not (same_face r.face offered)

-- the count of a row is over the limit, and over the one that is stored
abbrev pub rises_over : ℕ → Row → Bool
rises_over limit row = nat_lt limit row.count && nat_lt (unwrap_or row.stored 0) row.count

-- the children to which a listed cell gives references: none where it is stored already
abbrev pub due_kids : Option (Option ℕ × FaceView) → FaceView → List (List ℕ)
due_kids None face = []
due_kids (Some fixed) face = cond (is_some fixed.0) [] (kid_bytes face)

-- a row's face is a cell's, and its stored count is in range
pub record IsRowGood (row : plans.Row FaceView) : Type 0 where
  pub face : IsFaceFit row.face
  pub few : IfSome row.stored (λ n. n ≤ GREATEST_COUNT)

abbrev pub AreRowsGood : Rows → Type 0
AreRowsGood rows = AllByRecursion (λ e. IsRowGood e.1) rows

abbrev pub give_one : (List ℕ → ℕ) → List ℕ → List ℕ → ℕ
give_one counts k = λ q. cond (bytes_eq k q) (counts q + 1) (counts q)

-- a reference to a hash of which nothing is known is lost
abbrev pub give_known : (List ℕ → Bool) → (List ℕ → ℕ) → List ℕ → List ℕ → ℕ
give_known known counts k = cond (known k) (give_one counts k) counts

abbrev pub give_all : (List ℕ → Bool) → (List ℕ → ℕ) → List (List ℕ) → List ℕ → ℕ
give_all known counts ks = fold (give_known known) counts ks

module _ (stored : List ℕ → Option Record) where
  abbrev pub known_in : RowMap → List ℕ → Bool
  known_in rows hash = is_some (fixed_at stored rows hash)

  -- the listed cell has a row, and the others are as they were
  pub record IsListed (rows : RowMap) (cell : NewCell) (rows' : RowMap) : Type 0 where
    pub updates : (q : Hash256) → tree.get hash_cmp rows' q
        ≡ cond (is_eq (hash_cmp cell.hash q)) (Some (listed_row (stored cell.hash.0) cell.face)) (tree.get hash_cmp rows q)

  -- the hashes were given a reference each
  pub record AreGiven (rows : RowMap) (hashes : List (List ℕ)) (rows' : RowMap) : Type 0 where
    pub counts : count_at stored rows' ≡ give_all (known_in rows) (count_at stored rows) hashes
    pub fixed : (h : List ℕ) → fixed_at stored rows' h ≡ fixed_at stored rows h

  -- the hashes to which listed cells give references
  abbrev pub due_of : RowMap → List NewCell → List (List ℕ)
  due_of rows cells = flat_map (λ c. due_kids (fixed_at stored rows c.hash.0) c.face) cells

  -- what a row has that no step changes: the count and the face that are stored, or the face of a listed cell
  pub record IsRowRight (cells : List NewCell) (q : List ℕ) (r : Row) : Type 0 where
    pub count : r.stored ≡ option_map (λ x. x.count) (stored q)
    pub face : (x : Record) → stored q ≡ Some x → r.face ≡ x.face
    pub new : stored q ≡ None → (c : NewCell) × Contains cells c × (c.hash.0 ≡ q) × (r.face ≡ c.face)

  -- the listed cells have rows, and no count has changed yet
  pub record AreListed (cells : List NewCell) (rows : RowMap) : Type 0 where
    pub counts : (q : List ℕ) → count_at stored rows q ≡ count_of_row stored (option_map first_row (stored q))
    pub right : (q : List ℕ) (r : Row) → row_at stored rows q ≡ Some r → IsRowRight cells q r
    pub present : (c : NewCell) → Contains cells c → IsSome (tree.get hash_cmp rows c.hash)
