-- Trusted: the distinct cells of a tree in the order of an export, and trees without clashes of hashes.
use Rattle.std.specs.Prelude.{◌≡◌, ℕ, List, [], ◌∷◌, Contains, AllPairs}
use Rattle.std.specs.List.{flat_map}
use Rattle.std.specs.Ordering.{nat_cmp, ordering_then, match_ordering}
use Rattle.std.specs.Cmp.Lexicographic.{slice_cmp}
use Rattle.std.specs.declared.cmp.Ordering.{Ordering}
use Rattle.std.specs.declared.cmp.Ordering.TheVariants.{Less, Equal}
use Rattle.cd_base.specs.declared.hash.Hash256.{Hash256}
use Rattle.cd_cell.specs.Tree.{Tree, subtrees, face_of, rep_of, height_of}

-- hashes are ordered by their bytes
abbrev pub hash_cmp : Hash256 → Hash256 → Ordering
hash_cmp a b = slice_cmp nat_cmp a.0 b.0

-- an element put into its place of a sorted list; one that ties with an element is dropped
abbrev pub with_distinct : {A : Type 0} → (A → A → Ordering) → A → List A → List A
with_distinct cmp x [] = x ∷ []
with_distinct cmp x (y ∷ ys) = match_ordering (cmp x y) (x ∷ y ∷ ys) (y ∷ ys) (y ∷ with_distinct cmp x ys)

-- the elements in order, one of those that tie
abbrev pub sorted_distinct : {A : Type 0} → (A → A → Ordering) → List A → List A
sorted_distinct cmp [] = []
sorted_distinct cmp (x ∷ xs) = with_distinct cmp x (sorted_distinct cmp xs)

-- the same as a relation: ys are elements of xs, each before those after it, and each of xs ties with one of them
pub record AreDistinct {A : Type 0} (cmp : A → A → Ordering) (xs ys : List A) : Type 0 where
  pub ordered : AllPairs (λ a b. cmp a b ≡ Less) ys
  pub within : (y : A) → Contains ys y → Contains xs y
  pub whole : (x : A) → Contains xs x → (y : A) × Contains ys y × (cmp x y ≡ Equal)

module _ (H : List ℕ → Hash256) where
  -- the greatest height first, and then the least rep first
  abbrev pub export_cmp : Tree → Tree → Ordering
  export_cmp a b = ordering_then (nat_cmp (height_of H b) (height_of H a)) (hash_cmp (rep_of H a) (rep_of H b))

  -- the cells of a tree, one for each rep, in the order of an export
  abbrev pub distinct_cells : Tree → List Tree
  distinct_cells t = sorted_distinct export_cmp (subtrees t)

  -- any two cells of these trees with equal reps have equal faces
  abbrev pub AreClashFree : List Tree → Type 0
  AreClashFree ts = (a b : Tree) → Contains (flat_map subtrees ts) a → Contains (flat_map subtrees ts) b → rep_of H a ≡ rep_of H b → face_of H a ≡ face_of H b

  abbrev pub IsClashFree : Tree → Type 0
  IsClashFree t = AreClashFree (t ∷ [])
