-- Trusted: the cells that a reader holds, the last used first.
use Rattle.std.specs.Prelude.{ℕ, List, ◌∷◌, ◌≡◌, ◌⊎◌, take, All, Option, Some, None}
use Rattle.std.specs.Map.{lookup, remove_entry}
use Rattle.lru.specs.LruCache.{LruCache}
use Rattle.cd_base.specs.declared.hash.Hash256.{Hash256}
use Rattle.cd_cell.specs.FaceView.{FaceView}
use Rattle.cd_cell.specs.Equality.{same_hash}
use Rattle.cd_cell.specs.GoodFace.{IsGoodFace}
use Rattle.cd_cell.specs.Tree.{Tree}
use Rattle.cd_looks.specs.Answers.{IsFaceAt, empty_face}

-- the face that is held under a hash
abbrev pub held_at : List (Hash256 × FaceView) → Hash256 → Option FaceView
held_at held hash = lookup (same_hash hash) held

-- after a load that found a face its hash stands first, the others follow in their order, and the last ones over the room go
abbrev pub held_after : Hash256 → Option FaceView → ℕ → List (Hash256 × FaceView) → List (Hash256 × FaceView)
held_after hash None room held = held
held_after hash (Some face) room held = take room ((hash, face) ∷ remove_entry (same_hash hash) held)

-- each face passes the check
abbrev pub AreGoodCells : List (Hash256 × FaceView) → Type 0
AreGoodCells held = All (λ e. IsGoodFace e.1) held

-- each face is that of the cell with its hash, where the state is told
abbrev pub AreCellsOf : (List ℕ → Hash256) → Option Tree → List (Hash256 × FaceView) → Type 0
AreCellsOf digest told held = All (λ e. IsFaceAt digest told e.0 e.1) held

-- a load found this face, or none, which counts as that of the empty cell
abbrev pub IsVisited : Hash256 → FaceView → LruCache Hash256 FaceView → LruCache Hash256 FaceView → Type 0
IsVisited hash face old new =
    (new.entries ≡ held_after hash (Some face) old.cap old.entries) ⊎ ((face ≡ empty_face) × (new.entries ≡ old.entries))
