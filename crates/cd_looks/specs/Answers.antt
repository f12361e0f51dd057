-- Trusted: what looks answer of the cells of a state, where the state is told.
use Rattle.std.specs.Prelude.{◌≡◌, ◌≤◌, ℕ, false, List, [], Contains, Option, Some}
use Rattle.std.specs.Option.{unwrap_or}
use Rattle.cd_base.specs.declared.hash.Hash256.{Hash256}
use Rattle.cd_cell.specs.declared.info.ChildInfo.{ChildInfo}
use Rattle.cd_cell.specs.FaceView.{FaceView}
use Rattle.cd_cell.specs.Tree.{Tree, subtrees, rep_of, face_of, info_of}
use Rattle.cd_event.specs.Turning.{counted}

module _ (digest : List ℕ → Hash256) where
  -- the face of each cell of the state that has this hash
  abbrev pub IsFaceAt : Option Tree → Hash256 → FaceView → Type 0
  IsFaceAt told hash face = (t s : Tree) → told ≡ Some t → Contains (subtrees t) s → rep_of digest s ≡ hash → face ≡ face_of digest s

  -- such a face, which is there for each such cell
  abbrev pub IsFoundAt : Option Tree → Hash256 → Option FaceView → Type 0
  IsFoundAt told hash found = (t s : Tree) → told ≡ Some t → Contains (subtrees t) s → rep_of digest s ≡ hash → found ≡ Some (face_of digest s)

  -- the face of the state's root
  abbrev pub IsRootFace : Option Tree → FaceView → Type 0
  IsRootFace told face = (t : Tree) → told ≡ Some t → face ≡ face_of digest t

  -- what the root of the state shows
  abbrev pub IsRootOf : Option Tree → ChildInfo → Type 0
  IsRootOf told root = (t : Tree) → told ≡ Some t → root ≡ info_of digest t

-- the ordinary cell without bits and references
abbrev pub empty_face : FaceView
empty_face = record { exotic = false; bits = []; kids = [] }

-- a face that isn't given counts as that of the empty cell
abbrev pub face_or_empty : Option FaceView → FaceView
face_or_empty found = unwrap_or found empty_face

-- so many hashes were asked, or fewer
abbrev pub AskedAtMost : ℕ → ℕ → ℕ → Type 0
AskedAtMost count before now = (before ≤ now) × (now ≤ counted before count)
