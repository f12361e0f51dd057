-- Inner: the search for two different cells of one hash, by sorted pairs of a hash and a cell's number.
use Rattle.std.specs.Prelude.{◌≡◌, ◌≢◌, ℕ, ◌+◌, ◌<◌, List, [], ◌∷◌, length, slice_index_or}
use Rattle.std.specs.List.{AllAdjacentBelow}
use Rattle.cd_base.specs.declared.hash.Hash256.{Hash256}
use Rattle.cd_cell.specs.FaceView.{FaceView}
use Rattle.cd_cell.specs.Infos.{no_hash}
use Rattle.cd_cell.specs.Bags.{face_at}

abbrev pub NumberedHash : Type 0
NumberedHash = Hash256 × ℕ

-- items by their hashes, each with its number, of which the first is this one
abbrev pub numbered_from : {A : Type 0} → (A → Hash256) → ℕ → List A → List NumberedHash
numbered_from hash_of number [] = []
numbered_from hash_of number (x ∷ xs) = (hash_of x, number) ∷ numbered_from hash_of (number + 1) xs

-- two cells of one hash have one face
abbrev pub Agree : List FaceView → NumberedHash → NumberedHash → Type 0
Agree faces a b = a.0 ≡ b.0 → face_at faces a.1 ≡ face_at faces b.1

-- the first keys agree, each with the next one
abbrev pub AllAgree : List FaceView → List NumberedHash → ℕ → Type 0
AllAgree faces keys high = AllAdjacentBelow (Agree faces) keys high

abbrev pub no_numbered : NumberedHash
no_numbered = (no_hash, 0)

abbrev pub numbered_at : List NumberedHash → ℕ → NumberedHash
numbered_at keys place = slice_index_or keys place no_numbered

-- the hash of the first two neighbours that don't agree
pub record IsFirstClash (faces : List FaceView) (keys : List NumberedHash) (hash : Hash256) : Type 0 where
  pub place : ℕ
  pub there : place + 1 < length keys
  pub before : AllAgree faces keys (place + 1)
  pub left : (numbered_at keys place).0 ≡ hash
  pub right : (numbered_at keys (place + 1)).0 ≡ hash
  pub differ : face_at faces (numbered_at keys place).1 ≢ face_at faces (numbered_at keys (place + 1)).1
