-- Trusted: the least hash under which two different faces stand.
use Rattle.std.specs.Prelude.{ℕ, Bool, not, ◌&&◌, List, [], ◌∷◌, map, Option, Some, None}
use Rattle.std.specs.List.{filter, list_any}
use Rattle.std.specs.Ordering.{match_ordering}
use Rattle.cd_base.specs.declared.hash.Hash256.{Hash256}
use Rattle.cd_cell.specs.FaceView.{FaceView}
use Rattle.cd_cell.specs.Levels.{rep_of_face}
use Rattle.cd_cell.specs.Equality.{same_hash, same_face}
use Rattle.cd_cell.specs.Export.{hash_cmp}

-- of some hashes the least
abbrev pub lesser : Hash256 → Option Hash256 → Hash256
lesser a None = a
lesser a (Some b) = match_ordering (hash_cmp a b) a a b

abbrev pub least_hash : List Hash256 → Option Hash256
least_hash [] = None
least_hash (hash ∷ hashes) = Some (lesser hash (least_hash hashes))

-- a face, behind the hash that is given for it
abbrev pub HashedFace : Type 0
HashedFace = Hash256 × FaceView

-- two different faces under one hash
abbrev pub is_clash : HashedFace → HashedFace → Bool
is_clash a b = same_hash a.0 b.0 && not (same_face a.1 b.1)

-- the least hash under which two different faces stand
abbrev pub clash_among : List HashedFace → Option Hash256
clash_among fs = least_hash (map (λ f. f.0) (filter (λ f. list_any (is_clash f) fs) fs))

module _ (H : List ℕ → Hash256) where
  -- a face behind its cell's representation hash
  abbrev pub with_rep : FaceView → HashedFace
  with_rep f = (rep_of_face H f, f)

  -- the least representation hash that two different cells have
  abbrev pub clash_of : List FaceView → Option Hash256
  clash_of fs = clash_among (map with_rep fs)
