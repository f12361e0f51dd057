-- Trusted: where a path leads in a tree.
use Rattle.std.specs.Prelude.{◌≡◌, ◌<◌, ◌+◌, ℕ, List, [], ◌∷◌, length, take, slice_get, Option, Some, None, IsSome, Result, Ok, Err, Bool, false}
use Rattle.std.specs.Option.{option_and_then}
use Rattle.cd_base.specs.declared.hash.Hash256.{Hash256}
use Rattle.cd_cell.specs.FaceView.{FaceView}
use Rattle.cd_cell.specs.Tree.{Tree, children, face_of}
use Rattle.cd_event.specs.Replies.{look_reply}
use Rattle.cd_event.specs.Turning.{is_keeper}
use Rattle.cd_reader.specs.declared.walk_fault.WalkFault.{WalkFault}
use Rattle.cd_reader.specs.declared.walk_fault.WalkFault.TheVariants.{NoChild, Look, Memory}

-- the cell to which a path of places leads, from the root down
abbrev pub cell_along : List ℕ → Tree → Option Tree
cell_along [] t = Some t
cell_along (place ∷ places) t = option_and_then (cell_along places) (slice_get (children t) place)

-- the first place of a path that has no child
pub record IsFirstMissing (path : List ℕ) (t : Tree) (at : ℕ) : Type 0 where
  pub there : at < length path
  pub before : IsSome (cell_along (take at path) t)
  pub missing : cell_along (take (at + 1) path) t ≡ None

module _ (digest : List ℕ → Hash256) where
  -- the face of the cell to which a path leads, or the first place without a child; other faults say nothing
  abbrev pub WalksTo : Tree → List ℕ → Result FaceView WalkFault → Type 0
  WalksTo t path (Ok face) = (s : Tree) × (cell_along path t ≡ Some s) × (face ≡ face_of digest s)
  WalksTo t path (Err (NoChild at)) = IsFirstMissing path t at
  WalksTo t path (Err (Look fault)) = Unit {0}
  WalksTo t path (Err Memory) = Unit {0}

-- whether a look of the walk failed
abbrev pub is_walk_failed : {A : Type 0} → Result A WalkFault → Bool
is_walk_failed (Err (Look fault)) = is_keeper (look_reply {A = Unit {0}} (Err fault))
is_walk_failed _ = false
