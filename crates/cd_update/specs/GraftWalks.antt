-- Inner: what a graft works on, in words over the whole of it.
use Rattle.std.specs.Prelude.{◌≡◌, ℕ, ◌+◌, List, false}
use Rattle.cd_base.specs.declared.hash.Hash256.{Hash256}
use Rattle.cd_cell.specs.declared.digest.Hash32.{Ghosts}
use Rattle.cd_cell.specs.declared.info.ChildInfo.{ChildInfo}
use Rattle.cd_cell.specs.FaceView.{FaceView}
use Rattle.cd_cell.specs.Tree.{Tree}
use Rattle.cd_cell.specs.Bags.{face_at, bag_tree}
use Rattle.cd_cell.specs.Updates.{is_hidden}
use Rattle.cd_update.specs.declared.visit.Node.{Node}
use Rattle.cd_update.specs.declared.visit.Visit.{Visit}
use Rattle.cd_update.specs.declared.grafting.HalfGraft.{HalfGraft}
use Rattle.cd_cell.specs.Places.{Place}
use Rattle.cd_update.specs.Visits.{spot, visited}
use Rattle.cd_update.specs.Grafts.{grafted_info, grafted_face, own_faces_at}
use Rattle.cd_update.specs.EachOnce.{each_once}
use Rattle.cd_cell.specs.Equality.{same_face}
use Rattle.cd_update.specs.GraftSteps.{AreGrafted}

module _ {D : Type 0} {g : Ghosts D} where
  abbrev pub visits_of : HalfGraft D g → List Visit
  visits_of it = it.half.walk.visits.items

  abbrev pub tree_at : HalfGraft D g → Node → Tree
  tree_at it n = bag_tree it.half.bag.now n.entry

  abbrev pub face_in : HalfGraft D g → Node → FaceView
  face_in it n = face_at it.half.bag.now.cells n.entry

  abbrev pub places_of : HalfGraft D g → List Place
  places_of it = visited it.half.bag.now (visits_of it)

  -- the cell isn't hidden
  abbrev pub IsVisible : HalfGraft D g → Node → Type 0
  IsVisible it n = is_hidden n.depth (face_in it n) ≡ false

  module _ (H : List ℕ → Hash256) where
    -- the own faces of the visits, each once
    abbrev pub met_faces : HalfGraft D g → List FaceView
    met_faces it = each_once same_face (own_faces_at H it.known.now.infos (places_of it))

    -- what the graft of a node's cell shows, and its face where it is visible
    abbrev pub new_info_at : HalfGraft D g → Node → ChildInfo
    new_info_at it n = grafted_info H it.known.now.infos (tree_at it n) n.depth

    abbrev pub new_face_at : HalfGraft D g → Node → FaceView
    new_face_at it n = grafted_face H it.known.now.infos (tree_at it n) n.depth

    -- these infos are those of the visits from a spot on
    abbrev pub AreDone : HalfGraft D g → ℕ → List ChildInfo → Type 0
    AreDone it from infos = AreGrafted H it.known.now.infos it.half.bag.now (visits_of it) from infos

    -- those behind a node are done: its children are among them
    abbrev pub AreDoneBehind : HalfGraft D g → Node → List ChildInfo → Type 0
    AreDoneBehind it n infos = AreDone it (spot n + 1) infos
