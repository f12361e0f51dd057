-- Trusted: the trees that a keeper's contents tell: those that the blocks' roots unfold to.
use Rattle.std.specs.Prelude.{ℕ, zero, suc, List, map, Option, Some, None, Result, Ok, Err}
use Rattle.std.specs.Option.{option_and_then}
use Rattle.std.specs.FinMap as finite
use Rattle.cd_base.specs.declared.hash.Hash256.{Hash256}
use Rattle.cd_block.specs.declared.description.Descr.{Descr}
use Rattle.cd_cell.specs.FaceView.{FaceView}
use Rattle.cd_cell.specs.Infos.{rep_of_info}
use Rattle.cd_cell.specs.Tree.{Tree, cell, trees_of}
use Rattle.cd_cell.specs.Unfolding.{no_tree}
use Rattle.cd_record.specs.declared.record.Record.{Record}
use Rattle.cd_record.specs.declared.record_fault.RecordFault.{RecordFault}
use Rattle.cd_record.specs.RecordReading.{record_in}
use Rattle.cd_keeper.specs.Contents.{Contents}
use Rattle.cd_world.specs.declared.world.World.{World}
use Rattle.cd_world.specs.Standing.{block_at}
use Rattle.cd_world.specs.Told.{ToldWorld}

abbrev pub face_read : Result Record RecordFault → Option FaceView
face_read (Ok r) = Some r.face
face_read (Err e) = None

-- the face under a hash
abbrev pub face_in : Contents → List ℕ → Option FaceView
face_in contents hash = option_and_then (λ bytes. face_read (record_in bytes)) (finite.get contents.cells hash)

-- a face with the trees below it
abbrev pub over : Option FaceView → (List Tree) → Tree
over None ts = no_tree
over (Some f) ts = cell f.exotic f.bits (trees_of ts)

abbrev pub kids_of : Option FaceView → List Hash256
kids_of None = List.[]
kids_of (Some f) = map rep_of_info f.kids

-- the tree under a hash, down to so many levels
unfoldable pub tree_in : Contents → ℕ → Hash256 → Tree
tree_in contents zero hash = no_tree
tree_in contents (suc levels) hash =
    over (face_in contents hash.0) (map (tree_in contents levels) (kids_of (face_in contents hash.0)))

-- a tree has at most 1025 levels
abbrev pub state_in : Contents → Option Descr → Tree
state_in contents None = no_tree
state_in contents (Some d) = tree_in contents 1025 d.root

-- a world with the trees that some contents tell
abbrev pub told_in : Contents → World → ToldWorld
told_in contents w = record { world = w; state = λ id. state_in contents (block_at w id) }
