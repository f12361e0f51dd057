-- Trusted: the text of a stored cell's record, under the cell's hash, in two versions.
use Rattle.std.specs.Prelude.{ℕ, List, ◌∷◌, ◌++◌}
use Rattle.std.specs.List.{flat_map}
use Rattle.cd_base.specs.Numbers.{big}
use Rattle.cd_cell.specs.declared.info.ChildInfo.{ChildInfo}
use Rattle.cd_cell.specs.BitText.{data_of}
use Rattle.cd_cell.specs.StoredText.{stored_hashes, stored_depths}
use Rattle.cd_cell.specs.FaceView.{FaceView}
use Rattle.cd_cell.specs.Levels.{mask_of_face, descriptor1, descriptor2}

-- a child: its mask, then its hashes at the significant levels, and then its depths
unfoldable pub kid_text : ChildInfo → List ℕ
kid_text k = k.mask ∷ stored_hashes k ++ stored_depths k

-- the cell's descriptors and data, and its children
unfoldable pub face_text : FaceView → List ℕ
face_text face =
    descriptor1 face (mask_of_face face) ∷ descriptor2 face.bits ∷ data_of face.bits ++ flat_map kid_text face.kids

-- version 2, which is written: eight bytes of count, and the face
unfoldable pub record_text : ℕ → FaceView → List ℕ
record_text count face = 2 ∷ big 8 count ++ face_text face

-- version 1, which is read beside it: four bytes of count, and the face
unfoldable pub record_text_v1 : ℕ → FaceView → List ℕ
record_text_v1 count face = 1 ∷ big 4 count ++ face_text face
