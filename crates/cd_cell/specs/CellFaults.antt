-- Trusted: what is wrong with a face: the first fault, in the order of the table of faults.
use Rattle.std.specs.Prelude.{ℕ, ◌+◌, ◌*◌, Bool, not, ◌&&◌, ◌||◌, [], length, slice_index, slice_index_or, ◌==◌, nat_lt, nat_le, max, if◌then◌else◌, Option, Some, None}
use Rattle.std.specs.Option.{option_or}
use Rattle.cd_cell.specs.declared.limits.TheConstants.{GREATEST_DEPTH}
use Rattle.cd_cell.specs.declared.info.ChildInfo.{ChildInfo}
use Rattle.cd_cell.specs.declared.kind.Kind.{Kind}
use Rattle.cd_cell.specs.declared.kind.Kind.TheVariants.{Ordinary, Pruned, Library, Proof, Update}
use Rattle.cd_cell.specs.declared.cell_fault.CellFault.{CellFault}
use Rattle.cd_cell.specs.declared.cell_fault.CellFault.TheVariants.{Short, KindByte, Refs, PrunedMask, Length, MerkleHash, MerkleDepth, DepthBig}
use Rattle.cd_cell.specs.Masks.{bit_count}
use Rattle.cd_cell.specs.BitText.{data_of}
use Rattle.cd_cell.specs.Infos.{info_hash, info_depth}
use Rattle.cd_cell.specs.FaceView.{FaceView}
use Rattle.cd_cell.specs.Equality.{same_hash}
use Rattle.cd_cell.specs.Levels.{exotic_kind, stated_hash, stated_depth, depth_of_face}

-- what shows nothing, in the place of a child that isn't there
abbrev pub no_info : ChildInfo
no_info = record { mask = 0; hashes = []; depths = [] }

abbrev pub kid_at : FaceView → ℕ → ChildInfo
kid_at f place = slice_index_or f.kids place no_info

-- the first byte of the data is a kind's type; the second a pruned branch's mask
abbrev pub first_byte : FaceView → ℕ
first_byte f = slice_index (data_of f.bits) 0

abbrev pub second_byte : FaceView → ℕ
second_byte f = slice_index (data_of f.bits) 1

-- the number of references of an exotic kind
abbrev pub refs_of_kind : Kind → ℕ
refs_of_kind Ordinary = 0
refs_of_kind Pruned = 0
refs_of_kind Library = 0
refs_of_kind Proof = 1
refs_of_kind Update = 2

-- the number of bits of an exotic kind, by the mask that a pruned branch states
abbrev pub bits_of_kind : Kind → ℕ → ℕ
bits_of_kind Ordinary mask = 0
bits_of_kind Pruned mask = 16 + 272 * bit_count mask
bits_of_kind Library mask = 264
bits_of_kind Proof mask = 280
bits_of_kind Update mask = 552

-- the fault, where the test fails
abbrev pub unless : Bool → CellFault → Option CellFault
unless holds fault = if holds then None else Some fault

-- a Merkle cell states its child's hash at level 0, and its depth
abbrev pub states_hash : FaceView → ℕ → Bool
states_hash f place = same_hash (stated_hash f (1 + 32 * place)) (info_hash (kid_at f place) 0)

abbrev pub hash_fault : FaceView → ℕ → Option CellFault
hash_fault f place = unless (states_hash f place) (MerkleHash place)

abbrev pub stated_depth_of_kid : FaceView → ℕ → ℕ
stated_depth_of_kid f place = stated_depth f (1 + 32 * length f.kids + 2 * place)

abbrev pub depth_fault : FaceView → ℕ → Option CellFault
depth_fault f place = unless (stated_depth_of_kid f place == info_depth (kid_at f place) 0) (MerkleDepth place)

-- what a kind wants of the data besides their length
abbrev pub mask_fault : Kind → FaceView → Option CellFault
mask_fault Pruned f = unless (nat_lt (length f.bits) 16 || (nat_le 1 (second_byte f) && nat_le (second_byte f) 7)) (PrunedMask (second_byte f))
mask_fault _ f = None

abbrev pub merkle_fault : Kind → FaceView → Option CellFault
merkle_fault Proof f = option_or (hash_fault f 0) (depth_fault f 0)
merkle_fault Update f = option_or (option_or (hash_fault f 0) (hash_fault f 1)) (option_or (depth_fault f 0) (depth_fault f 1))
merkle_fault _ f = None

abbrev pub refs_fault : ℕ → FaceView → Option CellFault
refs_fault due f = unless (length f.kids == due) (Refs (length f.kids))

abbrev pub bits_fault : ℕ → FaceView → Option CellFault
bits_fault due f = unless (length f.bits == due) (Length (length f.bits))

-- the faults of an exotic cell of a known kind, but for its depth
abbrev pub exotic_fault : Kind → FaceView → Option CellFault
exotic_fault kind f =
    option_or (refs_fault (refs_of_kind kind) f)
    (option_or (mask_fault kind f)
    (option_or (bits_fault (bits_of_kind kind (second_byte f)) f)
    (merkle_fault kind f)))

abbrev pub fault_of_kind : Option Kind → FaceView → Option CellFault
fault_of_kind None f = Some (KindByte (first_byte f))
fault_of_kind (Some kind) f = exotic_fault kind f

abbrev pub form_fault : FaceView → Option CellFault
form_fault f =
    if not f.exotic then None
    else if nat_lt (length f.bits) 8 then Some Short
    else fault_of_kind (exotic_kind (first_byte f)) f

-- the greatest depth over the four levels
abbrev pub greatest_depth : FaceView → ℕ
greatest_depth f = max (max (depth_of_face f 0) (depth_of_face f 1)) (max (depth_of_face f 2) (depth_of_face f 3))

-- the first fault of a face, if there is one
abbrev pub face_fault : FaceView → Option CellFault
face_fault f = option_or (form_fault f) (unless (nat_le (greatest_depth f) GREATEST_DEPTH) (DepthBig (greatest_depth f)))
