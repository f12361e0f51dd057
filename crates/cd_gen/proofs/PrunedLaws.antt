-- What a pruned branch of mask 1, and cells over such branches, show at level 0.
use Rattle.std.proofs.Common.{◌≡◌, ℕ, ◌+◌, ◌*◌, ◌<◌, ◌++◌, Bool, true, false, List, [], ◌∷◌, length, take, drop, ap, ap₂, ◌∙◌, refl, arith}
use Rattle.std.specs.Prelude.{nat_lt, slice_index, if◌then◌else◌, Some, None}
use Rattle.std.proofs.lemmas.List.{length-append, get_or-append_right, take_at}
use Rattle.cd_base.specs.declared.hash.Hash256.{Hash256}
use Rattle.cd_cell.specs.declared.info.ChildInfo.{ChildInfo}
use Rattle.cd_cell.specs.declared.kind.Kind.TheVariants.{Pruned}
use Rattle.cd_cell.specs.BitText.{data_of}
use Rattle.cd_cell.specs.FaceView.{FaceView}
use Rattle.cd_cell.specs.Infos.{info_hash, info_depth}
use Rattle.cd_cell.specs.Masks.{lowest_bits, bit_count}
use Rattle.cd_cell.specs.Levels.{exotic_kind, kind_of_face, is_pruned, mask_by_kind, mask_of_face, plain_hash, plain_depth, representation, info_of_face}
use Rattle.cd_cell.proofs.BitLemmas.{length-first_bits}
use Rattle.cd_gen.specs.States.{sha, bits_of}
use Rattle.cd_gen.specs.Listing.{hash_bytes, depth_bytes, at_level_0}

module _ (info : ChildInfo) (bits : List Bool) (data-is : data_of bits ≡ 1 ∷ 1 ∷ hash_bytes info ++ depth_bytes info) (long : length bits ≡ 288) (hash-long : length (hash_bytes info) ≡ 32) (depth-low : info_depth info 0 < 65536) where
  abbrev face : FaceView
  face = record { exotic = true; bits = bits; kids = [] }

  kind-is : kind_of_face face ≡ Some Pruned
  kind-is = ap₂ (λ n byte. if nat_lt n 8 then None else exotic_kind byte) long (ap (λ xs. slice_index xs 0) data-is)

  hash-is : info_hash (info_of_face sha face) 0 ≡ info_hash info 0
  hash-is =
      ap₂ (λ k xs.
      if is_pruned k
      then (if nat_lt (bit_count (lowest_bits (mask_by_kind k xs []) 0)) (bit_count (mask_by_kind k xs []))
      then (let h : Hash256 = record { 0 = take 32 (drop (2 + 32 * bit_count (lowest_bits (mask_by_kind k xs []) 0)) xs) } in h)
      else sha (representation face (mask_of_face face) (data_of bits) 0))
      else plain_hash sha face 0) kind-is data-is
      ∙ ap (λ xs. let h : Hash256 = record { 0 = xs } in h) (take_at (hash_bytes info) (depth_bytes info) 32 hash-long)

  depth-is : info_depth (info_of_face sha face) 0 ≡ info_depth info 0
  depth-is =
      ap₂ (λ k xs.
      if is_pruned k
      then (if nat_lt (bit_count (lowest_bits (mask_by_kind k xs []) 0)) (bit_count (mask_by_kind k xs []))
      then 256 * slice_index xs (2 + 32 * bit_count (mask_by_kind k xs []) + 2 * bit_count (lowest_bits (mask_by_kind k xs []) 0)) + slice_index xs (2 + 32 * bit_count (mask_by_kind k xs []) + 2 * bit_count (lowest_bits (mask_by_kind k xs []) 0) + 1)
      else 0)
      else plain_depth face 0) kind-is data-is
      ∙ stated
    where
      stated : 256 * slice_index (hash_bytes info ++ depth_bytes info) 32 + slice_index (hash_bytes info ++ depth_bytes info) 33 ≡ info_depth info 0
      stated =
          let high = get_or-append_right (hash_bytes info) (depth_bytes info) 32 32 0 hash-long (omega arith) in
          let low = get_or-append_right (hash_bytes info) (depth_bytes info) 32 33 0 hash-long (omega arith) in
          omega (arith, high, low, depth-low)

  by_bits : at_level_0 (info_of_face sha face) ≡ at_level_0 info
  by_bits = ap₂ (λ (h : Hash256) (d : ℕ). let k : ChildInfo = record { mask = 0; hashes = h ∷ h ∷ h ∷ h ∷ []; depths = d ∷ d ∷ d ∷ d ∷ [] } in k) hash-is depth-is

-- a pruned branch shows at level 0 what the cell shows in whose place it stands
pub pruned-shows : (info : ChildInfo) (text : List ℕ) (bits : List Bool) → text ≡ 1 ∷ 1 ∷ hash_bytes info ++ depth_bytes info → length text ≡ 36 → bits ≡ bits_of text → data_of bits ≡ text → info_depth info 0 < 65536
    → at_level_0 (info_of_face sha (record { exotic = true; bits = bits; kids = [] })) ≡ at_level_0 info
pruned-shows info text bits is long bits-are «data» low =
    let few = length-append (1 ∷ 1 ∷ hash_bytes info) (depth_bytes info) in
    let total = ap length is in
    by_bits info bits («data» ∙ is) (ap length bits-are ∙ length-first_bits (8 * length text) text (omega arith) ∙ ap (λ n. 8 * n) long) (omega (arith, few, total, long)) low

-- a cell over two others shows at level 0 what it shows over what those show at level 0
pub over-shows : (left right : ChildInfo) → at_level_0 (info_of_face sha (record { exotic = false; bits = []; kids = left ∷ right ∷ [] }))
    ≡ info_of_face sha (record { exotic = false; bits = []; kids = at_level_0 left ∷ at_level_0 right ∷ [] })
unfolding plain_hash plain_depth
over-shows left right = refl

-- a cell alone shows the same at each level
pub alone-shows : (bits : List Bool) → at_level_0 (info_of_face sha (record { exotic = false; bits = bits; kids = [] }))
    ≡ info_of_face sha (record { exotic = false; bits = bits; kids = [] })
unfolding plain_hash plain_depth
alone-shows bits = refl
