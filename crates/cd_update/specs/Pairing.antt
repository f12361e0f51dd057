-- Trusted: an old half beside the faces that were found for its wanted hashes.
use Rattle.std.specs.Prelude.{◌≡◌, ℕ, min, ◌≤◌, ◌==◌, if◌then◌else◌, List, [], ◌∷◌, Contains, Option, Some, None, drop}
use Rattle.std.specs.List.{flat_map}
use Rattle.std.specs.Option.{option_or, option_map, option_to_list}
use Rattle.cd_base.specs.declared.hash.Hash256.{Hash256}
use Rattle.cd_cell.specs.declared.info.ChildInfo.{ChildInfo}
use Rattle.cd_cell.specs.Masks.{lowest_bits}
use Rattle.cd_cell.specs.Infos.{info_hash, info_depth}
use Rattle.cd_cell.specs.FaceView.{FaceView}
use Rattle.cd_cell.specs.Levels.{stated_hash}
use Rattle.cd_cell.specs.CellFaults.{stated_depth_of_kid}
use Rattle.cd_cell.specs.Steady.{IsSteady}
use Rattle.cd_cell.specs.Tree.{Tree, subtrees, info_of, face_of, hash_at, depth_at, rep_of, mask_of, IsWellFormed}
use Rattle.cd_cell.specs.Equality.{same_hash, same_info}
use Rattle.cd_cell.specs.Export.{IsClashFree}
use Rattle.cd_cell.specs.Updates.{agrees, is_hidden, Misfit, UpdateRefusal, old_hash, old_depth, old_half, some_unless, half_of, wanted, hash_refusal, depth_refusal, half_refusal}
use Rattle.cd_update.specs.EachOnce.{each_once, first_of}
use Rattle.cd_cell.specs.Places.{Place, places}

-- what a cell without a level above d shows, by what a cell shows that matches it up to d
abbrev pub upto : ℕ → ChildInfo → ChildInfo
upto d k = record {
  mask = lowest_bits k.mask d;
  hashes = info_hash k 0 ∷ info_hash k (min d 1) ∷ info_hash k (min d 2) ∷ info_hash k (min d 3) ∷ [];
  depths = info_depth k 0 ∷ info_depth k (min d 1) ∷ info_depth k (min d 2) ∷ info_depth k (min d 3) ∷ [];
}

-- what an old cell may show: at a level that isn't significant, what it shows at the level below
pub record IsOldInfo (k : ChildInfo) : Type 0 where
  pub whole : k ≡ upto 3 k
  pub steady : IsSteady k
  pub low : (l : ℕ) → l ≤ 3 → info_depth k l ≤ 1024

-- the face that stands beside a hash
abbrev pub beside : List Hash256 → List (Option FaceView) → Hash256 → Option FaceView
beside [] fs hash = None
beside (w ∷ ws) [] hash = None
beside (w ∷ ws) (f ∷ fs) hash = if same_hash w hash then f else beside ws fs hash

-- a shown face and what was found for it, where they don't agree; where nothing was found it stands in both places
abbrev pub unlike : ℕ → Hash256 → Option FaceView → FaceView → Option Misfit
unlike d hash None shown = Some (record { hash = hash; stored = shown; shown = shown })
unlike d hash (Some stored) shown = some_unless (agrees d stored shown) (record { hash = hash; stored = stored; shown = shown })

-- an old root of another hash or depth than those that are stated
abbrev pub root_refusal : Hash256 → ℕ → ChildInfo → Option UpdateRefusal
root_refusal hash depth root =
    option_or (some_unless (same_hash hash (info_hash root 0)) (old_hash hash (info_hash root 0)))
    (some_unless (depth == info_depth root 0) (old_depth depth (info_depth root 0)))

module _ (H : List ℕ → Hash256) where
  -- the hash by which the face of a cell is found, where the cell is shown
  abbrev pub visible_hash : Place → Option Hash256
  visible_hash p = if is_hidden p.depth (face_of H p.tree) then None else Some (hash_at H p.tree p.depth)

  abbrev pub wanted_at : Place → List Hash256
  wanted_at p = option_to_list (visible_hash p)

  -- what the old cell in a place shows, where it matches
  abbrev pub known_at : Place → List ChildInfo
  known_at p = upto p.depth (info_of H p.tree) ∷ []

  -- what is known of the old cells that an old half meets, in preorder, each once
  abbrev pub met_infos : Tree → List ChildInfo
  met_infos half = each_once same_info (flat_map known_at (places H half 0))

  module _ (look : Hash256 → Option FaceView) where
    abbrev pub misfit_at : Place → Option Misfit
    misfit_at p =
        let shown = face_of H p.tree in
        if is_hidden p.depth shown then None else unlike p.depth (hash_at H p.tree p.depth) (look (hash_at H p.tree p.depth)) shown

    -- the first cell of an old half, in preorder, that doesn't agree with what was found for it
    abbrev pub first_misfit : Tree → Option Misfit
    first_misfit half = first_of misfit_at (places H half 0)

  -- the first of some places that doesn't agree with the face beside its hash
  abbrev pub misfit_among : List Place → List (Option FaceView) → Option Misfit
  misfit_among ps faces = first_of (misfit_at (beside (each_once same_hash (flat_map wanted_at ps)) faces)) ps

  -- an old root beside the hash and the depth of a half
  abbrev pub half_root_refusal : Tree → ChildInfo → Option UpdateRefusal
  half_root_refusal half root = root_refusal (hash_at H half 0) (depth_at H half 0) root

  -- the hashes of the cells that an update shows of the old tree, each once
  abbrev pub wanted_hashes : Tree → List Hash256
  wanted_hashes u = each_once same_hash (wanted H (half_of u 0) 0)

  -- the same of the cells below the old half's root
  abbrev pub wanted_hashes_below : Tree → List Hash256
  wanted_hashes_below u = each_once same_hash (flat_map wanted_at (drop 1 (places H (half_of u 0) 0)))

  -- why an update isn't paired with an old root and the faces beside its wanted hashes
  abbrev pub pair_refusal : Tree → ChildInfo → List (Option FaceView) → Option UpdateRefusal
  pair_refusal u root faces =
      option_or (root_refusal (stated_hash (face_of H u) 1) (stated_depth_of_kid (face_of H u) 0) root)
      (option_map old_half (first_misfit (beside (wanted_hashes u) faces) (half_of u 0)))

  -- the same by an old tree
  abbrev pub tree_refusal : Tree → Tree → Option UpdateRefusal
  tree_refusal u t = option_or (hash_refusal H u t) (option_or (depth_refusal H u t) (half_refusal H u t))

  -- the root and the faces are those of an old tree: beside each wanted hash that is the rep of a subtree stands its face
  pub record AreOf (t u : Tree) (root : ChildInfo) (faces : List (Option FaceView)) : Type 0 where
    pub well : IsWellFormed H t
    pub clear : IsClashFree H t
    pub plain : mask_of H t ≡ 0
    pub top : root ≡ info_of H t
    pub found : (s : Tree) → Contains (subtrees t) s → Contains (wanted_hashes u) (rep_of H s) → beside (wanted_hashes u) faces (rep_of H s) ≡ Some (face_of H s)
