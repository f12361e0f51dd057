-- Small updates and joined trees, computed with a weak hash: 31 zero bytes and the sum of the bytes modulo 256.
use Rattle.std.proofs.Common.{◌≡◌, ℕ, ◌%◌, Bool, true, false, List, [], ◌∷◌, ◌++◌, replicate, sum, flat_map, Ok, Err, refl}
use Rattle.cd_base.specs.declared.hash.Hash256.{Hash256}
use Rattle.cd_cell.specs.BitText.{packed, bits_of_byte}
use Rattle.cd_cell.specs.Levels.{plain_hash, plain_depth}
use Rattle.cd_cell.specs.Tree.{Tree, cell, Trees, no_trees, tree_and, face_of, rep_of, height_of}
use Rattle.cd_cell.specs.Joined.{joined_tree}
use Rattle.cd_cell.specs.Updates.{same_upto, applied, new_cells, foreign, old_half, old_hash}

abbrev weak_text : ℕ → List ℕ
weak_text n = replicate 31 0 ++ n ∷ []

abbrev weak_hash : ℕ → Hash256
weak_hash n = record { 0 = weak_text n }

abbrev weak : List ℕ → Hash256
weak bytes = weak_hash (sum bytes % 256)

abbrev bits_of : List ℕ → List Bool
bits_of bytes = flat_map bits_of_byte bytes

-- an ordinary cell of bytes
abbrev plain : List ℕ → Trees → Tree
plain bytes ts = cell false (bits_of bytes) ts

-- a pruned branch of level 1 for a cell of this hash and depth
abbrev hidden : ℕ → ℕ → Tree
hidden hash depth = cell true (bits_of (1 ∷ 1 ∷ weak_text hash ++ 0 ∷ depth ∷ [])) no_trees

-- an update that states these hashes and depths
abbrev update : ℕ → ℕ → ℕ → ℕ → Tree → Tree → Tree
update old new old_depth new_depth before after =
    cell true (bits_of (4 ∷ weak_text old ++ weak_text new ++ 0 ∷ old_depth ∷ 0 ∷ new_depth ∷ [])) (tree_and before (tree_and after no_trees))

abbrev root : Tree
root = plain (1 ∷ []) no_trees

root-hash : rep_of weak root ≡ weak_hash 3
unfolding packed plain_hash
root-hash = refl

-- an update that changes nothing has no new cell
abbrev standstill : Tree
standstill = update 3 3 0 0 (hidden 3 0) (hidden 3 0)

standstill-applied : applied weak standstill root ≡ Ok root
unfolding packed plain_hash plain_depth same_upto
standstill-applied = refl

standstill-new : new_cells weak standstill root ≡ []
unfolding packed plain_hash plain_depth same_upto
standstill-new = refl

-- over a root of another hash it isn't applied
standstill-other : applied weak standstill (plain (5 ∷ []) no_trees) ≡ Err (old_hash (weak_hash 3) (weak_hash 7))
unfolding packed plain_hash plain_depth same_upto
standstill-other = refl

-- an update that puts one cell in the root's place
abbrev other_root : Tree
other_root = plain (16 ∷ []) no_trees

one_cell-applied : applied weak (update 3 18 0 0 (hidden 3 0) other_root) root ≡ Ok other_root
unfolding packed plain_hash plain_depth same_upto
one_cell-applied = refl

one_cell-new : new_cells weak (update 3 18 0 0 (hidden 3 0) other_root) root ≡ other_root ∷ []
unfolding packed plain_hash plain_depth same_upto
one_cell-new = refl

-- an update that keeps a cell below a new root: the old half shows the root and hides its child
abbrev child : Tree
child = plain (32 ∷ []) no_trees

abbrev parent : Tree
parent = plain (16 ∷ []) (tree_and child no_trees)

abbrev new_parent : Trees → Tree
new_parent ts = plain (17 ∷ []) ts

kept_child-applied : applied weak (update 53 54 1 1 (plain (16 ∷ []) (tree_and (hidden 34 0) no_trees)) (new_parent (tree_and (hidden 34 0) no_trees))) parent ≡ Ok (new_parent (tree_and child no_trees))
unfolding packed plain_hash plain_depth same_upto
kept_child-applied = refl

-- an update that hides a cell which its old half didn't meet
foreign_child-refused : applied weak (update 3 0 0 1 (hidden 3 0) (plain (16 ∷ []) (tree_and (hidden 7 0) no_trees))) root ≡ Err (foreign (weak_hash 7))
unfolding packed plain_hash plain_depth same_upto
foreign_child-refused = refl

-- an equal hash that hides another cell: six zero bits, completed to the byte 2
abbrev six_zeros : Tree
six_zeros = cell false (replicate 6 false) no_trees

other_face-refused : applied weak (update 3 18 0 0 root other_root) six_zeros ≡ Err (old_half (record { hash = weak_hash 3; stored = face_of weak six_zeros; shown = face_of weak root }))
unfolding packed plain_hash plain_depth same_upto
other_face-refused = refl

-- ---- below a Merkle proof, at Merkle depth 1

abbrev proof_over : ℕ → ℕ → Tree → Tree
proof_over hash depth t = cell true (bits_of (3 ∷ weak_text hash ++ 0 ∷ depth ∷ [])) (tree_and t no_trees)

-- a pruned branch of level 2
abbrev hidden_twice : ℕ → ℕ → Tree
hidden_twice hash depth = cell true (bits_of (1 ∷ 2 ∷ weak_text hash ++ 0 ∷ depth ∷ [])) no_trees

abbrev over : ℕ → Tree → Tree
over byte t = plain (byte ∷ []) (tree_and t no_trees)

-- there a pruned branch of level 2 stands for a cell that isn't shown
below_proof-applied : applied weak (update 170 171 2 2 (over 16 (proof_over 34 0 (hidden_twice 34 0))) (over 17 (proof_over 34 0 (hidden_twice 34 0)))) (over 16 (proof_over 34 0 child)) ≡ Ok (over 17 (proof_over 34 0 child))
unfolding packed plain_hash plain_depth same_upto
below_proof-applied = refl

-- and one of level 1 is a cell like any other, which stays
stays-applied : applied weak (update 3 0 0 2 (hidden 3 0) (over 17 (proof_over 7 0 (hidden 7 0)))) root ≡ Ok (over 17 (proof_over 7 0 (hidden 7 0)))
unfolding packed plain_hash plain_depth same_upto
stays-applied = refl

stays-new : new_cells weak (update 3 0 0 2 (hidden 3 0) (over 17 (proof_over 7 0 (hidden 7 0)))) root ≡ over 17 (proof_over 7 0 (hidden 7 0)) ∷ proof_over 7 0 (hidden 7 0) ∷ hidden 7 0 ∷ []
unfolding packed plain_hash plain_depth same_upto
stays-new = refl

-- the joined tree of the cells of 8 bits 01 and 02
split : Tree
split = joined_tree (plain (1 ∷ []) no_trees) (plain (2 ∷ []) no_trees)

split-rep : rep_of weak split ≡ weak_hash 196
unfolding split packed plain_hash plain_depth
split-rep = refl

split-depth : height_of weak split ≡ 1
unfolding split packed plain_hash plain_depth
split-depth = refl
