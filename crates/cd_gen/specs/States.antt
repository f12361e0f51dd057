-- Trusted: the states of a generated feed as trees, and the updates from each to the next.
use Rattle.std.specs.Prelude.{ℕ, zero, suc, ◌+◌, ◌-◌, ◌*◌, ◌%◌, ◌^◌, ◌==◌, Bool, true, false, List, [], ◌∷◌, ◌++◌, length, if◌then◌else◌}
use Rattle.std.specs.List.{list_any, range_with_len}
use Rattle.std.specs.Int.{w16, w32, w64, to_be_bytes}
use Rattle.sha2.specs.Sha256.{sha256}
use Rattle.cd_base.specs.declared.hash.Hash256.{Hash256}
use Rattle.cd_cell.specs.BitText.{first_bits}
use Rattle.cd_cell.specs.Tree.{Tree, cell, no_trees, tree_and, hash_at, depth_at, rep_of}

-- every hash of a generated feed is SHA-256
abbrev pub sha : List ℕ → Hash256
sha bytes = record { 0 = sha256 bytes }

-- all bits of some bytes
abbrev pub bits_of : List ℕ → List Bool
bits_of bytes = first_bits (8 * length bytes) bytes

-- the text of a leaf: the feed's number, the chain, the number of the leaf, and the seqno of the block that last wrote it
unfoldable pub leaf_text : ℕ → ℕ → ℕ → ℕ → List ℕ
leaf_text number chain j seqno = to_be_bytes w64 number ++ chain ∷ [] ++ to_be_bytes w16 j ++ to_be_bytes w32 seqno

abbrev pub leaf : ℕ → ℕ → ℕ → ℕ → Tree
leaf number chain j seqno = cell false (bits_of (leaf_text number chain j seqno)) no_trees

-- a cell without bits over two others
abbrev pub over : Tree → Tree → Tree
over left right = cell false [] (tree_and left (tree_and right no_trees))

-- whether the block of a seqno writes a leaf: it writes each sixteenth one
abbrev pub is_written : ℕ → ℕ → ℕ → Bool
is_written number seqno j = j % 16 == (seqno + number) % 16

-- the seqno of the block that wrote a leaf last, as of the block of this seqno
unfoldable pub writer_of : ℕ → ℕ → ℕ → ℕ
writer_of number zero j = 0
writer_of number (suc seqno) j = if is_written number (suc seqno) j then suc seqno else writer_of number seqno j

-- the full binary tree of so many levels over the leaves of a state from the first on
unfoldable pub full : ℕ → ℕ → ℕ → ℕ → ℕ → Tree
full number chain seqno zero first = leaf number chain first (writer_of number seqno first)
full number chain seqno (suc levels) first =
    over (full number chain seqno levels first) (full number chain seqno levels (first + 2 ^ levels))

-- the state of a block: 512 leaves
unfoldable pub state_of : ℕ → ℕ → ℕ → Tree
state_of number chain seqno = full number chain seqno 9 0

-- the hash of the root cell of a zero state
unfoldable pub zero_root : ℕ → ℕ → Hash256
zero_root number chain = rep_of sha (state_of number chain 0)

-- ---- updates

-- a cell at level 0
abbrev pub hash_text : Tree → List ℕ
hash_text t = let hash = hash_at sha t 0 in hash.0

abbrev pub depth_text : Tree → List ℕ
depth_text t = to_be_bytes w16 (depth_at sha t 0)

-- a pruned branch of mask 1 in the place of a cell
abbrev pub pruned : Tree → Tree
pruned t = cell true (bits_of (1 ∷ 1 ∷ hash_text t ++ depth_text t)) no_trees

-- whether the block of a seqno writes one of so many leaves from the first on
abbrev pub some_written : ℕ → ℕ → ℕ → ℕ → Bool
some_written number seqno first count = list_any (is_written number seqno) (range_with_len first count)

-- what the update by a block shows of the state of a seqno, of so many levels over the leaves from the first on: the
-- cells on the paths to the leaves that the block writes, and a pruned branch in the place of each other
unfoldable pub shown : ℕ → ℕ → ℕ → ℕ → ℕ → ℕ → Tree
shown number chain block seqno zero first =
    if some_written number block first 1
    then full number chain seqno 0 first
    else pruned (full number chain seqno 0 first)
shown number chain block seqno (suc levels) first =
    if some_written number block first (2 ^ suc levels)
    then over (shown number chain block seqno levels first) (shown number chain block seqno levels (first + 2 ^ levels))
    else pruned (full number chain seqno (suc levels) first)

-- what a block's update shows of the state of a seqno
abbrev pub half_of : ℕ → ℕ → ℕ → ℕ → Tree
half_of number chain block seqno = shown number chain block seqno 9 0

-- the Merkle update from what is shown of an old tree to what is shown of a new one
abbrev pub update_between : Tree → Tree → Tree
update_between old new =
    cell true (bits_of (4 ∷ hash_text old ++ hash_text new ++ depth_text old ++ depth_text new))
    (tree_and old (tree_and new no_trees))

-- the update of a block: both halves show the leaves that it writes, the old one as the blocks before left them
unfoldable pub update_of : ℕ → ℕ → ℕ → Tree
update_of number chain seqno =
    update_between (half_of number chain seqno (seqno - 1)) (half_of number chain seqno seqno)
