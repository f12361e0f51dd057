-- Worked histories, computed with a weak hash: 31 zero bytes and the sum of the bytes modulo 256.
use Rattle.std.proofs.Common.{◌≡◌, ℕ, ◌%◌, pos, negsuc, Bool, true, false, List, [], ◌∷◌, ◌++◌, Option, Some, None, replicate, sum, map, flat_map, length, refl, sym, ap, ap₂, arith, ◌∙◌, inl}
use Rattle.std.specs.Prelude as Prelude
use Rattle.std.specs.Prelude.{◌+◌, ◌&&◌, nat_lt}
use Rattle.std.specs.Option.{option_map, option_and_then}
use Rattle.std.specs.List.{count_by, sum_by, filter}
use Rattle.std.specs.Ordering.{nat_cmp}
use Rattle.std.specs.Cmp.Lexicographic.{slice_cmp, nat_list_cmp_total}
use Rattle.std.specs.FinMap.{get, entries, from_entries, entries-insert, empty, len-entries, len-empty, find}
use Rattle.std.specs.FinMap.Entries.{put}
use Rattle.cd_base.specs.declared.hash.Hash256.{Hash256}
use Rattle.cd_block.specs.declared.block.BlockId.{BlockId}
use Rattle.cd_block.specs.declared.description.Descr.{Descr}
use Rattle.cd_block.specs.declared.ancestry.LineageFault.TheVariants as lineage
use Rattle.cd_block.specs.Shard.{is_master, is_child_of, is_longer_by_one, prefix_of, prefix_within, low_bits, meets, is_either_prefix}
use Rattle.cd_block.specs.Lineage.{lineage_fault, fault_by, is_valid_shard, stays_or_splits, are_halves}
use Rattle.cd_block.specs.Expiry.{expires, is_passed, tops_met}
use Rattle.cd_cell.specs.declared.new_cell.NewCell.{NewCell}
use Rattle.cd_cell.specs.BitText.{packed, bits_of_byte}
use Rattle.cd_cell.specs.Levels.{plain_hash, plain_depth}
use Rattle.cd_cell.specs.Tree.{Tree, cell, Trees, no_trees, tree_and, subtrees, info_of, face_of, rep_of}
use Rattle.cd_cell.specs.Unfolding.{no_tree}
use Rattle.cd_cell.specs.Joined.{joined_tree}
use Rattle.cd_cell.specs.Listings.{new_cell_of, listed_trees}
use Rattle.cd_cell.specs.PreparedView.{PreparedView}
use Rattle.cd_event.specs.declared.event.Event.{Event}
use Rattle.cd_event.specs.declared.event.Event.TheVariants.{Zero, Pin, Look, Merge, Unpin, Expire}
use Rattle.cd_event.specs.declared.entry.Entry.{Entry}
use Rattle.cd_event.specs.declared.entry.Reply.{Reply}
use Rattle.cd_event.specs.declared.entry.Reply.TheVariants as reply
use Rattle.cd_event.specs.declared.refusal.Refusal.{Refusal}
use Rattle.cd_event.specs.declared.refusal.Refusal.TheVariants as refusal
use Rattle.cd_world.specs.declared.world.World.{World}
use Rattle.cd_world.specs.Changes.{stored}
use Rattle.cd_world.specs.Machine.{replay}
use Rattle.cd_world.specs.Following.{AllFollow}
use Rattle.cd_world.specs.Told.{ToldWorld, shown, held, count, with_stored, least, is_other, first_clash, first_overflow, told_replay}
use Rattle.cd_world.specs.World.{Block, cell_entry, has_hash, places_of}
use Rattle.cd_world.proofs.Held.{keyed, rep_bytes}
use Rattle.cd_world.proofs.EqualImages.{cells_of, get-held}

-- ---- cells and names

abbrev weak_text : ℕ → List ℕ
weak_text n = replicate 31 0 ++ n ∷ []

abbrev weak_hash : ℕ → Hash256
weak_hash n = record { 0 = weak_text n }

abbrev weak : List ℕ → Hash256
weak bytes = weak_hash (sum bytes % 256)

-- an ordinary cell of bytes
abbrev plain : List ℕ → Trees → Tree
plain bytes ts = cell false (flat_map bits_of_byte bytes) ts

abbrev named : ℕ → ℕ → ℕ → BlockId
named shard seqno root = record { shard_id = record { workchain = pos 0; shard = shard }; seqno = seqno; root = weak_hash root; file = weak_hash 0 }

abbrev master : ℕ → ℕ → BlockId
master seqno root = record { shard_id = record { workchain = negsuc 0; shard = 0x8000000000000000 }; seqno = seqno; root = weak_hash root; file = weak_hash 0 }

-- a prepared value of a tree, with the cells that are new
abbrev prepared : Option Hash256 → Tree → List Tree → PreparedView
prepared old t cells = record { old = old; root = info_of weak t; cells = map (new_cell_of weak) cells }

abbrev entry : ℕ → Event ℕ → Reply → Entry ℕ
entry worker event answer = record { who = record { phase = 0; worker = worker; task = 0 }; event = event; reply = answer }

abbrev nothing : World
nothing = record { blocks = []; pins = []; next = 0 }

-- ---- two merges over one shared cell: a masterchain state, and two blocks over it whose roots have one cell below

abbrev first : Tree
first = plain (1 ∷ []) no_trees

abbrev shared : Tree
shared = plain (0x20 ∷ []) no_trees

abbrev left_tree : Tree
left_tree = plain (0x10 ∷ []) (tree_and shared no_trees)

abbrev right_tree : Tree
right_tree = plain (0x11 ∷ []) (tree_and shared no_trees)

abbrev zero_value : PreparedView
zero_value = prepared None first (first ∷ [])

abbrev left_value : PreparedView
left_value = prepared (Some (weak_hash 3)) left_tree (left_tree ∷ shared ∷ [])

abbrev right_value : PreparedView
right_value = prepared (Some (weak_hash 3)) right_tree (right_tree ∷ shared ∷ [])

abbrev m0 : BlockId
m0 = master 0 3

abbrev two_merges : List (Entry ℕ)
two_merges =
    entry 1 (Zero m0 [] zero_value) reply.Stored
    ∷ entry 1 (Pin m0) (reply.Pinned 0)
    ∷ entry 2 (Pin m0) (reply.Pinned 1)
    ∷ entry 1 (Merge 0 None (master 1 0x35) [] left_value) reply.Stored
    ∷ entry 2 (Merge 1 None (master 1 0x36) [] right_value) reply.Stored
    ∷ []

two_merges-hashes : (rep_of weak left_tree ≡ weak_hash 0x35) × (rep_of weak right_tree ≡ weak_hash 0x36) × (rep_of weak shared ≡ weak_hash 0x22)
unfolding packed plain_hash plain_depth
two_merges-hashes = (refl, refl, refl)

two_merges-follow : AllFollow weak nothing two_merges
unfolding packed plain_hash plain_depth lineage_fault fault_by is_valid_shard is_master stays_or_splits
two_merges-follow =
    ((None, tt, inl refl), ((None, tt, inl refl), ((None, tt, inl refl), ((None, tt, inl refl), ((None, tt, inl refl), tt)))))

two_merges-world : replay nothing two_merges ≡ record {
  blocks =
      stored m0 [] [] zero_value
      ∷ stored (master 1 0x35) (m0 ∷ []) [] left_value
      ∷ stored (master 1 0x36) (m0 ∷ []) [] right_value
      ∷ [];
  pins = [];
  next = 2;
}
two_merges-world = refl

-- ---- held cells and counts

-- entries in the order of their keys
abbrev in_order : List (List ℕ × Tree) → List (List ℕ × Tree)
in_order [] = []
in_order (e ∷ es) = put (slice_cmp nat_cmp) e.0 e.1 (in_order es)

nothing-long : (es : List (List ℕ × Tree)) → length es ≡ 0 → es ≡ []
nothing-long [] e = refl
nothing-long (e ∷ es) long = absurd (omega arith)

entries-in_order : (es : List (List ℕ × Tree)) → entries (from_entries {R = slice_cmp nat_cmp} es) ≡ in_order es
entries-in_order [] = nothing-long (entries (empty {X = Tree} {R = slice_cmp nat_cmp})) (sym (len-entries (empty {X = Tree} {R = slice_cmp nat_cmp})) ∙ len-empty (slice_cmp nat_cmp) Tree)
entries-in_order (e ∷ es) = entries-insert nat_list_cmp_total (from_entries es) e.0 e.1 ∙ ap (put (slice_cmp nat_cmp) e.0 e.1) (entries-in_order es)

-- the held cells with their keys, and the count of a hash, as they are worked out
abbrev held_list : ToldWorld → List (List ℕ × Tree)
held_list t = in_order (map (cell_entry weak) (flat_map (λ (b : Block). subtrees b.state) (shown t).blocks))

abbrev count_over : ToldWorld → List (List ℕ × Tree) → List ℕ → ℕ
count_over t es hash = count_by (λ (b : Block). has_hash weak hash b.state) (shown t).blocks + sum_by (places_of weak hash) (map (λ e. e.1) es)

count-is : (t : ToldWorld) (hash : List ℕ) → count weak t hash ≡ count_over t (held_list t) hash
count-is t hash = ap (λ es. count_over t es hash) (entries-in_order (map (cell_entry weak) (flat_map (λ (b : Block). subtrees b.state) (shown t).blocks)))

held-is : (t : ToldWorld) → entries (held weak t) ≡ held_list t
held-is t = entries-in_order (map (cell_entry weak) (flat_map (λ (b : Block). subtrees b.state) (shown t).blocks))

abbrev bare : ToldWorld
bare = record { world = nothing; state = λ _. no_tree }

-- the keys and counts of all held cells
abbrev counts_of : ToldWorld → List (List ℕ × ℕ)
counts_of t = map (λ e. (e.0, count_over t (held_list t) e.0)) (held_list t)

two_merges-counts : counts_of (told_replay weak bare two_merges) ≡ (weak_text 3, 1) ∷ (weak_text 0x22, 2) ∷ (weak_text 0x35, 1) ∷ (weak_text 0x36, 1) ∷ []
unfolding packed plain_hash plain_depth listed_trees
two_merges-counts = refl

-- ---- an expiry with a pinned block: a block that changes nothing, over the first state

abbrev same_value : PreparedView
same_value = prepared (Some (weak_hash 3)) first []

abbrev m1 : BlockId
m1 = master 1 3

abbrev expiry : List (Entry ℕ)
expiry =
    entry 3 (Zero m0 [] zero_value) reply.Stored
    ∷ entry 3 (Pin m0) (reply.Pinned 0)
    ∷ entry 3 (Merge 0 None m1 [] same_value) reply.Stored
    ∷ entry 1 (Pin m0) (reply.Pinned 1)
    ∷ entry 2 (Expire m1) (reply.Expired 1)
    ∷ entry 2 (Pin m0) (reply.Refused refusal.UnknownBlock)
    ∷ entry 1 (Look 1 1) reply.Looked
    ∷ entry 2 (Look 1 1) (reply.Refused refusal.NoPin)
    ∷ []

-- then the pinned worker merges another block, or ends its pin
abbrev merged : List (Entry ℕ)
merged =
    expiry ++ entry 1 (Merge 1 None (master 1 0x35) [] left_value) reply.Stored
    ∷ entry 1 (Merge 1 None (master 1 0x36) [] right_value) (reply.Refused refusal.NoPin)
    ∷ []

abbrev unpinned : List (Entry ℕ)
unpinned = expiry ++ entry 1 (Unpin 1) (reply.Unpinned true) ∷ []

merged-follow : AllFollow weak nothing merged
unfolding packed plain_hash plain_depth lineage_fault fault_by is_valid_shard is_master stays_or_splits expires
merged-follow =
    ((None, tt, inl refl), ((None, tt, inl refl), ((None, tt, inl refl), ((None, tt, inl refl), ((None, tt, inl refl), ((None, tt, inl refl), ((None, tt, inl refl), ((None, tt, inl refl), ((None, tt, inl refl), ((None, tt, inl refl), tt))))))))))

merged-world : replay nothing merged ≡ record {
  blocks = stored m1 (m0 ∷ []) [] same_value ∷ stored (master 1 0x35) (m0 ∷ []) [] left_value ∷ [];
  pins = [];
  next = 2;
}
unfolding expires is_master
merged-world = refl

-- the leaving block stays as long as it is pinned, and goes with its last pin
expiry-world : replay nothing expiry ≡ record {
  blocks = record (stored m0 [] [] zero_value) { leaving = true } ∷ stored m1 (m0 ∷ []) [] same_value ∷ [];
  pins = record { pin = 1; worker = 1; block = m0 } ∷ [];
  next = 2;
}
unfolding expires is_master
expiry-world = refl

unpinned-world : replay nothing unpinned ≡ record { blocks = stored m1 (m0 ∷ []) [] same_value ∷ []; pins = []; next = 2 }
unfolding expires is_master
unpinned-world = refl

-- two blocks share the one cell until the older goes
expiry-counts : counts_of (told_replay weak bare expiry) ≡ (weak_text 3, 2) ∷ []
unfolding packed plain_hash plain_depth listed_trees expires is_master
expiry-counts = refl

unpinned-counts : counts_of (told_replay weak bare unpinned) ≡ (weak_text 3, 1) ∷ []
unfolding packed plain_hash plain_depth listed_trees expires is_master
unpinned-counts = refl

-- ---- a block after a merge of two shards

abbrev left_half : BlockId
left_half = named 0x4000000000000000 0 3

abbrev right_half : BlockId
right_half = named 0xc000000000000000 0 4

abbrev second : Tree
second = plain (2 ∷ []) no_trees

abbrev joined : Tree
joined = joined_tree first second

abbrev halves : List (Entry ℕ)
halves =
    entry 1 (Zero left_half [] zero_value) reply.Stored
    ∷ entry 1 (Zero right_half [] (prepared None second (second ∷ []))) reply.Stored
    ∷ entry 1 (Pin left_half) (reply.Pinned 0)
    ∷ entry 1 (Pin right_half) (reply.Pinned 1)
    ∷ []

-- the new state is the joined tree, which is listed; with the pins in the other order the halves are, and the weak hash
-- of the joined tree is the same
abbrev joined_value : PreparedView
joined_value = prepared (Some (weak_hash 0xc4)) joined (joined ∷ [])

-- the new state has its root over both states, and the joined tree isn't held
abbrev hiding : Tree
hiding = plain (0x10 ∷ []) (tree_and first (tree_and second no_trees))

abbrev hiding_value : PreparedView
hiding_value = prepared (Some (weak_hash 0xc4)) hiding (hiding ∷ [])

abbrev whole : ℕ → BlockId
whole root = named 0x8000000000000000 1 root

abbrev shard_merges : List (Entry ℕ)
shard_merges =
    halves ++ entry 1 (Merge 1 (Some 0) (whole 0xc4) [] joined_value) (reply.Refused (refusal.Lineage lineage.Shard))
    ∷ entry 1 (Merge 0 (Some 0) (whole 0xc4) [] joined_value) (reply.Refused refusal.NoPin)
    ∷ entry 2 (Merge 0 (Some 1) (whole 0xc4) [] joined_value) (reply.Refused refusal.NoPin)
    ∷ entry 1 (Merge 0 (Some 1) (whole 0xc4) [] joined_value) reply.Stored
    ∷ []

shard_merges-hashes : (rep_of weak joined ≡ weak_hash 0xc4) × (rep_of weak hiding ≡ weak_hash 0x1b)
unfolding packed plain_hash plain_depth
shard_merges-hashes = (refl, refl)

shard_merges-follow : AllFollow weak nothing shard_merges
unfolding packed plain_hash plain_depth lineage_fault fault_by is_valid_shard is_master stays_or_splits are_halves is_child_of is_longer_by_one prefix_of prefix_within low_bits
shard_merges-follow =
    ((None, tt, inl refl), ((None, tt, inl refl), ((None, tt, inl refl), ((None, tt, inl refl), ((None, tt, inl refl), ((None, tt, inl refl), ((None, tt, inl refl), ((None, tt, inl refl), tt))))))))

shard_merges-world : replay nothing shard_merges ≡ record {
  blocks =
      stored left_half [] [] zero_value
      ∷ stored (whole 0xc4) (left_half ∷ right_half ∷ []) [] joined_value
      ∷ stored right_half [] [] (prepared None second (second ∷ []))
      ∷ [];
  pins = [];
  next = 2;
}
shard_merges-world = refl

shard_merges-counts : counts_of (told_replay weak bare shard_merges) ≡ (weak_text 3, 2) ∷ (weak_text 4, 2) ∷ (weak_text 0xc4, 1) ∷ []
unfolding packed plain_hash plain_depth listed_trees
shard_merges-counts = refl

hiding_merge-counts : counts_of (told_replay weak bare (halves ++ entry 1 (Merge 0 (Some 1) (whole 0x1b) [] hiding_value) reply.Stored ∷ [])) ≡ (weak_text 3, 2) ∷ (weak_text 4, 2) ∷ (weak_text 0x1b, 1) ∷ []
unfolding packed plain_hash plain_depth listed_trees
hiding_merge-counts = refl

-- ---- a clash: two states of one weak hash

abbrev early : Tree
early = plain (1 ∷ 0 ∷ []) no_trees

abbrev late : Tree
late = plain (0 ∷ 1 ∷ []) no_trees

abbrev with_early : ToldWorld
with_early = told_replay weak bare (entry 1 (Zero (master 0 5) [] (prepared None early (early ∷ []))) reply.Stored ∷ [])

-- the clash by any look-up of held cells
abbrev clash_over : List NewCell → (List ℕ → Option Tree) → Option Refusal
clash_over cells find_cell =
    option_and_then (λ c. option_map (λ face. refusal.Clash c.hash face c.face) (option_map (face_of weak) (find_cell c.hash.0)))
    (least weak (filter (λ c. is_other weak (option_map (face_of weak) (find_cell c.hash.0)) c.face) cells))

clash-is : (t : ToldWorld) (cells : List NewCell) → first_clash weak t cells ≡ clash_over cells (λ q. find (slice_cmp nat_cmp) q (keyed (rep_bytes weak) (cells_of weak t)))
clash-is t cells = ap (clash_over cells) (λ i q. get-held weak t q i)

a_clash : first_clash weak with_early (map (new_cell_of weak) (late ∷ [])) ≡ Some (refusal.Clash (weak_hash 5) (face_of weak early) (face_of weak late))
unfolding packed plain_hash plain_depth listed_trees
a_clash = clash-is with_early (map (new_cell_of weak) (late ∷ [])) ∙ refl

-- the same face is no clash
no_clash_with_itself : first_clash weak with_early (map (new_cell_of weak) (early ∷ [])) ≡ None
unfolding packed plain_hash plain_depth listed_trees
no_clash_with_itself = clash-is with_early (map (new_cell_of weak) (early ∷ [])) ∙ refl

-- ---- a full count: one cell in four places of another

abbrev empty_cell : Tree
empty_cell = plain [] no_trees

abbrev four : Tree
four = plain [] (tree_and empty_cell (tree_and empty_cell (tree_and empty_cell (tree_and empty_cell no_trees))))

abbrev with_four : ToldWorld
with_four = with_stored weak bare (master 0 4) [] [] (prepared None four (four ∷ empty_cell ∷ []))

abbrev overflow_over : ℕ → ToldWorld → ToldWorld → List (List ℕ × Tree) → List (List ℕ × Tree) → Option Refusal
overflow_over limit t v old new =
    option_map (λ e. refusal.CountFull (record { 0 = e.0 }) (count_over v new e.0))
    (Prelude.find (λ e. nat_lt (count_over t old e.0) (count_over v new e.0) && nat_lt limit (count_over v new e.0)) new)

overflow-is : (limit : ℕ) (t v : ToldWorld) → first_overflow weak limit t v ≡ overflow_over limit t v (held_list t) (held_list v)
overflow-is limit t v = ap₂ (overflow_over limit t v) (held-is t) (held-is v)

full_at_three : first_overflow weak 3 bare with_four ≡ Some (refusal.CountFull (weak_hash 0) 4)
unfolding packed plain_hash plain_depth listed_trees
full_at_three = overflow-is 3 bare with_four ∙ refl

room_at_four : first_overflow weak 4 bare with_four ≡ None
unfolding packed plain_hash plain_depth listed_trees
room_at_four = overflow-is 4 bare with_four ∙ refl
