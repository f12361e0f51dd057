-- Trusted: the one-thread machine, as far as the blocks' names, roots and depths decide it: what an event answers, and
-- the next world. What the cells refuse (a clash, a count that is full) is asked last of all, and comes from outside.
use Rattle.std.specs.Prelude.{ℕ, nat_eq, nat_lt, nat_le, Bool, true, false, not, ◌&&◌, if◌then◌else◌, List, [], ◌∷◌, length, map, find, Option, Some, None, is_some, is_none}
use Rattle.std.specs.Option.{option_map, option_or, option_to_list, unwrap_or}
use Rattle.std.specs.List.{list_any}
use Rattle.cd_base.specs.declared.hash.Hash256.{Hash256}
use Rattle.cd_block.specs.declared.block.BlockId.{BlockId}
use Rattle.cd_block.specs.declared.description.Descr.{Descr}
use Rattle.cd_block.specs.Shard.{is_master}
use Rattle.cd_block.specs.Lineage.{lineage_fault}
use Rattle.cd_cell.specs.declared.limits.TheConstants.{GREATEST_DEPTH}
use Rattle.cd_cell.specs.declared.info.ChildInfo.{ChildInfo}
use Rattle.cd_cell.specs.Equality.{same_hash}
use Rattle.cd_cell.specs.Infos.{rep_of_info, height_of_info}
use Rattle.cd_cell.specs.Joined.{joined_face}
use Rattle.cd_cell.specs.Levels.{by_level, info_of_face}
use Rattle.cd_cell.specs.PreparedView.{PreparedView}
use Rattle.cd_event.specs.declared.event.Event.{Event}
use Rattle.cd_event.specs.declared.event.Event.TheVariants.{Zero, Pin, Look, Merge, Unpin, Expire}
use Rattle.cd_event.specs.declared.entry.Entry.{Entry}
use Rattle.cd_event.specs.declared.entry.Reply.{Reply}
use Rattle.cd_event.specs.declared.entry.Reply.TheVariants as reply
use Rattle.cd_event.specs.declared.refusal.Refusal.{Refusal}
use Rattle.cd_event.specs.declared.refusal.Refusal.TheVariants as refusal
use Rattle.cd_world.specs.declared.limits.TheConstants.{MOST_PINS}
use Rattle.cd_world.specs.declared.world.PinRow.{PinRow}
use Rattle.cd_world.specs.declared.world.World.{World}
use Rattle.cd_world.specs.Standing.{block_at, kept_at, pin_at, pins_of, expired}
use Rattle.cd_world.specs.Changes.{with_block, stored, with_pin, is_collected, without_pins, without_expired}

-- ---- the pins of an event

abbrev pub two_rows : Option PinRow → Option PinRow → Option (List PinRow)
two_rows (Some row) (Some second) = Some (row ∷ second ∷ [])
two_rows (Some row) None = None
two_rows None second = None

-- the pins that a merge names, in their order; none where one isn't a pin of the worker, or both are one
abbrev pub rows_at : World → ℕ → ℕ → Option ℕ → Option (List PinRow)
rows_at w worker pin None = option_map (λ row. row ∷ []) (pin_at w worker pin)
rows_at w worker pin (Some other) =
    if nat_eq pin other then None else two_rows (pin_at w worker pin) (pin_at w worker other)

abbrev pub merge_rows : World → ℕ → ℕ → Option ℕ → List PinRow
merge_rows w worker pin other = unwrap_or (rows_at w worker pin other) []

-- the pins' blocks, which are the parents of a merged block
abbrev pub blocks_of : List PinRow → List BlockId
blocks_of rows = map (λ r. r.block) rows

-- ---- the old tree by what its root shows

-- what the root of a tree of mask 0 shows, by its hash and its depth
abbrev pub plain_info : Hash256 → ℕ → ChildInfo
plain_info root depth = record { mask = 0; hashes = by_level (λ _. root); depths = by_level (λ _. depth) }

abbrev pub root_info : Descr → ChildInfo
root_info d = plain_info d.root d.depth

module _ (H : List ℕ → Hash256) where
  -- what the old tree's root shows: the state of the one pinned block, or the joined tree of two states
  abbrev pub old_info : List (Option Descr) → Option ChildInfo
  old_info (Some d ∷ []) = Some (root_info d)
  old_info (Some d ∷ Some e ∷ []) = Some (info_of_face H (joined_face (root_info d) (root_info e)))
  old_info _ = None

-- ---- refusals that the world decides

abbrev pub refused_if : Bool → Refusal → Option Refusal
refused_if b r = if b then Some r else None

abbrev pub known : World → BlockId → Option Refusal
known w id = refused_if (is_some (block_at w id)) refusal.Known

abbrev pub unrelated : BlockId → List BlockId → Option Refusal
unrelated id parents = option_map (λ fault. refusal.Lineage fault) (lineage_fault id parents)

abbrev pub other_root : BlockId → PreparedView → Option Refusal
other_root id p =
    refused_if (not (same_hash id.root (rep_of_info p.root))) (refusal.ZeroHash id.root (rep_of_info p.root))

abbrev pub unpinnable : World → ℕ → Option Descr → Option Refusal
unpinnable w worker None = Some refusal.UnknownBlock
unpinnable w worker (Some d) = refused_if (not (nat_lt (pins_of w worker) MOST_PINS)) refusal.PinsFull

abbrev pub no_pin : Option PinRow → Option Refusal
no_pin row = refused_if (is_none row) refusal.NoPin

-- the value was prepared over the old tree, which is of no depth over 1024
abbrev pub is_over : PreparedView → Option ChildInfo → Bool
is_over p None = false
is_over p (Some old) =
    nat_le (height_of_info old) GREATEST_DEPTH
    && list_any (λ stated. same_hash stated (rep_of_info old)) (option_to_list p.old)

abbrev pub first_missing : World → List BlockId → Option BlockId
first_missing w tops = find (λ top. is_none (kept_at w top)) tops

abbrev pub unexpirable : World → Option Descr → Option Refusal
unexpirable w None = Some refusal.UnknownBlock
unexpirable w (Some m) =
    option_or (refused_if (not (is_master m.id.shard_id)) refusal.NotMaster)
    (option_map (λ top. refusal.TopMissing top) (first_missing w m.tops))

module _ (H : List ℕ → Hash256) where
  abbrev pub unmergeable : World → BlockId → PreparedView → Option (List PinRow) → Option Refusal
  unmergeable w id p None = Some refusal.NoPin
  unmergeable w id p (Some rows) =
      option_or (refused_if (not (is_over p (old_info H (map (block_at w) (blocks_of rows))))) refusal.WrongPin)
      (option_or (known w id) (unrelated id (blocks_of rows)))

-- ---- what comes of an event

abbrev pub expired_count : World → Option Descr → ℕ
expired_count w None = 0
expired_count w (Some m) = length (expired w m)

abbrev pub unless_expired : World → Option Descr → World
unless_expired w None = w
unless_expired w (Some m) = without_expired w m

abbrev pub is_pin_collected : World → Option PinRow → Bool
is_pin_collected w None = false
is_pin_collected w (Some row) = is_collected w row

-- the reply, where something refuses so
abbrev pub answered : Option Refusal → Reply → Reply
answered None given = given
answered (Some r) given = reply.Refused r

abbrev pub is_refused : Reply → Bool
is_refused (reply.Refused r) = true
is_refused _ = false

-- whether an entry with this reply makes a batch
abbrev pub makes_batch : Reply → Bool
makes_batch reply.Stored = true
makes_batch (reply.Unpinned collected) = collected
makes_batch (reply.Expired gone) = nat_lt 0 gone
makes_batch _ = false

-- ---- the machine

module _ {X : Type 0} where
  -- the reply where nothing is refused
  abbrev pub reply_of : World → ℕ → Event X → Reply
  reply_of w worker (Zero id tops p) = reply.Stored
  reply_of w worker (Pin id) = reply.Pinned w.next
  reply_of w worker (Look pin asked) = reply.Looked
  reply_of w worker (Merge pin other id tops p) = reply.Stored
  reply_of w worker (Unpin pin) = reply.Unpinned (is_pin_collected w (pin_at w worker pin))
  reply_of w worker (Expire id) = reply.Expired (expired_count w (kept_at w id))

  -- and the next world
  abbrev pub moved : World → ℕ → Event X → World
  moved w worker (Zero id tops p) = with_block w (stored id [] tops p)
  moved w worker (Pin id) = with_pin w worker id
  moved w worker (Look pin asked) = w
  moved w worker (Merge pin other id tops p) =
      let rows = merge_rows w worker pin other in without_pins (with_block w (stored id (blocks_of rows) tops p)) rows
  moved w worker (Unpin pin) = without_pins w (option_to_list (pin_at w worker pin))
  moved w worker (Expire id) = unless_expired w (kept_at w id)

  -- the world after an entry
  abbrev pub after : World → Entry X → World
  after w e = if is_refused e.reply then w else moved w e.who.worker e.event

  -- the world after some entries
  abbrev pub replay : World → List (Entry X) → World
  replay w [] = w
  replay w (e ∷ es) = replay (after w e) es

  module _ (H : List ℕ → Hash256) where
    -- the first refusal that the world decides
    abbrev pub refusal_of : World → ℕ → Event X → Option Refusal
    refusal_of w worker (Zero id tops p) = option_or (known w id) (option_or (unrelated id []) (other_root id p))
    refusal_of w worker (Pin id) = unpinnable w worker (kept_at w id)
    refusal_of w worker (Look pin asked) = no_pin (pin_at w worker pin)
    refusal_of w worker (Merge pin other id tops p) = unmergeable H w id p (rows_at w worker pin other)
    refusal_of w worker (Unpin pin) = no_pin (pin_at w worker pin)
    refusal_of w worker (Expire id) = unexpirable w (kept_at w id)

    -- the reply, where the cells refuse so
    abbrev pub step_reply : World → ℕ → Event X → Option Refusal → Reply
    step_reply w worker event cells = answered (option_or (refusal_of w worker event) cells) (reply_of w worker event)
