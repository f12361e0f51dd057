-- What is kept of a world for every keeper stays so.
use Rattle.std.proofs.Common.{◌≡◌, ℕ, ◌≤◌, Bool, true, false, cond, List, [], ◌∷◌, length, Option, Some, None, subst, arith, ⊎_elim}
use Rattle.std.specs.Prelude.{filter, not, Contains}
use Rattle.std.specs.List.{AllByRecursion}
use Rattle.std.specs.Option.{option_to_list}
use Rattle.cd_base.specs.declared.hash.Hash256.{Hash256}
use Rattle.cd_block.specs.declared.block.BlockId.{BlockId}
use Rattle.cd_block.specs.declared.description.Descr.{Descr}
use Rattle.cd_block.specs.Block.{IsBlockId}
use Rattle.cd_block.specs.Description.{IsDescr, IsDescrFit}
use Rattle.cd_cell.specs.PreparedView.{PreparedView}
use Rattle.cd_event.specs.declared.entry.Entry.{Entry}
use Rattle.cd_event.specs.declared.event.Event.{Event}
use Rattle.cd_event.specs.declared.event.Event.TheVariants.{Zero, Pin, Look, Merge, Unpin, Expire}
use Rattle.cd_world.specs.declared.world.World.{World}
use Rattle.cd_world.specs.declared.world.PinRow.{PinRow}
use Rattle.cd_world.specs.Standing.{block_at, kept_at, pin_at, is_expired}
use Rattle.cd_world.specs.Changes.{placed, stored, with_block, goes_with, goes_at_once, marked, without_pin, without_pins}
use Rattle.cd_world.specs.Machine.{is_refused, merge_rows, blocks_of, moved, after, unless_expired}
use Rattle.cd_world.specs.Following.{Follows}
use Rattle.cd_world.specs.Soundness.{IsStorable}
use Rattle.cd_world.proofs.Orders.{Contains-filter, All-from_Contains, Contains-placed}
use Rattle.cd_world.proofs.TidyWorlds.{tidy_after, tidy-with_block}
use Rattle.std.proofs.lemmas.List.Elements.{All-contains}
use Rattle.cd_cell.proofs.Subtrees.{Contains-map}
use Rattle.cd_core.specs.Cores.{IsWritable}

-- each of some blocks can be written
abbrev AreWritten : List Descr → Type 0
AreWritten blocks = (d : Descr) → Contains blocks d → IsDescrFit d × IsDescr d

written : (w : World) → IsWritable w → AreWritten w.blocks
written w is d h = (All-contains IsDescrFit w.blocks d is.fit h, All-contains IsDescr w.blocks d is.are h)

written-filter : (p : Descr → Bool) (blocks : List Descr) → AreWritten blocks → AreWritten (filter p blocks)
written-filter p blocks are d h = let there = Contains-filter p blocks d h in are d there.0

written-without_pins : (w : World) (rows : List PinRow) → AreWritten w.blocks → AreWritten (let v = without_pins w rows in v.blocks)
written-without_pins w [] are = are
written-without_pins w (row ∷ rows) are =
    written-without_pins (without_pin w row) rows (written-filter (λ d. not (goes_with w row d)) w.blocks are)

written-marked : (m d : Descr) → IsDescrFit d × IsDescr d → IsDescrFit (marked m d) × IsDescr (marked m d)
written-marked m d is = elim (is_expired m d) as (λ b. let v = cond b (record d { leaving = true }) d in IsDescrFit v × IsDescr v) [
  | true ↦ (
    record { parents = is.0.parents; depth = is.0.depth; tops = is.0.tops; tops_on_master = is.0.tops_on_master },
    record { id = is.1.id; parents = is.1.parents; root = is.1.root; tops = is.1.tops },
  )
  | false ↦ is
]

written-expired : (w : World) (m : Option Descr) → AreWritten w.blocks → AreWritten (let v = unless_expired w m in v.blocks)
written-expired w None are d h = are d h
written-expired w (Some m) are d h =
    let left = filter (λ e. not (goes_at_once w m e)) w.blocks in
    let from = Contains-map (marked m) left d h in
    let there = Contains-filter (λ e. not (goes_at_once w m e)) w.blocks from.0 from.1 in
    subst (λ (e : Descr). IsDescrFit e × IsDescr e) from.2 (written-marked m from.0 (are from.0 there.0))

written-placed : (d : Descr) (blocks : List Descr) → IsDescrFit d × IsDescr d → AreWritten blocks → AreWritten (placed d blocks)
written-placed d blocks is are e h =
    ⊎_elim (λ same. subst (λ (x : Descr). IsDescrFit x × IsDescr x) same is) (λ old. are e old) (Contains-placed d blocks e h)

-- a block comes
pub writable-with_block : (w : World) (d : Descr) → IsWritable w → block_at w d.id ≡ None → IsDescrFit d × IsDescr d → IsWritable (with_block w d)
writable-with_block w d is fresh can =
    let are = written-placed d w.blocks can (written w is) in
    record {
      tidy = tidy-with_block w is.tidy d fresh;
      fit = All-from_Contains IsDescrFit _ (λ e h. let both = are e h in both.0);
      are = All-from_Contains IsDescr _ (λ e h. let both = are e h in both.1);
    }

module _ (H : List ℕ → Hash256) where
  -- a description of a storable value
  pub written-stored : (id : BlockId) (parents tops : List BlockId) (p : PreparedView) → IsStorable H id tops p
      → length parents ≤ 2 → AllByRecursion IsBlockId parents
      → IsDescrFit (stored id parents tops p) × IsDescr (stored id parents tops p)
  written-stored id parents tops p is few named =
      let valid = is.valid in (
        record { parents = few; depth = valid.shallow; tops = is.few; tops_on_master = is.on_master },
        record { id = is.named; parents = named; root = is.root; tops = is.tops_named },
      )

  module _ {X : Type 0} where
    -- what a call asks of an event for every keeper
    abbrev pub IsAskedPlainly : World → ℕ → Event X → Type 0
    IsAskedPlainly w worker (Zero id tops p) = IsStorable H id tops p
    IsAskedPlainly w worker (Merge pin other id tops p) =
        IsStorable H id tops p × (length (blocks_of (merge_rows w worker pin other)) ≤ 2)
        × AllByRecursion IsBlockId (blocks_of (merge_rows w worker pin other))
    IsAskedPlainly w worker _ = Unit {0}

    written-moved : (w : World) (worker : ℕ) (event : Event X) → AreWritten w.blocks → IsAskedPlainly w worker event
        → AreWritten (let v = moved w worker event in v.blocks)
    written-moved w worker (Zero id tops p) are asked = written-placed _ w.blocks (written-stored id [] tops p asked (omega arith) tt) are
    written-moved w worker (Pin id) are asked = are
    written-moved w worker (Look pin n) are asked = are
    written-moved w worker (Merge pin other id tops p) are asked =
        let rows = merge_rows w worker pin other in
        let d = stored id (blocks_of rows) tops p in
        written-without_pins (record w { blocks = placed d w.blocks }) rows
        (written-placed d w.blocks (written-stored id (blocks_of rows) tops p asked.0 asked.1 asked.2) are)
    written-moved w worker (Unpin pin) are asked = written-without_pins w (option_to_list (pin_at w worker pin)) are
    written-moved w worker (Expire id) are asked = written-expired w (kept_at w id) are

    written-after : (w : World) (e : Entry X) → AreWritten w.blocks → IsAskedPlainly w e.who.worker e.event
        → AreWritten (let v = after w e in v.blocks)
    written-after w e are asked =
        elim (is_refused e.reply) as (λ b. AreWritten (let v = cond b w (moved w e.who.worker e.event) in v.blocks)) [
          | true ↦ are
          | false ↦ written-moved w e.who.worker e.event are asked
        ]

    pub writable-after : (w : World) (e : Entry X) → IsWritable w → Follows H w e → IsAskedPlainly w e.who.worker e.event
        → IsWritable (after w e)
    writable-after w e is follows asked =
        let are = written-after w e (written w is) asked in
        record {
          tidy = tidy_after H w e is.tidy follows;
          fit = All-from_Contains IsDescrFit _ (λ d h. let both = are d h in both.0);
          are = All-from_Contains IsDescr _ (λ d h. let both = are d h in both.1);
        }
