-- Trusted: how a world of the code changes: a block is stored, pins begin and end, blocks expire, and a stop.
use Rattle.std.specs.Prelude.{ℕ, ◌+◌, Bool, true, false, not, ◌&&◌, if◌then◌else◌, List, [], ◌∷◌, ◌++◌, map}
use Rattle.std.specs.List.{filter, list_any}
use Rattle.std.specs.Ordering.{is_lt}
use Rattle.cd_block.specs.declared.block.BlockId.{BlockId}
use Rattle.cd_block.specs.declared.description.Descr.{Descr}
use Rattle.cd_block.specs.Block.{id_cmp}
use Rattle.cd_cell.specs.Infos.{rep_of_info, height_of_info}
use Rattle.cd_cell.specs.PreparedView.{PreparedView}
use Rattle.cd_world.specs.declared.world.PinRow.{PinRow}
use Rattle.cd_world.specs.declared.world.World.{World}
use Rattle.cd_world.specs.Standing.{has_id, is_pin, is_pinned, is_expired}

-- ---- a state is stored

-- a block put into its place by the order of ids
abbrev pub placed : Descr → List Descr → List Descr
placed d [] = d ∷ []
placed d (x ∷ xs) = if is_lt (id_cmp d.id x.id) then d ∷ x ∷ xs else x ∷ placed d xs

abbrev pub with_block : World → Descr → World
with_block w d = record w { blocks = placed d w.blocks }

-- the description of a prepared state
abbrev pub stored : BlockId → List BlockId → List BlockId → PreparedView → Descr
stored id parents tops p = record {
  id = id;
  parents = parents;
  root = rep_of_info p.root;
  depth = height_of_info p.root;
  tops = tops;
  leaving = false;
}

-- ---- pins

abbrev pub row_of : ℕ → ℕ → BlockId → PinRow
row_of number worker id = record { pin = number; worker = worker; block = id }

abbrev pub with_pin : World → ℕ → BlockId → World
with_pin w worker id = record w { pins = w.pins ++ row_of w.next worker id ∷ []; next = w.next + 1 }

-- the pins but this one
abbrev pub pins_without : PinRow → List PinRow → List PinRow
pins_without row pins = filter (λ r. not (is_pin row.worker row.pin r)) pins

-- whether a block waits for the end of this pin alone
abbrev pub goes_with : World → PinRow → Descr → Bool
goes_with w row d = (has_id row.block d && d.leaving) && not (is_pinned (pins_without row w.pins) row.block)

-- whether the end of this pin collects its block
abbrev pub is_collected : World → PinRow → Bool
is_collected w row = list_any (goes_with w row) w.blocks

-- a pin ends: where its block is leaving and has no other pin, the block goes too
abbrev pub without_pin : World → PinRow → World
without_pin w row = record w { blocks = filter (λ d. not (goes_with w row d)) w.blocks; pins = pins_without row w.pins }

-- some pins end, one after another
abbrev pub without_pins : World → List PinRow → World
without_pins w [] = w
without_pins w (row ∷ rows) = without_pins (without_pin w row) rows

-- ---- expiry

-- an expired block without a pin goes, and one with a pin is leaving
abbrev pub goes_at_once : World → Descr → Descr → Bool
goes_at_once w m d = is_expired m d && not (is_pinned w.pins d.id)

abbrev pub marked : Descr → Descr → Descr
marked m d = if is_expired m d then record d { leaving = true } else d

abbrev pub without_expired : World → Descr → World
without_expired w m = record w { blocks = map (marked m) (filter (λ d. not (goes_at_once w m d)) w.blocks) }

-- ---- a stop, and the next opening

-- a stop ends all pins
abbrev pub stopped : World → World
stopped w = record w { pins = []; next = 0 }

-- the next opening drops the leaving blocks
abbrev pub settled : World → World
settled w = record (stopped w) { blocks = filter (λ d. not d.leaving) w.blocks }

-- the blocks after each leaving one that is dropped, the least id first, given those that were gone over
abbrev pub blocks_settling : List Descr → List Descr → List (List Descr)
blocks_settling over [] = []
blocks_settling over (d ∷ ds) =
    if d.leaving then (over ++ ds) ∷ blocks_settling over ds else blocks_settling (over ++ d ∷ []) ds

-- the worlds on the way from a stop to the settled world, one for each leaving block
abbrev pub settling : World → List World
settling w = map (λ blocks. record (stopped w) { blocks = blocks }) (blocks_settling [] w.blocks)
