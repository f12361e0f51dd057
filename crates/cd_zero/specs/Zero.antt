-- Trusted: what storing a state as a zero state does: the block's name, the world with that one block, the text, and how
-- refusals are told.
use Rattle.std.specs.Prelude.{◌≡◌, ℕ, List, [], ◌∷◌, ◌++◌, length, false, Option, Some, None, codes}
use Rattle.std.specs.Fmt.{decimal}
use Rattle.cd_base.specs.declared.hash.Hash256.{Hash256}
use Rattle.cd_block.specs.declared.block.BlockId.{BlockId}
use Rattle.cd_block.specs.Spelling.{id_text}
use Rattle.cd_cell.specs.Export.{IsClashFree, distinct_cells}
use Rattle.cd_cell.specs.PreparedView.{PreparedView}
use Rattle.cd_cell.specs.Tree.{Tree, rep_of}
use Rattle.cd_event.specs.declared.refusal.Refusal.{Refusal}
use Rattle.cd_event.specs.declared.refusal.Refusal.TheVariants as store
use Rattle.cd_prepare.specs.States.{IsWhole}
use Rattle.cd_prepare.specs.declared.prepare_fault.PrepareFault.{PrepareFault}
use Rattle.cd_prepare.specs.declared.prepare_fault.PrepareFault.TheVariants as prepare
use Rattle.cd_world.specs.World.{World}
use Rattle.cd_world.specs.Told.{ToldWorld}
use Rattle.cd_command.specs.declared.status.Status.{Status}
use Rattle.cd_command.specs.declared.status.Status.TheVariants as status
use Rattle.cd_command.specs.declared.status.TopRefusal.TheVariants as refusal
use Rattle.cd_zero.specs.declared.name.ZeroName.{ZeroName}

-- the block of seqno 0 of the whole workchain of this name, with this root hash
abbrev pub zero_id : ZeroName → Hash256 → BlockId
zero_id name root = record {
  shard_id = record { workchain = name.workchain; shard = 0x8000000000000000 };
  seqno = 0;
  root = root;
  file = name.file;
}

-- the world that has this one block
abbrev pub world_of : BlockId → Tree → World
world_of id state = record {
  blocks = (record { id = id; parents = []; state = state; tops = []; leaving = false }) ∷ [];
  pins = [];
  next_pin = 0;
}

-- the state of a block
abbrev pub state_at : ToldWorld → BlockId → Tree
state_at t id = t.state id

-- the block's name, and the number of its cells, a line each
unfoldable pub block_text : BlockId → ℕ → List ℕ
block_text id count = codes "id " ++ id_text id ++ codes "\ncells " ++ decimal count ++ codes "\n"

module _ (H : List ℕ → Hash256) where
  abbrev pub zero_world : ZeroName → Tree → World
  zero_world name state = world_of (zero_id name (rep_of H state)) state

  abbrev pub zero_text : ZeroName → Tree → List ℕ
  zero_text name state = block_text (zero_id name (rep_of H state)) (length (distinct_cells H state))

  -- a value lists all cells of this state, and was prepared over no other
  pub record IsListOf (state : Tree) (value : PreparedView) : Type 0 where
    pub new : value.old ≡ None
    pub clear : IsClashFree H state
    pub whole : IsWhole H state value.root value.cells

-- the faults of preparing that a state can have
abbrev pub IsStateFault : PrepareFault → Type 0
IsStateFault (prepare.Roots roots) = Unit {0}
IsStateFault (prepare.Level mask) = Unit {0}
IsStateFault prepare.Memory = Unit {0}
IsStateFault _ = ⊥

-- and the status of each
abbrev pub status_of : PrepareFault → Status
status_of (prepare.Roots roots) = status.Refused (refusal.Roots roots)
status_of (prepare.Level mask) = status.Refused (refusal.Level mask)
status_of _ = status.Memory

-- the status of a call whose event is refused so; without a refusal memory ran out
abbrev pub status_by_store : Option Refusal → Status
status_by_store None = status.Memory
status_by_store (Some store.Keeper) = status.KeeperFault
status_by_store (Some why) = status.Refused (refusal.Core why)
