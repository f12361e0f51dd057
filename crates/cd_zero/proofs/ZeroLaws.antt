-- How the command `zero` ends: over a bag of a state as storing that ends, and over other bytes as their refusal says.
use Rattle.std.proofs.Common.{ℕ, List, ap, inl}
use Rattle.cd_base.specs.declared.hash.Hash256.{Hash256}
use Rattle.cd_base.specs.declared.source.Source.{Ghosts as SourceGhosts}
use Rattle.cd_base.specs.declared.sink.Sink.{Ghosts as SinkGhosts}
use Rattle.cd_cell.specs.Tree.{Tree}
use Rattle.cd_keeper.specs.declared.keeper.Keeper.{Ghosts as KeeperGhosts}
use Rattle.cd_event.specs.declared.entry.Entry.{Entry}
use Rattle.cd_command.specs.declared.status.Status.{Status}
use Rattle.cd_command.specs.declared.status.Status.TheVariants as status
use Rattle.cd_command.specs.declared.status.InputFault.TheVariants as input
use Rattle.cd_command.specs.declared.status.TopRefusal.TheVariants as refusal
use Rattle.cd_command.specs.Reading.{IsInput, IsUnread}
use Rattle.cd_command.specs.Untouched.{AreSame}
use Rattle.cd_command.specs.Opening.{IsIdle}
use Rattle.cd_zero.specs.declared.name.ZeroName.{ZeroName}
use Rattle.cd_zero.specs.ZeroCall.{IsOfState, IsRefusal, StoringEnds, ZeroEnds}

module _ (H : List ℕ → Hash256) (name : ZeroName) {S O K X : Type 0} (s : SourceGhosts S) (o : SinkGhosts O) (k : KeeperGhosts K)
    (i j : S) (out out_after : O) (keeper keeper_after : K) (journal : List (Entry X)) where
  pub ends-taken : (state : Tree) (end : Status) → IsOfState H s state i j → StoringEnds H k name state o journal out out_after keeper keeper_after end
      → ZeroEnds H s o k name i j out out_after keeper keeper_after journal end
  ends-taken state status.Ok read e = record { state = state; input = read; ends = e }
  ends-taken state status.WriteFault read e = record { state = state; input = read; ends = e }
  ends-taken state (status.Damaged fault) read e = record { state = state; input = read; ends = e }
  ends-taken state status.KeeperFault read e = record { state = state; input = read; ends = e }
  ends-taken state (status.Refused (refusal.Core why)) read e = record { state = state; input = read; ends = e }
  ends-taken state status.Memory read e = (let input = read.input in input.steady, e.0, e.1, e.2)
  ends-taken state (status.Usage fault) read e = e
  ends-taken state (status.BadInput fault) read e = absurd e
  ends-taken state status.ReadFault read e = absurd e
  ends-taken state status.ClientFault read e = absurd e
  ends-taken state (status.Refused (refusal.Roots roots)) read e = absurd e
  ends-taken state (status.Refused (refusal.Level mask)) read e = absurd e
  ends-taken state (status.Refused (refusal.TooMany limit)) read e = absurd e

  -- nothing was asked of the keeper
  pub idle-same : AreSame out out_after keeper keeper_after journal → IsIdle H k journal keeper keeper_after
  idle-same same = record {
    entries = same.entries;
    left = inl (inl (record { same_held = ap k.held same.keeper; same_trail = ap k.trail same.keeper; same_batches = ap k.batches same.keeper }));
  }

  -- bytes that are no bag of a state end as the table says
  pub ends-refused : (bytes : List ℕ) (end : Status) → IsInput s bytes i j → AreSame out out_after keeper keeper_after journal → IsRefusal H bytes end
      → ZeroEnds H s o k name i j out out_after keeper keeper_after journal end
  ends-refused bytes status.Ok read same refused = absurd refused
  ends-refused bytes (status.Usage fault) read same refused = refused
  ends-refused bytes (status.BadInput (input.Long limit)) read same refused = absurd refused
  ends-refused bytes (status.BadInput (input.Bag fault)) read same refused = (record { bytes = bytes; input = read; refusal = refused }, same)
  ends-refused bytes (status.BadInput (input.Feed fault)) read same refused = absurd refused
  ends-refused bytes (status.Damaged fault) read same refused = absurd refused
  ends-refused bytes status.ReadFault read same refused = absurd refused
  ends-refused bytes status.WriteFault read same refused = absurd refused
  ends-refused bytes status.KeeperFault read same refused = absurd refused
  ends-refused bytes status.ClientFault read same refused = absurd refused
  ends-refused bytes (status.Refused (refusal.Roots roots)) read same refused = (record { bytes = bytes; input = read; refusal = refused }, same)
  ends-refused bytes (status.Refused (refusal.Level mask)) read same refused = (record { bytes = bytes; input = read; refusal = refused }, same)
  ends-refused bytes (status.Refused (refusal.TooMany limit)) read same refused = absurd refused
  ends-refused bytes (status.Refused (refusal.Core why)) read same refused = absurd refused
  ends-refused bytes status.Memory read same refused = (read.steady, idle-same same, ap k.faults same.keeper, same.sink)

  -- an input that isn't read to its end ends as the table says
  pub ends-unread : (end : Status) → AreSame out out_after keeper keeper_after journal → IsUnread s i j end
      → ZeroEnds H s o k name i j out out_after keeper keeper_after journal end
  ends-unread (status.BadInput (input.Long limit)) same unread = (unread.0, unread.1, same)
  ends-unread status.ReadFault same unread = (unread, same)
  ends-unread status.Memory same unread = (unread, idle-same same, ap k.faults same.keeper, same.sink)
  ends-unread status.Ok same unread = absurd unread
  ends-unread (status.Usage fault) same unread = absurd unread
  ends-unread (status.BadInput (input.Bag fault)) same unread = absurd unread
  ends-unread (status.BadInput (input.Feed fault)) same unread = absurd unread
  ends-unread (status.Damaged fault) same unread = absurd unread
  ends-unread status.WriteFault same unread = absurd unread
  ends-unread status.KeeperFault same unread = absurd unread
  ends-unread status.ClientFault same unread = absurd unread
  ends-unread (status.Refused refusal) same unread = absurd unread
