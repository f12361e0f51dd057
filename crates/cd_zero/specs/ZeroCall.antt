-- Trusted: how the command `zero` ends: what each status says of the input, the output, the journal and the keeper.
use Rattle.std.specs.Prelude.{◌≡◌, ◌≢◌, ◌⊎◌, ℕ, List, [], ◌∷◌, length, Some, IfSome}
use Rattle.cd_base.specs.declared.hash.Hash256.{Hash256}
use Rattle.cd_base.specs.declared.source.Source.{Ghosts as SourceGhosts}
use Rattle.cd_base.specs.declared.sink.Sink.{Ghosts as SinkGhosts}
use Rattle.cd_base.specs.Counts.{Rose}
use Rattle.cd_cell.specs.PreparedView.{PreparedView}
use Rattle.cd_cell.specs.Tree.{Tree, mask_of, rep_of}
use Rattle.cd_event.specs.declared.entry.Entry.{Entry}
use Rattle.cd_event.specs.declared.entry.Reply.{Reply}
use Rattle.cd_event.specs.declared.entry.Reply.TheVariants as reply
use Rattle.cd_event.specs.declared.event.Event.TheVariants.{Zero}
use Rattle.cd_event.specs.declared.refusal.Refusal.TheVariants as store
use Rattle.cd_event.specs.Replies.{entry_of}
use Rattle.cd_keeper.specs.declared.keeper.Keeper.{Ghosts as KeeperGhosts}
use Rattle.cd_keeper.specs.Contents.{no_contents}
use Rattle.cd_boc_read.specs.Grammar.{Spells}
use Rattle.cd_boc_read.specs.BagFaults.{bag_fault}
use Rattle.cd_world.specs.Image.{IsContentsOf}
use Rattle.cd_world.specs.Told.{ToldWorld, told_replay}
use Rattle.cd_restart.specs.OpenEnds.{IsLeft}
use Rattle.cd_command.specs.declared.limits.TheConstants.{INPUT_LIMIT}
use Rattle.cd_command.specs.Printing.{NoFault, HasGot, HasFailed}
use Rattle.cd_command.specs.Reading.{IsInput, IsLong}
use Rattle.cd_command.specs.Untouched.{AreSame}
use Rattle.cd_command.specs.Opening.{IsUnopenedBy, IsIdle, LeadsTo}
use Rattle.cd_command.specs.declared.status.Status.{Status}
use Rattle.cd_command.specs.declared.status.Status.TheVariants as status
use Rattle.cd_command.specs.declared.status.InputFault.TheVariants as input
use Rattle.cd_command.specs.declared.status.TopRefusal.TheVariants as refusal
use Rattle.cd_zero.specs.declared.name.ZeroName.{ZeroName}
use Rattle.cd_command.specs.Naming.{first_task}
use Rattle.cd_zero.specs.Zero.{zero_id, zero_world, zero_text, state_at, IsListOf}

module _ (H : List ℕ → Hash256) where
  -- the bytes are a bag of this one tree, and its root is of level 0
  pub record IsStateBag (bytes : List ℕ) (state : Tree) : Type 0 where
    pub bag : Spells H bytes (state ∷ [])
    pub level : mask_of H state ≡ 0

  -- why the bytes are no bag of a state, by the status that says so
  abbrev pub IsRefusal : List ℕ → Status → Type 0
  IsRefusal bytes (status.BadInput (input.Bag fault)) = bag_fault H bytes ≡ Some fault
  IsRefusal bytes (status.Refused (refusal.Roots roots)) =
      (trees : List Tree) × Spells H bytes trees × (length trees ≡ roots) × (roots ≢ 1)
  IsRefusal bytes (status.Refused (refusal.Level mask)) =
      (tree : Tree) × Spells H bytes (tree ∷ []) × (mask_of H tree ≡ mask) × (mask ≢ 0)
  IsRefusal bytes status.Memory = Unit {0}
  IsRefusal bytes _ = ⊥

-- A source S, a sink O and a keeper K are seen by what their traits tell of them, before the call and after it.
module _ (H : List ℕ → Hash256) {S : Type 0} (s : SourceGhosts S) where
  -- the input was a bag of this state
  pub record IsOfState (state : Tree) (old new : S) : Type 0 where
    pub bytes : List ℕ
    pub input : IsInput s bytes old new
    pub bag : IsStateBag H bytes state

  -- the input was no bag of a state, as this status says
  pub record IsRefused (end : Status) (old new : S) : Type 0 where
    pub bytes : List ℕ
    pub input : IsInput s bytes old new
    pub refusal : IsRefusal H bytes end

module _ (H : List ℕ → Hash256) {K : Type 0} (k : KeeperGhosts K) (name : ZeroName) (state : Tree) {X : Type 0} where
  -- The one entry is that of this state, listed whole, under its name, with this reply; and it follows the world as which the
  -- store was opened.
  pub record IsEntry (reply : Reply) (journal : List (Entry X)) (old new : K) : Type 0 where
    pub listed : PreparedView
    pub lists : IsListOf H state listed
    pub is : journal ≡ entry_of first_task (Zero (zero_id name (rep_of H state)) [] listed) reply ∷ []
    pub leads : LeadsTo H k journal old new

  -- Stored: in the world after the entry the block has this state. Of a store that held nothing, the contents are those of the
  -- world with this one block.
  pub record IsStored (journal : List (Entry X)) (old new : K) : Type 0 where
    pub entry : IsEntry reply.Stored journal old new
    pub has : (t : ToldWorld) → state_at (told_replay H t journal) (zero_id name (rep_of H state)) ≡ state
    pub first : k.held old ≡ Some no_contents → IfSome (k.held new) (IsContentsOf H (zero_world H name state))
    pub steady : NoFault (k.faults old) (k.faults new)

  -- the keeper failed while the store was opened, and there is no entry, or at the one entry
  abbrev pub IsFailed : List (Entry X) → K → K → Type 0
  IsFailed journal old new = ((journal ≡ []) × IsLeft H k old new) ⊎ IsEntry (reply.Refused store.Keeper) journal old new

  -- how storing a listed state and writing its text ends
  module _ {O : Type 0} (o : SinkGhosts O) where
    abbrev pub StoringEnds : List (Entry X) → O → O → K → K → Status → Type 0
    -- stored and printed
    StoringEnds journal out out_after keeper keeper_after status.Ok =
        IsStored journal keeper keeper_after × HasGot o (zero_text H name state) out out_after
    -- the sink failed: stored, and a part of it printed
    StoringEnds journal out out_after keeper keeper_after status.WriteFault =
        IsStored journal keeper keeper_after × HasFailed o (zero_text H name state) out out_after
    -- the store is damaged, as a scan says first: nothing changed, nothing printed
    StoringEnds journal out out_after keeper keeper_after (status.Damaged fault) =
        IsUnopenedBy H k keeper keeper_after (status.Damaged fault) × (journal ≡ []) × (out_after ≡ out)
    -- the keeper failed: nothing stored, nothing printed
    StoringEnds journal out out_after keeper keeper_after status.KeeperFault =
        IsFailed journal keeper keeper_after × Rose (k.faults keeper) (k.faults keeper_after) × (out_after ≡ out)
    -- the store refused the state: nothing stored, nothing printed
    StoringEnds journal out out_after keeper keeper_after (status.Refused (refusal.Core why)) =
        IsEntry (reply.Refused why) journal keeper keeper_after × (why ≢ store.Keeper)
        × NoFault (k.faults keeper) (k.faults keeper_after) × (out_after ≡ out)
    -- want of memory: no entry, nothing stored, nothing printed
    StoringEnds journal out out_after keeper keeper_after status.Memory =
        IsIdle H k journal keeper keeper_after × NoFault (k.faults keeper) (k.faults keeper_after) × (out_after ≡ out)
    -- nothing else can go wrong
    StoringEnds journal out out_after keeper keeper_after _ = ⊥

module _ (H : List ℕ → Hash256) {S O K X : Type 0} (s : SourceGhosts S) (o : SinkGhosts O) (k : KeeperGhosts K) (name : ZeroName) where
  -- the input was a bag of a state, and storing it ended so
  pub record IsTaken (i j : S) (out out_after : O) (keeper keeper_after : K) (journal : List (Entry X)) (end : Status)
      : Type 0 where
    pub state : Tree
    pub input : IsOfState H s state i j
    pub ends : StoringEnds H k name state o journal out out_after keeper keeper_after end

  -- how the command `zero` ends, with what its words say of the block's name
  abbrev pub ZeroEnds : S → S → O → O → K → K → List (Entry X) → Status → Type 0
  -- never: these words are those of a command
  ZeroEnds i j out out_after keeper keeper_after journal (status.Usage fault) = ⊥
  -- too long
  ZeroEnds i j out out_after keeper keeper_after journal (status.BadInput (input.Long limit)) =
      (limit ≡ INPUT_LIMIT) × IsLong s i j × AreSame out out_after keeper keeper_after journal
  -- no bag, by its first fault
  ZeroEnds i j out out_after keeper keeper_after journal (status.BadInput (input.Bag fault)) =
      IsRefused H s (status.BadInput (input.Bag fault)) i j × AreSame out out_after keeper keeper_after journal
  -- the source failed
  ZeroEnds i j out out_after keeper keeper_after journal status.ReadFault =
      Rose (s.faults i) (s.faults j) × AreSame out out_after keeper keeper_after journal
  -- a bag that is no state
  ZeroEnds i j out out_after keeper keeper_after journal (status.Refused (refusal.Roots roots)) =
      IsRefused H s (status.Refused (refusal.Roots roots)) i j × AreSame out out_after keeper keeper_after journal
  ZeroEnds i j out out_after keeper keeper_after journal (status.Refused (refusal.Level mask)) =
      IsRefused H s (status.Refused (refusal.Level mask)) i j × AreSame out out_after keeper keeper_after journal
  -- want of memory: no entry, nothing stored, nothing printed
  ZeroEnds i j out out_after keeper keeper_after journal status.Memory =
      NoFault (s.faults i) (s.faults j) × IsIdle H k journal keeper keeper_after
      × NoFault (k.faults keeper) (k.faults keeper_after) × (out_after ≡ out)
  -- the state was taken: stored, or refused by the store, or the store is damaged, or the keeper or the sink failed
  ZeroEnds i j out out_after keeper keeper_after journal end =
      IsTaken i j out out_after keeper keeper_after journal end
