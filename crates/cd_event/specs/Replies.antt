-- Trusted: the entry that a call makes, by its answer.
use Rattle.std.specs.Prelude.{ℕ, Bool, List, [], ◌∷◌, Option, Some, None, Result, Ok, Err}
use Rattle.cd_event.specs.declared.names.Who.{Who}
use Rattle.cd_event.specs.declared.names.At.{At}
use Rattle.cd_event.specs.declared.answers.Stored.{Stored}
use Rattle.cd_event.specs.declared.answers.Pinned.{Pinned}
use Rattle.cd_event.specs.declared.event.Event.{Event}
use Rattle.cd_event.specs.declared.entry.Entry.{Entry}
use Rattle.cd_event.specs.declared.entry.Reply.{Reply}
use Rattle.cd_event.specs.declared.entry.Reply.TheVariants as reply
use Rattle.cd_event.specs.declared.refusal.Refusal.{Refusal}
use Rattle.cd_event.specs.declared.refusal.Refusal.TheVariants as refusal
use Rattle.cd_event.specs.declared.faults.ZeroFault.{ZeroFault}
use Rattle.cd_event.specs.declared.faults.ZeroFault.TheVariants as zero
use Rattle.cd_event.specs.declared.faults.PinFault.{PinFault}
use Rattle.cd_event.specs.declared.faults.PinFault.TheVariants as pin
use Rattle.cd_event.specs.declared.faults.LookFault.{LookFault}
use Rattle.cd_event.specs.declared.faults.LookFault.TheVariants as look
use Rattle.cd_event.specs.declared.faults.MergeFault.{MergeFault}
use Rattle.cd_event.specs.declared.faults.MergeFault.TheVariants as merge
use Rattle.cd_event.specs.declared.faults.UnpinFault.{UnpinFault}
use Rattle.cd_event.specs.declared.faults.UnpinFault.TheVariants as unpin
use Rattle.cd_event.specs.declared.faults.ExpireFault.{ExpireFault}
use Rattle.cd_event.specs.declared.faults.ExpireFault.TheVariants as expire

-- the full name of a worker's task
abbrev pub who_of : At → ℕ → Who
who_of at worker = record { phase = at.phase; worker = worker; task = at.task }

module _ {H : Type 0} where
  abbrev pub entry_of : Who → Event H → Reply → Entry H
  entry_of who event reply = record { who = who; event = event; reply = reply }

  -- what a call adds to the entries: one that has its reply, and none where it found no memory
  abbrev pub entries_of : Who → Event H → Option Reply → List (Entry H)
  entries_of who event None = []
  entries_of who event (Some reply) = entry_of who event reply ∷ []

-- each fault as a refusal; want of memory is none
abbrev pub zero_refusal : ZeroFault → Option Refusal
zero_refusal zero.Known = Some refusal.Known
zero_refusal (zero.Lineage fault) = Some (refusal.Lineage fault)
zero_refusal (zero.ZeroHash stated real) = Some (refusal.ZeroHash stated real)
zero_refusal (zero.Clash hash stored offered) = Some (refusal.Clash hash stored offered)
zero_refusal (zero.CountFull hash count) = Some (refusal.CountFull hash count)
zero_refusal zero.Keeper = Some refusal.Keeper
zero_refusal zero.Memory = None

abbrev pub pin_refusal : PinFault → Option Refusal
pin_refusal pin.UnknownBlock = Some refusal.UnknownBlock
pin_refusal pin.PinsFull = Some refusal.PinsFull
pin_refusal pin.Memory = None

abbrev pub look_refusal : LookFault → Option Refusal
look_refusal look.NoPin = Some refusal.NoPin
look_refusal look.Keeper = Some refusal.Keeper
look_refusal look.Memory = None

abbrev pub merge_refusal : MergeFault → Option Refusal
merge_refusal merge.NoPin = Some refusal.NoPin
merge_refusal merge.WrongPin = Some refusal.WrongPin
merge_refusal merge.Known = Some refusal.Known
merge_refusal (merge.Lineage fault) = Some (refusal.Lineage fault)
merge_refusal (merge.Clash hash stored offered) = Some (refusal.Clash hash stored offered)
merge_refusal (merge.CountFull hash count) = Some (refusal.CountFull hash count)
merge_refusal merge.Keeper = Some refusal.Keeper
merge_refusal merge.Memory = None

abbrev pub unpin_refusal : UnpinFault → Option Refusal
unpin_refusal unpin.NoPin = Some refusal.NoPin
unpin_refusal unpin.Keeper = Some refusal.Keeper
unpin_refusal unpin.Memory = None

abbrev pub expire_refusal : ExpireFault → Option Refusal
expire_refusal expire.UnknownBlock = Some refusal.UnknownBlock
expire_refusal expire.NotMaster = Some refusal.NotMaster
expire_refusal (expire.TopMissing top) = Some (refusal.TopMissing top)
expire_refusal expire.Keeper = Some refusal.Keeper
expire_refusal expire.Memory = None

abbrev pub refused : Option Refusal → Option Reply
refused None = None
refused (Some why) = Some (reply.Refused why)

-- the reply that stands in the journal for each answer
abbrev pub zero_reply : Result Stored ZeroFault → Option Reply
zero_reply (Ok stored) = Some reply.Stored
zero_reply (Err fault) = refused (zero_refusal fault)

abbrev pub pin_reply : Result Pinned PinFault → Option Reply
pin_reply (Ok pinned) = Some (reply.Pinned pinned.pin)
pin_reply (Err fault) = refused (pin_refusal fault)

abbrev pub look_reply : {A : Type 0} → Result A LookFault → Option Reply
look_reply (Ok found) = Some reply.Looked
look_reply (Err fault) = refused (look_refusal fault)

abbrev pub merge_reply : Result Stored MergeFault → Option Reply
merge_reply (Ok stored) = Some reply.Stored
merge_reply (Err fault) = refused (merge_refusal fault)

abbrev pub unpin_reply : Result Bool UnpinFault → Option Reply
unpin_reply (Ok collected) = Some (reply.Unpinned collected)
unpin_reply (Err fault) = refused (unpin_refusal fault)

abbrev pub expire_reply : Result ℕ ExpireFault → Option Reply
expire_reply (Ok gone) = Some (reply.Expired gone)
expire_reply (Err fault) = refused (expire_refusal fault)
