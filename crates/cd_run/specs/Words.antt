-- Trusted: each refusal as the word that the report has for it.
use Rattle.std.specs.Prelude.{Option, Some, None}
use Rattle.cd_event.specs.declared.refusal.Refusal.{Refusal}
use Rattle.cd_event.specs.declared.refusal.Refusal.TheVariants as refusal
use Rattle.cd_update.specs.declared.update_fault.UpdateFault.{UpdateFault}
use Rattle.cd_update.specs.declared.update_fault.UpdateFault.TheVariants as update
use Rattle.cd_prepare.specs.declared.prepare_fault.PrepareFault.{PrepareFault}
use Rattle.cd_prepare.specs.declared.prepare_fault.PrepareFault.TheVariants as prepare
use Rattle.cd_run.specs.declared.outcome.TaskRefusal.{TaskRefusal}
use Rattle.cd_run.specs.declared.outcome.TaskRefusal.TheVariants as word

-- of the core; the two that no run of a feed meets have none
abbrev pub word_of : Refusal → Option TaskRefusal
word_of refusal.Known = Some word.Known
word_of (refusal.Lineage fault) = Some word.Lineage
word_of (refusal.ZeroHash stated real) = Some word.ZeroHash
word_of (refusal.Clash hash stored offered) = Some word.Clash
word_of (refusal.CountFull hash count) = Some word.CountFull
word_of refusal.UnknownBlock = Some word.UnknownBlock
word_of refusal.PinsFull = Some word.PinsFull
word_of refusal.NoPin = None
word_of refusal.WrongPin = None
word_of refusal.NotMaster = Some word.NotMaster
word_of (refusal.TopMissing top) = Some word.TopMissing
word_of refusal.Keeper = Some word.Keeper

-- of a bag that has no update
abbrev pub update_word : UpdateFault → TaskRefusal
update_word update.NotUpdate = word.NotUpdate
update_word (update.Level mask) = word.Level

-- of preparing; want of memory has none
abbrev pub prepare_word : PrepareFault → Option TaskRefusal
prepare_word (prepare.Roots roots) = Some word.Roots
prepare_word (prepare.Level mask) = Some word.Level
prepare_word (prepare.OldHash stated real) = Some word.OldHash
prepare_word (prepare.OldDepth stated real) = Some word.OldDepth
prepare_word (prepare.OldHalf hash stored shown) = Some word.OldHalf
prepare_word (prepare.Foreign hash) = Some word.Foreign
prepare_word (prepare.NewClash hash) = Some word.NewClash
prepare_word (prepare.SplitDeep depth) = Some word.SplitDeep
prepare_word prepare.Memory = None
