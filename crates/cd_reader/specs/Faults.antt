-- Trusted: a look's fault as a walk's.
use Rattle.cd_event.specs.declared.faults.LookFault.{LookFault}
use Rattle.cd_event.specs.declared.faults.LookFault.TheVariants as look
use Rattle.cd_reader.specs.declared.walk_fault.WalkFault.{WalkFault}
use Rattle.cd_reader.specs.declared.walk_fault.WalkFault.TheVariants as walk

-- want of memory is the walk's own
abbrev pub walk_fault : LookFault → WalkFault
walk_fault look.Memory = walk.Memory
walk_fault look.Keeper = walk.Look look.Keeper
walk_fault look.NoPin = walk.Look look.NoPin
