-- Trusted: a slice's fault as that of a fan. A slice that is asked for within the text and the limit is refused by a look or by memory alone.
use Rattle.cd_slices.specs.declared.faults.SliceFault.{SliceFault}
use Rattle.cd_slices.specs.declared.faults.SliceFault.TheVariants as slice
use Rattle.cd_fan.specs.declared.fan_fault.FanFault.{FanFault}
use Rattle.cd_fan.specs.declared.fan_fault.FanFault.TheVariants as fan

abbrev pub fan_fault : SliceFault → FanFault
fan_fault (slice.Look fault) = fan.Look fault
fan_fault slice.Memory = fan.Memory
fan_fault (slice.PastEnd offset len) = fan.Memory
fan_fault (slice.SliceBig max) = fan.Memory
