-- Inner: what a refusal's word makes of a task: its end, or why it goes no further. No word is want of memory.
use Rattle.std.specs.Prelude.{◌≡◌, ◌≢◌, ◌⊎◌, Option, Some, None, Result, Ok, Err}
use Rattle.cd_base.specs.declared.answers.Memory.{Memory}
use Rattle.cd_boc_read.specs.declared.bag_fault.BagFault.{BagFault}
use Rattle.cd_boc_read.specs.declared.bag_fault.BagFault.TheVariants as bag
use Rattle.cd_run.specs.declared.outcome.Outcome.{Outcome}
use Rattle.cd_run.specs.declared.outcome.Outcome.TheVariants as outcome
use Rattle.cd_run.specs.declared.outcome.TaskRefusal.{TaskRefusal}
use Rattle.cd_run.specs.declared.outcome.TaskRefusal.TheVariants as word
use Rattle.cd_run.specs.declared.words.Stop.{Stop}
use Rattle.cd_run.specs.declared.words.Stop.TheVariants as stop

abbrev pub no_memory : Memory
no_memory = record {}

abbrev pub ended : Option TaskRefusal → Result Outcome Memory
ended None = Err no_memory
ended (Some why) = Ok (outcome.Refused why)

abbrev pub stopped : Option TaskRefusal → Stop
stopped None = stop.Memory
stopped (Some why) = stop.Refused why

abbrev pub stop_end : Stop → Result Outcome Memory
stop_end stop.Memory = Err no_memory
stop_end (stop.Refused why) = Ok (outcome.Refused why)

-- a bag's fault has one word, but for want of memory
abbrev pub IsBagStop : BagFault → Stop → Type 0
IsBagStop fault why = ((fault ≡ bag.Memory) × (why ≡ stop.Memory))
    ⊎ ((fault ≢ bag.Memory) × (why ≡ stop.Refused word.Bag))
