-- Trusted: a look's fault as a plan's and as a slice's.
use Rattle.std.specs.Prelude.{◌≡◌, ℕ, nat_lt, if◌then◌else◌, Option, Some, None, Bool, false, true, Result, Ok, Err}
use Rattle.cd_event.specs.declared.faults.LookFault.{LookFault}
use Rattle.cd_event.specs.declared.faults.LookFault.TheVariants as look
use Rattle.cd_slices.specs.declared.export.TheConstants.{MOST_SLICE}
use Rattle.cd_slices.specs.declared.faults.PlanFault.{PlanFault}
use Rattle.cd_slices.specs.declared.faults.PlanFault.TheVariants as plan
use Rattle.cd_slices.specs.declared.faults.SliceFault.{SliceFault}
use Rattle.cd_slices.specs.declared.faults.SliceFault.TheVariants as slice

-- want of memory is the plan's and the slice's own
abbrev pub plan_fault : LookFault → PlanFault
plan_fault look.Memory = plan.Memory
plan_fault look.Keeper = plan.Look look.Keeper
plan_fault look.NoPin = plan.Look look.NoPin

abbrev pub slice_fault : LookFault → SliceFault
slice_fault look.Memory = slice.Memory
slice_fault look.Keeper = slice.Look look.Keeper
slice_fault look.NoPin = slice.Look look.NoPin

-- whether a look of the call failed by the keeper
abbrev pub is_plan_failed : {A : Type 0} → Result A PlanFault → Bool
is_plan_failed (Err (plan.Look look.Keeper)) = true
is_plan_failed _ = false

abbrev pub is_slice_failed : {A : Type 0} → Result A SliceFault → Bool
is_slice_failed (Err (slice.Look look.Keeper)) = true
is_slice_failed _ = false

-- no refusal of a slice's own: a look failed, or memory ran out
abbrev pub IsLookFault : {A : Type 0} → Result A SliceFault → Type 0
IsLookFault (Ok done) = Unit {0}
IsLookFault (Err (slice.Look fault)) = fault ≡ look.Keeper
IsLookFault (Err slice.Memory) = Unit {0}
IsLookFault (Err (slice.PastEnd offset len)) = ⊥
IsLookFault (Err (slice.SliceBig max)) = ⊥

-- the refusal of a slice, if there is one: the offset lies behind the text, or else the slice may not be so big
abbrev pub slice_refusal : ℕ → ℕ → ℕ → Option SliceFault
slice_refusal len offset max = if nat_lt len offset then Some (slice.PastEnd offset len) else (if nat_lt MOST_SLICE max then Some (slice.SliceBig max) else None)
