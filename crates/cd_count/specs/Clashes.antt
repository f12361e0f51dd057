-- Trusted: where a plan refuses for a clash, and where for a count.
use Rattle.std.specs.Prelude.{◌≡◌, Option, Some, None, Result, Ok, Err}
use Rattle.cd_event.specs.declared.refusal.Refusal.{Refusal}
use Rattle.cd_event.specs.declared.refusal.Refusal.TheVariants as refusal
use Rattle.cd_count.specs.declared.count_fault.CountFault.{CountFault}
use Rattle.cd_count.specs.declared.count_fault.CountFault.TheVariants.{Clash, CountFull, Keeper, Memory}

-- a fault of the keeper or want of memory
abbrev pub IsOutside : CountFault → Type 0
IsOutside Keeper = Unit {0}
IsOutside Memory = Unit {0}
IsOutside (Clash hash stored offered) = ⊥
IsOutside (CountFull hash count) = ⊥

-- the plan refuses for this clash, or for none, unless it fails
abbrev pub RefusesClash : {T : Type 0} → Option Refusal → Result T CountFault → Type 0
RefusesClash first (Ok plan) = first ≡ None
RefusesClash first (Err (Clash hash stored offered)) = first ≡ Some (refusal.Clash hash stored offered)
RefusesClash first (Err (CountFull hash count)) = first ≡ None
RefusesClash first (Err Keeper) = Unit {0}
RefusesClash first (Err Memory) = Unit {0}

-- the plan refuses for this count, or for none, unless it fails or refuses for a clash
abbrev pub RefusesFull : {T : Type 0} → Option Refusal → Result T CountFault → Type 0
RefusesFull first (Ok plan) = first ≡ None
RefusesFull first (Err (CountFull hash count)) = first ≡ Some (refusal.CountFull hash count)
RefusesFull first (Err (Clash hash stored offered)) = Unit {0}
RefusesFull first (Err Keeper) = Unit {0}
RefusesFull first (Err Memory) = Unit {0}
