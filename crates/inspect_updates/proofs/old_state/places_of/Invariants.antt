use Rattle.std.proofs.Common.{take}
use Rattle.inspect_updates.specs.OldStates.{IsIndexed}
use Rattle.inspect_updates.proofs.old_state.places_of.Given as goal

abbrev pub invariant-loop-place : goal.invariant-loop-place
invariant-loop-place l = IsIndexed l.places (take l.place l.cells)
