use Rattle.std.proofs.Common.{◌≡◌, map, take}
use Rattle.inspect_updates.specs.OldStates.{face_in}
use Rattle.inspect_updates.proofs.old_state.OldState.faces.Given as goal

abbrev pub invariant-loop-hash : goal.invariant-loop-hash
invariant-loop-hash g l = l.faces.items ≡ map (face_in l.self.whole.cells) (take l.hash-index l.hashes)
