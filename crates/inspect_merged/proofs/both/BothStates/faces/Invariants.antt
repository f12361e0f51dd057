use Rattle.std.proofs.Common.{◌≡◌, map, take}
use Rattle.inspect_merged.specs.BothStates.{face_in_both}
use Rattle.inspect_merged.proofs.both.BothStates.faces.Given as goal

abbrev pub invariant-loop-hash : goal.invariant-loop-hash
invariant-loop-hash g l = l.faces.items ≡ map (face_in_both l.self.left.whole.cells l.self.right.whole.cells) (take l.hash-index l.hashes)
