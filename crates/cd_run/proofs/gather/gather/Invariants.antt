use Rattle.std.proofs.Common.{◌≡◌, ◌≤◌, ◌-◌, [], length, take}
use Rattle.cd_event.specs.Turning.{AreHeldFaces}
use Rattle.cd_run.specs.Stages.{Stage}
use Rattle.cd_run.specs.Merging.{OnlyLooks}
use Rattle.cd_run.proofs.gather.gather.Given as goal

abbrev pub invariant-loop-at : goal.invariant-loop-at
invariant-loop-at g l = record {
  within : l.at ≤ length l.hashes;
  count : length l.faces.items ≡ l.at;
  looked : Stage g.T.Turns.worker g.T.Turns.faults g.T.Turns.made g.T.Turns.goes g.T.Turns.named [] (OnlyLooks l.who l.pin) l.initial.turns l.turns;
  found : AreHeldFaces g.T.Hash.Hash32.digest_of (g.T.Turns.made l.initial.turns) (g.T.Turns.named l.initial.turns) (take l.at l.hashes) l.faces.items;
}

abbrev pub decreases-loop-at : goal.decreases-loop-at
decreases-loop-at g l = length l.hashes - l.at
