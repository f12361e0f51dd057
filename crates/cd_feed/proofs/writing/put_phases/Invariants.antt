use Rattle.std.proofs.Common.{◌≡◌, ◌++◌, take}
use Rattle.std.specs.List.{flat_map}
use Rattle.cd_feed.specs.Feeds.{phase_text}
use Rattle.cd_feed.proofs.writing.put_phases.Given as goal

abbrev pub invariant-loop-phase : goal.invariant-loop-phase
invariant-loop-phase l = l.out ≡ l.fn.out ++ flat_map phase_text (take l.phase-index l.phases)
