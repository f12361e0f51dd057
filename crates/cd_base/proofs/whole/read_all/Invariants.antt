use Rattle.std.proofs.Common.{◌≡◌, ◌≤◌, ◌+◌, length}
use Rattle.cd_base.specs.Told.{Gave}
use Rattle.cd_base.proofs.whole.read_all.Given as goal

-- the bytes so far are gone from the source, and with the room that is left they make the limit
abbrev pub invariant-loop-bytes : goal.invariant-loop-bytes
invariant-loop-bytes g l =
    let left = g.S.Source.left in
    record {
      gave : Gave (left l.fn.source) (left l.source) l.bytes.items;
      within : length l.bytes.items + l.room ≡ l.limit;
      counted : g.S.Source.faults l.source ≡ g.S.Source.faults l.fn.source;
    }

abbrev pub decreases-loop-bytes : goal.decreases-loop-bytes
decreases-loop-bytes g l = l.room
