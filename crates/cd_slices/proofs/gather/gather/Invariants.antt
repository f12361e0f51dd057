use Rattle.std.proofs.Common.{◌≡◌, ◌<◌, ◌-◌, length}
use Rattle.std.specs.Prelude.{IfSome}
use Rattle.cd_cell.specs.declared.limits.TheConstants.{MOST_CELLS}
use Rattle.cd_event.specs.Pins.{IsState}
use Rattle.cd_event.specs.Turning.{counted}
use Rattle.cd_slices.specs.Gathering.{AreTold, IsGathered}
use Rattle.cd_slices.specs.Ranks.{rank_of_info, IsKnown}
use Rattle.cd_slices.proofs.gather.gather.Given as goal

abbrev pub invariant-loop-all : goal.invariant-loop-all
invariant-loop-all g l =
    let look = g.L.LookUp in
    let H = g.L.Hash.Hash32.digest_of in
    record {
      ready : look.ready l.look;
      told : look.tree l.look ≡ look.tree l.fn.look;
      whole : IsGathered l.all;
      cells : AreTold H (look.tree l.fn.look) l.all;
      top : IsKnown l.all.places (rank_of_info l.root);
      state : 0 < length l.all.faces.items → IfSome (look.tree l.fn.look) (IsState H);
      asked : look.asked l.look ≡ counted (look.asked l.fn.look) (length l.all.faces.items);
      went : look.goes l.fn.look l.look;
      faults : look.faults l.look ≡ look.faults l.fn.look;
    }

abbrev pub decreases-loop-all : goal.decreases-loop-all
decreases-loop-all g l = MOST_CELLS - length l.all.faces.items
