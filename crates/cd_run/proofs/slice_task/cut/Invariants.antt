use Rattle.std.proofs.Common.{◌≡◌, ◌-◌, ℕ, List, take, Some}
use Rattle.sha2.specs.Hashers.{Holds256}
use Rattle.cd_cell.specs.Tree.{Tree}
use Rattle.cd_boc_write.specs.Exports.{bag_of}
use Rattle.cd_slices.specs.Planned.{IsPlanOfTree}
use Rattle.cd_run.proofs.CutLaws.{AreCut}
use Rattle.cd_run.proofs.slice_task.cut.Given as goal

abbrev pub invariant-loop-offset : goal.invariant-loop-offset
invariant-loop-offset g l =
    let look = g.L.LookUp in
    let H = g.L.Hash.Hash32.digest_of in
    record {
      ready : look.ready l.look;
      tree : look.tree l.look ≡ look.tree l.fn.look;
      cut : AreCut l.len l.max l.offset l.slices;
      hashed : (sent : List ℕ) × Holds256 l.hasher sent × ((t : Tree) → look.tree l.fn.look ≡ Some t → IsPlanOfTree H t l.export → sent ≡ take l.offset (bag_of H t));
      went : look.goes l.fn.look l.look;
    }

abbrev pub decreases-loop-offset : goal.decreases-loop-offset
decreases-loop-offset g l = l.len - l.offset
