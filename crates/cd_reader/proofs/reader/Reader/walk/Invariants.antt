use Rattle.std.proofs.Common.{◌≡◌, ◌+◌, ◌≤◌, take}
use Rattle.cd_cell.specs.GoodFace.{IsGoodFace}
use Rattle.cd_looks.specs.Answers.{AskedAtMost}
use Rattle.cd_reader.proofs.PathLaws.{IsAlong}
use Rattle.cd_reader.proofs.reader.Reader.walk.Given as goal

abbrev pub invariant-loop-at : goal.invariant-loop-at
invariant-loop-at g l =
    let look = g.L.LookUp in
    record {
      along : IsAlong g.L.Hash.Hash32.digest_of (look.tree l.fn.self.look) (take l.at l.path) l.face;
      good : IsGoodFace l.face;
      ready : look.ready l.self.look;
      tree : look.tree l.self.look ≡ look.tree l.fn.self.look;
      root : l.self.root ≡ l.fn.self.root;
      room : l.self.held.cap ≡ l.fn.self.held.cap;
      asked : AskedAtMost (l.at + 1) (look.asked l.fn.self.look) (look.asked l.self.look);
      went : look.goes l.fn.self.look l.self.look;
      faults : look.faults l.self.look ≡ look.faults l.fn.self.look;
    }
