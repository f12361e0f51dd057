use Rattle.std.proofs.Common.{ℕ, List, ◌++◌, map, take, IfSome}
use Rattle.cd_base.specs.declared.hash.Hash256.{Hash256}
use Rattle.cd_cell.specs.Infos.{rep_of_info}
use Rattle.cd_restart.specs.Stored.{Stored}
use Rattle.cd_restart.specs.ScanFaults.{missing_kid, other_kid}
use Rattle.cd_restart.specs.Rows.{AreRowsOf}
use Rattle.cd_restart.specs.Answers.{IsOwn}
use Rattle.cd_restart.proofs.Loops.{IsUnderWay}
use Rattle.cd_restart.proofs.checks.check_kids_of.Given as goal

abbrev pub invariant-loop-kid : goal.invariant-loop-kid
invariant-loop-kid l = record {
  told : (H : List ℕ → Hash256) (cells : List Stored) (hashes : List Hash256) → AreRowsOf H cells hashes l.fn.rows
      → IsUnderWay (missing_kid H cells l.fn.parent) (other_kid H cells l.fn.parent) l.kids l.kid-index l.other
      × AreRowsOf H cells (hashes ++ map rep_of_info (take l.kid-index l.kids)) l.rows;
  own : IfSome l.other IsOwn;
}
