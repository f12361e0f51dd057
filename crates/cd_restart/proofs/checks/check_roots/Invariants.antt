use Rattle.std.proofs.Common.{ℕ, List, ◌++◌, take, IfSome}
use Rattle.cd_base.specs.declared.hash.Hash256.{Hash256}
use Rattle.cd_restart.specs.Stored.{Stored}
use Rattle.cd_restart.specs.ScanFaults.{root_fault, depth_fault}
use Rattle.cd_restart.specs.Rows.{AreRowsOf, root_references}
use Rattle.cd_restart.specs.Answers.{IsOwn}
use Rattle.cd_restart.proofs.Loops.{IsUnderWay}
use Rattle.cd_restart.proofs.checks.check_roots.Given as goal

abbrev pub invariant-loop-block : goal.invariant-loop-block
invariant-loop-block l = record {
  told : (H : List ℕ → Hash256) (cells : List Stored) (hashes : List Hash256) → AreRowsOf H cells hashes l.fn.rows
      → IsUnderWay (root_fault cells) (depth_fault cells) l.blocks l.block-index l.deep
      × AreRowsOf H cells (hashes ++ root_references (take l.block-index l.blocks)) l.rows;
  own : IfSome l.deep IsOwn;
}
