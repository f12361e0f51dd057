use Rattle.std.proofs.Common.{◌≡◌, ◌+◌, ◌-◌, ◌≤◌}
use Rattle.cd_gen.proofs.PhaseLaws.{AreSoFar}
use Rattle.cd_gen.proofs.generator.make_feed.Given as goal

abbrev pub invariant-loop-seqno : goal.invariant-loop-seqno
invariant-loop-seqno l = record {
  phases : AreSoFar l.n l.phases.items (l.seqno - 1);
  number : l.chains.number ≡ l.n;
  left : l.chains.left.seqno + 1 ≡ l.seqno;
  right : l.chains.right.seqno + 1 ≡ l.seqno;
  master : l.seqno ≤ 66 → l.chains.master.seqno + 1 ≡ l.seqno;
}
