-- So far nothing is committed.
use Rattle.std.proofs.Common.{◌≡◌}
use Rattle.sqlite.specs.Held.{state}
use Rattle.cd_keeper_sql.specs.OneStep.{IsInside}
use Rattle.cd_keeper_sql.proofs.database.fill_descs.Given as goal

abbrev pub invariant-drops : goal.invariant-drops
invariant-drops g l = record {
  same : l.transaction.conn.ghost_name ≡ l.fn.transaction.conn.ghost_name;
  inside : IsInside (state g.S.Store l.fn.transaction.conn.now) (state g.S.Store l.transaction.conn.now);
}

abbrev pub invariant-puts : goal.invariant-puts
invariant-puts g l = record {
  same : l.transaction.conn.ghost_name ≡ l.fn.transaction.conn.ghost_name;
  inside : IsInside (state g.S.Store l.fn.transaction.conn.now) (state g.S.Store l.transaction.conn.now);
}
