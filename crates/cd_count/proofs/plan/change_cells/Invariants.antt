use Rattle.std.proofs.Common.{◌≡◌, ◌++◌, map}
use Rattle.cd_keeper.specs.Shown.{entries_of, hash_bytes}
use Rattle.cd_nodes.specs.Plans as plans
use Rattle.cd_record.specs.RecordText.{record_text}
use Rattle.cd_count.specs.PlanRows.{rows_of, AreRowsFit, AreOfBytes}
use Rattle.cd_count.proofs.plan.change_cells.Given as goal

abbrev pub invariant-loop-hash : goal.invariant-loop-hash
invariant-loop-hash l = record {
  fit : AreRowsFit (rows_of l.hash-iterator);
  puts : entries_of hash_bytes l.puts.items ++ plans.puts record_text (rows_of l.hash-iterator)
      ≡ entries_of hash_bytes l.initial.puts.items ++ plans.puts record_text (rows_of l.rows.entries);
  drops : map hash_bytes l.drops.items ++ plans.drops record_text (rows_of l.hash-iterator)
      ≡ map hash_bytes l.initial.drops.items ++ plans.drops record_text (rows_of l.rows.entries);
  bytes : AreOfBytes (entries_of hash_bytes l.initial.puts.items) → AreOfBytes (entries_of hash_bytes l.puts.items);
}
