use Rattle.std.proofs.Common.{◌≡◌, []}
use Rattle.cd_migrate_tests.proofs.tests.old_records.Given as goal

abbrev pub invariant-loop-number : goal.invariant-loop-number
invariant-loop-number l = l.keeper.trail ≡ []
