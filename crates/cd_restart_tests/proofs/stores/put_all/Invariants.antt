use Rattle.std.proofs.Common.{◌≡◌, []}
use Rattle.cd_restart_tests.proofs.stores.put_all.Given as goal

abbrev pub invariant-loop-put : goal.invariant-loop-put
invariant-loop-put l = l.keeper.trail ≡ []
