use Rattle.std.proofs.Common.{◌≡◌, length}
use Rattle.cd_event.specs.Turning.{AreGood}
use Rattle.cd_fan_tests.proofs.listed.ListedLookLookUp.look.Given as goal

abbrev pub invariant-loop-hash : goal.invariant-loop-hash
invariant-loop-hash l = record {
  counted : length l.found.items ≡ l.hash-index;
  good : AreGood l.found.items;
}
