use Rattle.std.proofs.Common.{◌≡◌, drop}
use Rattle.cd_block.specs.Expiry.{is_passed}
use Rattle.cd_block.proofs.Passing.{passed_from}
use Rattle.cd_block.proofs.expiry.is_passed.Given as goal

abbrev pub invariant-loop-top : goal.invariant-loop-top
invariant-loop-top l = passed_from l.meets_one l.id (drop l.top-index l.tops) ≡ is_passed l.id l.tops
