use Rattle.std.proofs.Common.{◌≡◌, drop}
use Rattle.cd_restart.specs.Lists.{first_of}
use Rattle.cd_restart.specs.ScanFaults.{lineage_refusal}
use Rattle.cd_restart.proofs.checks.check_lineages.Given as goal

abbrev pub invariant-loop-block : goal.invariant-loop-block
invariant-loop-block l = first_of lineage_refusal (drop l.block-index l.blocks) ≡ first_of lineage_refusal l.blocks
