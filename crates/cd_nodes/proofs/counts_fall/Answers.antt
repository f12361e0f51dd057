use Rattle.std.proofs.Common.{arith}
use Rattle.cd_nodes.proofs.Counts.{count-grown, new-dead}
use Rattle.cd_nodes.proofs.Records.{held_at-less}
use Rattle.cd_nodes.proofs.counts_fall.Goals as goal

pub returns : goal.returns
returns g c = λ G laws few gone many dead sum clear ended h.
    let new = new-dead G laws few gone many sum clear dead ended in
    let grown = count-grown G laws few gone many sum clear dead new h in
    (held_at-less G laws few gone many sum clear dead new h, omega arith)
