use Rattle.cd_nodes.proofs.Counts.{held_at-grown, count-grown}
use Rattle.cd_nodes.proofs.counts_grow.Goals as goal

pub returns : goal.returns
returns g c = λ G laws few more many news sum clear new h. (held_at-grown G laws few more many sum clear news new h, count-grown G laws few more many sum clear news new h)
