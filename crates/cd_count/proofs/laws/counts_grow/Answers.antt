use Rattle.cd_count.proofs.Changes as changes
use Rattle.cd_count.proofs.laws.counts_grow.Goals as goal

pub returns : goal.returns
returns c = λ H. changes.counts_grow H
