use Rattle.cd_nodes.proofs.Worklists.{underway-begun, underway-next, underway-ended, underway-few}
use Rattle.cd_nodes.proofs.worklists_collect.Goals as goal

pub returns-clause-begins : goal.returns-clause-begins
returns-clause-begins g c = λ G laws few gone many sum clear counts are. underway-begun G laws many clear few gone sum counts are

pub returns-clause-goes_on : goal.returns-clause-goes_on
returns-clause-goes_on g c = λ G laws few gone many sum clear s next so d below is. underway-next G laws many clear few gone sum s next so d below is

pub returns-clause-ends : goal.returns-clause-ends
returns-clause-ends g c = λ G laws few gone many sum clear s next so over. underway-ended G laws many clear few gone sum s next so over

pub returns-clause-within : goal.returns-clause-within
returns-clause-within g c = λ G laws few gone many sum clear s next so dead are. underway-few G laws many clear few gone sum s next so dead are
