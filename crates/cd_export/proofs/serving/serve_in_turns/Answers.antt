use Rattle.cd_export.proofs.OnOpened.{serve-fit, served-on}
use Rattle.cd_export.proofs.serving.serve_in_turns.Goals as goal

pub do_task-requires-clause-within : goal.do_task-requires-clause-within
do_task-requires-clause-within g c κs within = serve-fit c.args.id c.args.max c.requires.some c.requires.most

pub returns-clause-served : goal.returns-clause-served
returns-clause-served g c =
    let did = c.do_task.ensures.did in
    served-on g.H.Hash32.digest_of g.K.Keeper.held g.K.Keeper.faults c.args.id c.args.max c.args.turns.now.worker c.do_task.new.turns.worker
    c.args.turns.now.core.now c.do_task.new.turns.core.now did.entries c.do_task.result
    c.requires.worker did.same_worker c.requires.opened did.went.2 did.added did.answers did.caused
