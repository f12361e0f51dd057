use Rattle.std.proofs.Common.{[], inl}
use Rattle.cd_run.proofs.TurnLaws.{stage_map}
use Rattle.cd_run.proofs.merged_task.let_both_go.Goals as goal

pub let_go-requires-clause-live : goal.let_go-requires-clause-live
let_go-requires-clause-live g c = c.requires.pinned.1.1.left.live

pub returns-in-Err : goal.returns-in-Err
returns-in-Err g c = stage_map g.T.Turns.worker g.T.Turns.faults g.T.Turns.made g.T.Turns.goes g.T.Turns.named [] _ _ c.args.turns.now c.let_go.new.turns (λ es none. inl none) c.in-Err.ensures
