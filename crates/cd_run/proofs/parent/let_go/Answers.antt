use Rattle.std.proofs.Common.{Ok, Err, ap}
use Rattle.cd_event.specs.declared.event.Event.TheVariants as event
use Rattle.cd_event.specs.declared.faults.UnpinFault.TheVariants as unpin
use Rattle.cd_event.specs.Pins.{is_live}
use Rattle.cd_run.proofs.StageLaws.{stage_call}
use Rattle.cd_run.proofs.ParentLaws.{its_name, not_gone, unpin_called}
use Rattle.cd_run.proofs.parent.let_go.Goals as goal

pub end_of_unpin-requires : goal.end_of_unpin-requires
end_of_unpin-requires g c = λ bad. not_gone _ (is_live c.args.pin (g.T.Turns.made c.args.turns.now)) (Err unpin.NoPin) (Err c.in-Err.fault) c.requires.live c.in-Err.ensures.no_pin (ap (λ f. Err f) bad)

pub returns-in-Ok : goal.returns-in-Ok
returns-in-Ok g c =
    stage_call g.T.Turns.worker g.T.Turns.faults g.T.Turns.made g.T.Turns.goes g.T.Turns.named c.args.who c.at_of.result c.args.turns.now c.unpin.new.self (event.Unpin c.args.pin) _ _
    (its_name c.args.who _ _ c.at_of.ensures c.requires.worker) c.in-Ok.ensures.turned c.in-Ok.ensures.named
    (unpin_called g.row.T-Hash.Denot c.args.who c.args.pin (Ok c.in-Ok.field-0) (λ e. cc))

pub returns-in-Err : goal.returns-in-Err
returns-in-Err g c =
    rw c.end_of_unpin.ensures
    (stage_call g.T.Turns.worker g.T.Turns.faults g.T.Turns.made g.T.Turns.goes g.T.Turns.named c.args.who c.at_of.result c.args.turns.now c.unpin.new.self (event.Unpin c.args.pin) _ _
    (its_name c.args.who _ _ c.at_of.ensures c.requires.worker) c.in-Err.ensures.turned c.in-Err.ensures.named
    (unpin_called g.row.T-Hash.Denot c.args.who c.args.pin (Err c.in-Err.fault)
    (not_gone _ (is_live c.args.pin (g.T.Turns.made c.args.turns.now)) (Err unpin.NoPin) (Err c.in-Err.fault) c.requires.live c.in-Err.ensures.no_pin)))
