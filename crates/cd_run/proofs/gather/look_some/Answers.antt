use Rattle.std.proofs.Common.{Ok, Err, ap}
use Rattle.std.specs.Prelude.{length}
use Rattle.cd_event.specs.declared.event.Event.TheVariants as event
use Rattle.cd_event.specs.declared.faults.LookFault.TheVariants as look
use Rattle.cd_event.specs.Pins.{is_live}
use Rattle.cd_run.proofs.StageLaws.{stage_call}
use Rattle.cd_run.proofs.ParentLaws.{its_name, not_gone, look_called}
use Rattle.cd_run.proofs.gather.look_some.Goals as goal

pub stop_of_look-requires : goal.stop_of_look-requires
stop_of_look-requires g c = λ bad. not_gone _ (is_live c.args.pin (g.T.Turns.made c.args.turns.now)) (Err look.NoPin) (Err c.in-Err.fault) c.requires.live c.in-Err.ensures.no_pin (ap (λ f. Err f) bad)

pub returns-in-Ok-clause-looks : goal.returns-in-Ok-clause-looks
returns-in-Ok-clause-looks g c =
    stage_call g.T.Turns.worker g.T.Turns.faults g.T.Turns.made g.T.Turns.goes g.T.Turns.named c.args.who c.at_of.result c.args.turns.now c.look.new.self (event.Look c.args.pin (length c.args.hashes.now)) _ _
    (its_name c.args.who _ _ c.at_of.ensures c.requires.worker) c.in-Ok.ensures.turned c.in-Ok.ensures.named
    (look_called g.row.T-Hash.Denot c.args.who c.args.pin (length c.args.hashes.now) (Ok c.in-Ok.found) (λ e. cc))

pub returns-in-Err-clause-looks : goal.returns-in-Err-clause-looks
returns-in-Err-clause-looks g c =
    rw c.stop_of_look.ensures
    (stage_call g.T.Turns.worker g.T.Turns.faults g.T.Turns.made g.T.Turns.goes g.T.Turns.named c.args.who c.at_of.result c.args.turns.now c.look.new.self (event.Look c.args.pin (length c.args.hashes.now)) _ _
    (its_name c.args.who _ _ c.at_of.ensures c.requires.worker) c.in-Err.ensures.turned c.in-Err.ensures.named
    (look_called g.row.T-Hash.Denot c.args.who c.args.pin (length c.args.hashes.now) (Err c.in-Err.fault)
    (not_gone _ (is_live c.args.pin (g.T.Turns.made c.args.turns.now)) (Err look.NoPin) (Err c.in-Err.fault) c.requires.live c.in-Err.ensures.no_pin)))
