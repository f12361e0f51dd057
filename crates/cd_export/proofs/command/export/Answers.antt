use Rattle.cd_export.proofs.ExportLaws.{unopened-ends, command-ends}
use Rattle.cd_export.proofs.command.export.Goals as goal

pub returns-in-Err : goal.returns-in-Err
returns-in-Err g c =
    unopened-ends g.H.Hash32.digest_of g.K.Keeper g.O.Sink (λ b. (goal.SliceClient-dyn g (b.vtable, b.value)).got b.value) (λ b. (goal.SliceClient-dyn g (b.vtable, b.value)).steady b.value)
    c.args.id c.args.out.now c.args.keeper c.in-Err.ended.keeper c.args.clients.now.items c.in-Err.ended.journal.items c.in-Err.ended.status
    c.in-Err.ensures.refused c.in-Err.ensures.no_entry

pub returns : goal.returns
returns g c =
    command-ends g.H.Hash32.digest_of g.K.Keeper g.O.Sink (λ b. (goal.SliceClient-dyn g (b.vtable, b.value)).got b.value) (λ b. (goal.SliceClient-dyn g (b.vtable, b.value)).steady b.value)
    c.args.id c.args.keeper c.in-Ok.core c.in-Ok.ensures.opened c.in-Ok.ensures.kept c.serve-answer.result.journal.items c.serve-answer.result.keeper c.serve-answer.ensures.kept
    c.args.max c.serve-answer.result.answer c.args.clients.now.items c.serve-answer.new.clients.items c.args.out.now c.tell.new.out c.tell.result
    c.serve-answer.ensures.served c.requires.fresh c.serve-answer.ensures.clients c.tell.ensures
