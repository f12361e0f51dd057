use Rattle.std.proofs.Common.{sym, ◌∙◌, subst₂}
use Rattle.cd_command.specs.declared.status.Status.{Status}
use Rattle.cd_command.specs.Opening.{IsUnopenedBy}
use Rattle.cd_command.proofs.Unopened.{unopened-by}
use Rattle.cd_command.proofs.opening.open_store.Goals as goal

pub returns-in-Err-clause-refused : goal.returns-in-Err-clause-refused
returns-in-Err-clause-refused g c =
    subst₂ (λ (now : g.row.K.Denot) (end : Status). IsUnopenedBy g.H.Hash32.digest_of g.K.Keeper c.args.keeper now end) (sym c.of.ensures.keeper) (sym (c.of.ensures.status ∙ c.status_by.ensures))
    (unopened-by g.H.Hash32.digest_of g.K.Keeper c.args.keeper c.in-Err.keeper c.in-Err.fault c.in-Err.ensures.refused)
