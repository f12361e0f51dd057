use Rattle.std.proofs.Common.{IfOk, subst}
use Rattle.cd_reader.specs.Paths.{WalksTo}
use Rattle.cd_run.specs.Finds.{ReadFinds}
use Rattle.cd_run.proofs.PinLaws.{by_told}
use Rattle.cd_run.proofs.read_task.read_in.Goals as goal

pub returns-in-Ok-clause-finds : goal.returns-in-Ok-clause-finds
returns-in-Ok-clause-finds g c =
    let H = g.L.Hash.Hash32.digest_of in
    let path = c.args.path.now in
    subst (λ l. IfOk c.end_of_walk-end.result (ReadFinds H path (g.L.LookUp.tree l))) c.in-Ok.ensures.look.0
    (by_told (λ told. IfOk c.end_of_walk-end.result (ReadFinds H path told)) (λ t. WalksTo H t path c.walk.result) (g.L.LookUp.tree c.in-Ok.reader.look)
    (c.end_of_walk-end.ensures.any path) (λ t. c.end_of_walk-end.ensures.finds t path) c.walk.ensures.walks)
