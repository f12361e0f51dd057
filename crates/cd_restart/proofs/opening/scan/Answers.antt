use Rattle.std.proofs.Common.{List, Ok, Err, sym, subst}
use Rattle.std.specs.Prelude.{IfSome}
use Rattle.cd_block.specs.declared.description.Descr.{Descr}
use Rattle.cd_restart.specs.Found.{opened_of}
use Rattle.cd_restart.specs.Opened.{IsOpened}
use Rattle.cd_restart.proofs.OpenedStores.{all-damaged, all-opened}
use Rattle.cd_restart.proofs.opening.scan.Goals as goal

pub returns-in-Ok-clause-opened : goal.returns-in-Ok-clause-opened
returns-in-Ok-clause-opened g c =
    let H = g.H.Hash32.digest_of in
    let held = g.K.Keeper.held c.args.keeper.now in
    let found = c.in-Ok.found in
    subst (λ (bs : List Descr). IfSome held (λ contents. IsOpened H contents (record { blocks = bs; cells = found.cells; counts = found.counts }))) (sym c.from.ensures)
    (all-opened H g.met.H.Hash32.has_32_bytes held (Ok (opened_of found)) c.in-Ok.ensures.answers c.in-Ok.ensures.read)

pub returns-in-Err-clause-damaged : goal.returns-in-Err-clause-damaged
returns-in-Err-clause-damaged g c = all-damaged g.H.Hash32.digest_of g.met.H.Hash32.has_32_bytes (g.K.Keeper.held c.args.keeper.now) (Err c.in-Err.fault) c.in-Err.ensures.answers
