use Rattle.std.proofs.Common.{sym, ap₂, ◌∙◌}
use Rattle.std.proofs.lemmas.Bool.{eqb-true}
use Rattle.cd_world.specs.Machine.{plain_info}
use Rattle.cd_restart.proofs.PlainInfos.{plain-info}
use Rattle.cd_restart.proofs.row.Shown.of.Goals as goal

pub returns-then-eq : goal.returns-then-eq
returns-then-eq c =
    let info = c.args.info.now in
    ap₂ plain_info c.rep.ensures c.height.ensures
    ∙ plain-info info c.requires.hashes c.requires.depths c.requires.flat (eqb-true info.mask 0 (sym c.if-eq.ensures))
