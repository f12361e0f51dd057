use Rattle.std.proofs.Common.{◌-◌, length, get_or, ap, ◌∙◌, arith}
use Rattle.cd_cell.specs.Tree.{info_of}
use Rattle.cd_gen.specs.States.{sha}
use Rattle.cd_gen.proofs.ListingLaws.{turned-root}
use Rattle.cd_gen.proofs.updates.root_of.Goals as goal

pub returns : goal.returns
returns c = λ t is.
    let infos = c.args.infos.now in
    let root = c.index-infos-infos.result in
    c.index-infos-infos.is ∙ ap (λ xs. get_or xs (length infos - 1) root) is ∙ turned-root (info_of sha) t (length infos - 1) root (omega (arith, ap length is, c.requires))
