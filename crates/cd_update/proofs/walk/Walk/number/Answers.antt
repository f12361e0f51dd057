-- A number is that of a visit of this entry at this depth.
use Rattle.std.proofs.Common.{◌∙◌, None, arith}
use Rattle.std.proofs.lemmas.List.{get_or_default}
use Rattle.cd_update.specs.Visits.{spot}
use Rattle.cd_update.proofs.VisitLaws.{number-visit}
use Rattle.cd_update.proofs.walk.Walk.number.Goals as goal

pub returns-clause-visit : goal.returns-clause-visit
returns-clause-visit c =
    let walk = c.args.self.now in
    number-visit walk.numbers.items walk.visits.items walk.numbered c.args.node c.requires.depth c.index.result.now
    (c.index.ensures ∙ get_or_default walk.numbers.items (spot c.args.node) c.index.result.now None (omega arith))
