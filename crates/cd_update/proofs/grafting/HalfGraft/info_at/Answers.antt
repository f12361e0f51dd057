-- A visited node has a number, in whose place it was worked out.
use Rattle.std.proofs.Common.{◌<◌, length, ◌∙◌, arith}
use Rattle.std.proofs.lemmas.List.{get_or_default}
use Rattle.cd_cell.specs.CellFaults.{no_info}
use Rattle.cd_update.proofs.GraftVisits.{visited-shown, info-done}
use Rattle.cd_update.proofs.grafting.HalfGraft.info_at.Goals as goal

pub number-requires-clause-depth : goal.number-requires-clause-depth
number-requires-clause-depth g c = (visited-shown c.args.self.now.grafting c.args.node c.requires.visited).0

pub number-requires-clause-entry : goal.number-requires-clause-entry
number-requires-clause-entry g c = omega (arith, c.args.self.now.grafting.walked.wide, (visited-shown c.args.self.now.grafting c.args.node c.requires.visited).1)

pub returns : goal.returns
returns g c =
    let infos = c.args.infos.now in
    let k = c.in-Some.number in
    let visit = c.in-Some.ensures.visit in
    let in' : k < length infos = omega (arith, visit.0, c.requires.counted) in
    info-done c.args.self.now.grafting infos c.args.node k c.index-infos-number.result visit.0 visit.1
    (c.index-infos-number.is ∙ get_or_default infos k c.index-infos-number.result no_info in')
