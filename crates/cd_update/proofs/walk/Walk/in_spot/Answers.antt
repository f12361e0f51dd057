-- Each number stands in the spot of its visit.
use Rattle.std.proofs.Common.{None, sym, ◌∙◌}
use Rattle.std.proofs.lemmas.List.{get_or_default}
use Rattle.cd_update.proofs.walk.Walk.in_spot.Goals as goal

pub returns-clause-visit : goal.returns-clause-visit
returns-clause-visit c k is =
    let walk = c.args.self.now in
    let place = c.args.place in
    walk.numbered.back place k (sym (get_or_default walk.numbers.items place c.index.result.now None c.requires) ∙ sym c.index.ensures ∙ is)
