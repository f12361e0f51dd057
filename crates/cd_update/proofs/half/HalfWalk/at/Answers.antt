-- A visit is shown.
use Rattle.std.proofs.Common.{sym, subst, ◌∙◌}
use Rattle.std.proofs.lemmas.List.{get_or_default}
use Rattle.cd_update.specs.Nodes.{IsShown}
use Rattle.cd_update.specs.Visits.{no_visit}
use Rattle.cd_update.proofs.half.HalfWalk.at.Goals as goal

pub returns-clause-value : goal.returns-clause-value
returns-clause-value g c = c.index.ensures ∙ get_or_default c.args.self.now.walk.visits.items c.args.number c.index.result.now no_visit c.requires

pub returns-clause-there : goal.returns-clause-there
returns-clause-there g c = (c.args.number, c.requires, sym c.index.ensures)

pub returns-clause-shown : goal.returns-clause-shown
returns-clause-shown g c =
    let half = c.args.self.now in
    subst (IsShown g.H.Hash32.digest_of half.bag.now) (sym c.index.ensures) (half.walked.shown c.args.number c.index.result.now c.requires)
