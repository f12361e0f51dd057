-- The visits are the places of the old half.
use Rattle.std.proofs.Common.{subst}
use Rattle.std.specs.Option.{option_map}
use Rattle.cd_cell.specs.Updates.{old_half}
use Rattle.cd_update.specs.Answers.{PairAnswers}
use Rattle.cd_update.proofs.HalfVisits.{misfit-half}
use Rattle.cd_update.proofs.pairing.check_shown.Goals as goal

pub check_visits-requires : goal.check_visits-requires
check_visits-requires g c = c.visits.ensures.shown

pub returns : goal.returns
returns g c u is_half =
    subst (λ o. PairAnswers (option_map (λ x. old_half x) o) c.check_visits.result) (misfit-half c.args.half.now.walked is_half c.args.faces.now c.visits.ensures.value) c.check_visits.ensures
