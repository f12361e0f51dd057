-- The visits are the places of the old half, each once.
use Rattle.std.proofs.Common.{flat_map, ap, ◌∙◌}
use Rattle.cd_cell.specs.Equality.{same_info, same_info-Decides}
use Rattle.cd_update.specs.EachOnce.{each_once}
use Rattle.cd_update.specs.Visits.{visited}
use Rattle.cd_update.specs.Pairing.{known_at}
use Rattle.cd_update.proofs.HalfVisits.{each_once-half}
use Rattle.cd_update.proofs.pairing.known_of.Goals as goal

pub infos_of-requires : goal.infos_of-requires
infos_of-requires g c = c.visits.ensures.shown

pub returns-in-Ok-clause-infos : goal.returns-in-Ok-clause-infos
returns-in-Ok-clause-infos g c u is_half =
    let H = g.H.Hash32.digest_of in
    let half = c.args.half.now in
    c.in-Ok.ensures
    ∙ ap (λ vs. each_once same_info (flat_map (known_at H) (visited half.bag.now vs))) c.visits.ensures.value
    ∙ each_once-half half.walked is_half same_info same_info-Decides (known_at H)
