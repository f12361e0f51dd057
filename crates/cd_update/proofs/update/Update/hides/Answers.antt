-- The visits are the places of the new half.
use Rattle.std.proofs.Common.{◌∙◌}
use Rattle.cd_update.proofs.BelowVisits.{hides-half}
use Rattle.cd_update.proofs.update.Update.hides.Goals as goal

pub hides_among-requires : goal.hides_among-requires
hides_among-requires g c = c.visits.ensures.shown

pub returns : goal.returns
returns g c = c.hides_among.ensures ∙ hides-half c.in_ok-half.half.walked c.in_ok-half.ensures c.args.known.now c.visits.ensures.value
