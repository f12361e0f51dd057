-- The visits are the places of the old half, each once.
use Rattle.std.proofs.Common.{flat_map, ap, ◌∙◌}
use Rattle.cd_cell.specs.Equality.{same_hash}
use Rattle.cd_update.specs.EachOnce.{each_once}
use Rattle.cd_update.specs.Visits.{visited}
use Rattle.cd_update.specs.Pairing.{wanted_at}
use Rattle.cd_update.proofs.HalfVisits.{wanted-half}
use Rattle.cd_update.proofs.update.Update.wanted.Goals as goal

pub hashes_of-requires : goal.hashes_of-requires
hashes_of-requires g c = c.visits.ensures.shown

pub returns : goal.returns
returns g c =
    c.in_ok-hashes.ensures
    ∙ ap (λ vs. each_once same_hash (flat_map (wanted_at g.H.Hash32.digest_of) (visited c.in_ok-half.half.bag.now vs))) c.visits.ensures.value
    ∙ wanted-half c.in_ok-half.half.walked c.in_ok-half.ensures
