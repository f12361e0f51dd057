-- The visits behind the first one are the places below the old half's root, each once.
use Rattle.std.proofs.Common.{◌<◌, All, drop, length, flat_map, ap, sym, subst, ◌∙◌}
use Rattle.std.proofs.lemmas.List.Elements.{All-drop}
use Rattle.cd_cell.specs.Equality.{same_hash}
use Rattle.cd_update.specs.EachOnce.{each_once}
use Rattle.cd_update.specs.Nodes.{IsShown}
use Rattle.cd_update.specs.Visits.{visited}
use Rattle.cd_update.specs.Pairing.{wanted_at}
use Rattle.cd_update.proofs.HalfVisits.{wanted-below-half, half-visits}
use Rattle.cd_update.proofs.update.Update.wanted_below.Goals as goal

pub behind_first-requires : goal.behind_first-requires
behind_first-requires g c = subst (λ vs. 0 < length vs) (sym c.visits.ensures.value) (half-visits c.in_ok-half.half.walked c.in_ok-half.ensures)

pub hashes_of-requires : goal.hashes_of-requires
hashes_of-requires g c =
    let shows = IsShown g.H.Hash32.digest_of c.in_ok-half.half.bag.now in
    subst (All shows) (sym c.behind_first.ensures) (All-drop shows 1 c.visits.result.now c.visits.ensures.shown)

pub returns : goal.returns
returns g c =
    c.in_ok-hashes.ensures
    ∙ ap (λ vs. each_once same_hash (flat_map (wanted_at g.H.Hash32.digest_of) (visited c.in_ok-half.half.bag.now vs))) (c.behind_first.ensures ∙ ap (drop 1) c.visits.ensures.value)
    ∙ wanted-below-half c.in_ok-half.half.walked c.in_ok-half.ensures
