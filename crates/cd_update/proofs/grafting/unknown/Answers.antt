-- The first visit that isn't known is the answer.
use Rattle.std.proofs.Common.{◌<◌, length, sym, ◌∙◌, arith}
use Rattle.cd_update.specs.Grafts.{foreign_at}
use Rattle.cd_update.proofs.PlaceLaws.{first_of-more, first_of-stop}
use Rattle.cd_update.proofs.grafting.unknown.Goals as goal

pub returns-in-Some : goal.returns-in-Some
returns-in-Some g c =
    let bag = c.args.bag.now in
    let i = c.loop-visit.visit-index in
    let in' : i < length c.args.visits.now = omega arith in
    sym (first_of-stop bag c.args.visits.now i in' (foreign_at g.H.Hash32.digest_of c.args.known.now.infos) c.loop-visit.invariant c.in-Some.hash (sym c.unknown_at.ensures ∙ c.in-Some.is))

pub loop-visit-preserved : goal.loop-visit-preserved
loop-visit-preserved g c =
    let bag = c.args.bag.now in
    let i = c.loop-visit.visit-index in
    let in' : i < length c.args.visits.now = omega arith in
    first_of-more bag c.args.visits.now i in' (foreign_at g.H.Hash32.digest_of c.args.known.now.infos) c.loop-visit.invariant ∙ sym c.unknown_at.ensures ∙ c.in_default.is
