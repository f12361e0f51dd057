-- The first visit that is hidden so tells that there is one.
use Rattle.std.proofs.Common.{◌≡◌, ◌<◌, length, take, Option, Some, None, ap, sym, ◌∙◌, arith}
use Rattle.std.specs.Prelude.{if◌then◌else◌, is_some}
use Rattle.std.proofs.lemmas.List.{take_all}
use Rattle.cd_update.specs.EachOnce.{first_of}
use Rattle.cd_cell.specs.Places.{Place}
use Rattle.cd_update.specs.Visits.{visit_at, place_of, visited}
use Rattle.cd_update.specs.Hides.{hides_at}
use Rattle.cd_update.proofs.BelowVisits.{any-first}
use Rattle.cd_update.proofs.PlaceLaws.{first_of-more, first_of-stop}
use Rattle.cd_update.proofs.hiding.hides_among.Goals as goal

pub loop-visit-preserved : goal.loop-visit-preserved
loop-visit-preserved g c =
    let bag = c.args.bag.now in
    let visits = c.args.visits.now in
    let i = c.loop-visit.visit-index in
    let test = hides_at g.H.Hash32.digest_of c.args.known.now in
    let ask : Place → Option Place = λ p. if test p then Some p else None in
    let in' : i < length visits = omega arith in
    let p = place_of bag (visit_at visits i).node in
    first_of-more bag visits i in' ask c.loop-visit.invariant ∙ ap (λ b. if b then Some p else None) (sym c.hides_here.ensures ∙ c.if-hides_here.false)

pub returns-then-hides_here : goal.returns-then-hides_here
returns-then-hides_here g c =
    let bag = c.args.bag.now in
    let visits = c.args.visits.now in
    let i = c.loop-visit.visit-index in
    let test = hides_at g.H.Hash32.digest_of c.args.known.now in
    let ask : Place → Option Place = λ p. if test p then Some p else None in
    let in' : i < length visits = omega arith in
    let p = place_of bag (visit_at visits i).node in
    let here : ask p ≡ Some p = ap (λ b. if b then Some p else None) (sym c.hides_here.ensures ∙ c.if-hides_here.true) in
    sym (any-first test (visited bag visits) ∙ ap is_some (first_of-stop bag visits i in' ask c.loop-visit.invariant p here))

pub returns : goal.returns
returns g c =
    let bag = c.args.bag.now in
    let visits = c.args.visits.now in
    let test = hides_at g.H.Hash32.digest_of c.args.known.now in
    let ask : Place → Option Place = λ p. if test p then Some p else None in
    let all : take c.loop-visit.visit-index visits ≡ visits = take_all c.loop-visit.visit-index visits (omega arith) in
    sym (any-first test (visited bag visits) ∙ ap (λ vs. is_some (first_of ask (visited bag vs))) (sym all) ∙ ap is_some c.loop-visit.invariant)
