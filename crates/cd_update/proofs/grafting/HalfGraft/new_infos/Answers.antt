-- A spot has the number of the visit that it is of, which is worked out now.
use Rattle.std.proofs.Common.{◌≡◌, ◌-◌, ◌+◌, sym, ap, subst, ◌∙◌, arith}
use Rattle.cd_update.specs.Visits.{spot}
use Rattle.cd_update.specs.GraftWalks.{new_info_at, AreDone}
use Rattle.cd_update.proofs.GraftVisits.{grafted-start, grafted-skip, grafted-more}
use Rattle.cd_update.proofs.grafting.HalfGraft.new_infos.Goals as goal

pub shown_info-first-requires : goal.shown_info-first-requires
shown_info-first-requires g c = c.args.self.now.grafting.walked.first

pub loop-left-init : goal.loop-left-init
loop-left-init g c =
    let walk = c.args.self.now.half.walk in
    record {
      done =
          grafted-start c.args.self.now.grafting c.in_ok-infos.infos.items c.len-left.result
          (omega (arith, c.in_ok-infos.ensures.len, c.len.ensures, c.in_ok-infos.infos.ok, walk.visits.ok))
          (omega (arith, c.len-left.ensures, walk.numbers.ok));
      low = omega (arith, c.len-left.ensures, walk.numbers.ok);
    }

pub at-requires : goal.at-requires
at-requires g c = (c.in_spot.ensures.visit c.in-Some.number c.in-Some.is).0

pub new_info-info-requires-clause-done : goal.new_info-info-requires-clause-done
new_info-info-requires-clause-done g c =
    let back = c.in_spot.ensures.visit c.in-Some.number c.in-Some.is in
    let here : c.loop-left.left ≡ spot c.at.result.now.node + 1 = omega (arith, ap (λ v. spot v.node) c.at.ensures.value, back.1) in
    subst (λ from. AreDone g.H.Hash32.digest_of c.args.self.now from c.as_slice.result.now) here
    (subst (AreDone g.H.Hash32.digest_of c.args.self.now c.loop-left.left) (sym c.as_slice.ensures.value) c.loop-left.invariant.done)

pub index_mut-requires : goal.index_mut-requires
index_mut-requires g c =
    omega (arith, (c.in_spot.ensures.visit c.in-Some.number c.in-Some.is).0, c.loop-left.invariant.done.counted, c.loop-left.infos.ok)

pub loop-left-preserved-in-Some : goal.loop-left-preserved-in-Some
loop-left-preserved-in-Some g c =
    let it = c.args.self.now in
    let left = c.loop-left.left - 1 in
    let next : c.loop-left.left ≡ left + 1 = omega arith in
    record {
      done =
          grafted-more it.grafting c.loop-left.infos.items left
          (subst (λ from. AreDone g.H.Hash32.digest_of it from c.loop-left.infos.items) next c.loop-left.invariant.done)
          c.in-Some.number c.new_info-info.result (sym c.in_spot.ensures.value ∙ c.in-Some.is)
          (c.new_info-info.ensures ∙ ap (λ v. new_info_at g.H.Hash32.digest_of it v.node) c.at.ensures.value);
      low = omega (arith, c.loop-left.invariant.low);
    }

pub loop-left-preserved : goal.loop-left-preserved
loop-left-preserved g c =
    let it = c.args.self.now in
    let left = c.loop-left.left - 1 in
    let next : c.loop-left.left ≡ left + 1 = omega arith in
    record {
      done =
          grafted-skip it.grafting c.loop-left.infos.items left
          (subst (λ from. AreDone g.H.Hash32.digest_of it from c.loop-left.infos.items) next c.loop-left.invariant.done)
          (sym c.in_spot.ensures.value ∙ c.in_default.is);
      low = omega (arith, c.loop-left.invariant.low);
    }

pub returns : goal.returns
returns g c =
    let end : c.loop-left.left ≡ 0 = omega arith in
    subst (λ from. AreDone g.H.Hash32.digest_of c.args.self.now from c.loop-left.infos.items) end c.loop-left.invariant.done
