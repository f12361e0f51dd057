use Rattle.std.proofs.Common.{[], ◌∙◌, subst}
use Rattle.std.proofs.lemmas.List.{get_or_default}
use Rattle.cd_phases.specs.Sides.{LaneRan}
use Rattle.cd_phases.proofs.phase.fn.run_phase.for_each_mut.Goals as goal

pub returns : goal.returns
returns g c = subst (λ jobs. LaneRan g.H.Hash32.digest_of g.T.Turns.worker g.T.Turns.faults g.T.Turns.made g.T.Turns.goes g.T.Turns.named
    (λ l. l.clients.items) (λ b. (goal.SliceClient-dyn g (b.vtable, b.value)).got b.value) (λ b. (goal.SliceClient-dyn g (b.vtable, b.value)).steady b.value)
    c.captures.phase jobs c.args.lane.now c.run_lane.new.lane)
    (c.as_slice.ensures ∙ (c.index-workers-place.is ∙ get_or_default c.captures.workers.now c.args.place c.index-workers-place.result [] c.requires.0))
    c.run_lane.ensures
