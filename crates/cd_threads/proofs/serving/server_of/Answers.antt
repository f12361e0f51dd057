use Rattle.std.proofs.Common.{◌≤◌, List, [], subst, ◌∙◌}
use Rattle.std.proofs.lemmas.List.{get_or_default}
use Rattle.cd_feed.specs.declared.feed.Task.{Task}
use Rattle.cd_lanes.specs.Lanes.{serves}
use Rattle.cd_threads.proofs.ServedLaws.{no_other}
use Rattle.cd_threads.proofs.serving.server_of.Goals as goal

pub returns-then-has_serve : goal.returns-then-has_serve
returns-then-has_serve c =
    let at = c.loop-place.place in
    let lt = c.loop-place-test.true in
    record {
      others = λ k within other. no_other c.args.workers.now at k c.requires.one
          (subst (λ (jobs : List Task). 1 ≤ serves jobs) (c.as_slice.ensures ∙ (c.index-workers-place.is ∙ get_or_default c.args.workers.now at c.index-workers-place.result [] lt)) (c.has_serve.ensures.some c.if-has_serve.true))
          lt c.loop-place.invariant within other;
    }
