use Rattle.std.proofs.Common.{ap, ◌∙◌}
use Rattle.cd_shared.specs.SharedTurns.{worker_of}
use Rattle.cd_threads.proofs.EndingLaws.{last_of}
use Rattle.cd_threads.proofs.ending.end_lanes.Goals as goal

pub returns-clause-last : goal.returns-clause-last
returns-clause-last g c = last_of worker_of (λ l. l.seat.seat.end) (λ l. l.seat.seat.seen) c.args.lanes.items c.remove-seat.new.self.items c.remove-seat.result c.remove-seat.ensures.items c.remove-seat.ensures.value
    c.join_lanes-whole.result.0.end c.join_lanes-whole.result.0.seen
    (λ none. let same = c.join_lanes-whole.ensures.alone none ∙ c.into_seat.ensures in (ap (λ s. s.end) same, ap (λ s. s.seen) same)) c.join_lanes-whole.ensures.last
