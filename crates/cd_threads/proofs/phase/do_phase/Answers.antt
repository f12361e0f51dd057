use Rattle.std.proofs.Common.{◌≡◌, ◌<◌, map, ap, sym, subst, ◌∙◌}
use mir.Syntax as syntax
use denote.Param.{param}
use denote.Param.Send.{param_send}
use Rattle.cd_lanes.specs.Lanes.{AreUnserved}
use Rattle.cd_lanes.specs.Left.{LeftByOne, WorkerServed}
use Rattle.cd_shared.specs.SharedTurns.{SeatGoesOn}
use Rattle.cd_shared.proofs.Crosses.{at_db_send}
use Rattle.cd_threads.specs.Whole.{pins_seen}
use Rattle.cd_threads.proofs.EndingLaws.{ends_of_lanes}
use Rattle.cd_threads.proofs.LaneLaws.{named}
use Rattle.cd_threads.proofs.PartLaws.{nothing_done, all_new, pins_are, part_done, part_stopped}
use Rattle.cd_threads.proofs.ServedLaws.{head_of, served_whole, untold}
use Rattle.cd_threads.proofs.phase.do_phase.Goals as goal

pub returns-in_default-clause-stopped : goal.returns-in_default-clause-stopped
returns-in_default-clause-stopped g c = nothing_done g.H.Hash32.digest_of g.K.Keeper.held c.args.db.now c.args.phase c.args.workers.now c.args.seat

pub returns-in_default-with_capacity-clause-stopped : goal.returns-in_default-with_capacity-clause-stopped
returns-in_default-with_capacity-clause-stopped g c = nothing_done g.H.Hash32.digest_of g.K.Keeper.held c.args.db.now c.args.phase c.args.workers.now c.args.seat

pub run_served-requires-send-T : goal.run_served-requires-send-T
run_served-requires-send-T g c κs within =
    let s = param_send 0 _ (at_db_send (param 0 g.row.K) (param 1 g.row.H) g.K.Keeper g.H.Hash32 (record { mir = syntax.named 5; lft = κs.1.1.1.1.1.0 }) (param 3 g.row.R) c.type_bounds.send-K c.type_bounds.send-H c.type_bounds.sync-R) in
    record { owned = s.owned; leaving = s.leaving }

pub returns-then-want-clause-seat : goal.returns-then-want-clause-seat
returns-then-want-clause-seat g c = let beside = c.run_served.ensures.count ∙ c.split_lanes.ensures.count in all_new g.H.Hash32.digest_of g.K.Keeper.held (λ t. t.seat) (λ t. t.db.now) (λ t u. (u.db ≡ t.db) × SeatGoesOn t.seat u.seat) (λ t u w. (ap (λ r. r.now) w.0, w.1)) c.args.db.now c.args.phase c.args.workers.now
    c.split_lanes.new.lanes.items c.run_served.new.lanes.items c.args.seat c.end_lanes-seat.result.0
    (record {
      some = c.requires.some;
      beside = beside;
      had_all = c.requires.seat;
      starts = c.split_lanes.ensures.each;
      ran = λ k d lt. c.run_served.ensures.did k d (subst (λ n. k < n) (sym c.split_lanes.ensures.count) lt);
      knows = λ k d lt. c.end_lanes-seat.ensures.knows k d (subst (λ n. k < n) (sym beside) lt);
      last = λ d k step. c.end_lanes-seat.ensures.last d k (beside ∙ step);
      joined = c.end_lanes-seat.ensures.of;
      numbers = c.front.ensures.numbers;
    })

pub returns-then-want-clause-stopped : goal.returns-then-want-clause-stopped
returns-then-want-clause-stopped g c = let beside = c.run_served.ensures.count ∙ c.split_lanes.ensures.count in part_stopped g.H.Hash32.digest_of g.K.Keeper.held (λ t. t.seat) (λ t. t.db.now) (λ t u. (u.db ≡ t.db) × SeatGoesOn t.seat u.seat) (λ t u w. (ap (λ r. r.now) w.0, w.1)) c.args.db.now c.args.phase c.args.workers.now
    c.split_lanes.new.lanes.items c.run_served.new.lanes.items c.args.seat c.end_lanes-seat.result.0
    (record {
      some = c.requires.some;
      beside = beside;
      had_all = c.requires.seat;
      starts = c.split_lanes.ensures.each;
      ran = λ k d lt. c.run_served.ensures.did k d (subst (λ n. k < n) (sym c.split_lanes.ensures.count) lt);
      knows = λ k d lt. c.end_lanes-seat.ensures.knows k d (subst (λ n. k < n) (sym beside) lt);
      last = λ d k step. c.end_lanes-seat.ensures.last d k (beside ∙ step);
      joined = c.end_lanes-seat.ensures.of;
      numbers = c.front.ensures.numbers;
    })

pub returns-then-want-clause-clients_then : goal.returns-then-want-clause-clients_then
returns-then-want-clause-clients_then g c = let beside = c.run_served.ensures.count ∙ c.split_lanes.ensures.count in untold AreUnserved (WorkerServed (λ b. (goal.SliceClient-dyn g (b.vtable, b.value)).got b.value) (λ b. (goal.SliceClient-dyn g (b.vtable, b.value)).steady b.value) g.H.Hash32.digest_of (pins_seen g.H.Hash32.digest_of g.K.Keeper.held c.args.db.now c.end_lanes-seat.result.0)) c.args.workers.now (map (λ l. l.outcomes.items) c.run_served.new.lanes.items) c.args.clients.now.items c.run_served.new.clients.items
    (served_whole (λ b. (goal.SliceClient-dyn g (b.vtable, b.value)).got b.value) (λ b. (goal.SliceClient-dyn g (b.vtable, b.value)).steady b.value) g.H.Hash32.digest_of (named g.H.Hash32.digest_of g.K.Keeper.held (λ t. t.seat) (λ t. t.db.now)) c.args.workers.now (pins_seen g.H.Hash32.digest_of g.K.Keeper.held c.args.db.now c.end_lanes-seat.result.0) c.run_served.new.lanes.items
    (pins_are g.H.Hash32.digest_of g.K.Keeper.held (λ t. t.seat) (λ t. t.db.now) (λ t u. (u.db ≡ t.db) × SeatGoesOn t.seat u.seat) (λ t u w. (ap (λ r. r.now) w.0, w.1)) c.args.db.now c.args.phase c.args.workers.now
    c.split_lanes.new.lanes.items c.run_served.new.lanes.items c.args.seat c.end_lanes-seat.result.0
    (record {
      some = c.requires.some;
      beside = beside;
      had_all = c.requires.seat;
      starts = c.split_lanes.ensures.each;
      ran = λ k d lt. c.run_served.ensures.did k d (subst (λ n. k < n) (sym c.split_lanes.ensures.count) lt);
      knows = λ k d lt. c.end_lanes-seat.ensures.knows k d (subst (λ n. k < n) (sym beside) lt);
      last = λ d k step. c.end_lanes-seat.ensures.last d k (beside ∙ step);
      joined = c.end_lanes-seat.ensures.of;
      numbers = c.front.ensures.numbers;
    }))
    (head_of c.run_served.new.lanes.items (subst (λ n. 0 < n) (sym beside) c.requires.some)) (map (λ l. l.outcomes.items) c.run_served.new.lanes.items) c.args.clients.now.items c.run_served.new.clients.items c.run_served.ensures.clients)

pub returns-clause-seat : goal.returns-clause-seat
returns-clause-seat g c = let beside = c.run_served.ensures.count ∙ c.split_lanes.ensures.count in all_new g.H.Hash32.digest_of g.K.Keeper.held (λ t. t.seat) (λ t. t.db.now) (λ t u. (u.db ≡ t.db) × SeatGoesOn t.seat u.seat) (λ t u w. (ap (λ r. r.now) w.0, w.1)) c.args.db.now c.args.phase c.args.workers.now
    c.split_lanes.new.lanes.items c.run_served.new.lanes.items c.args.seat c.end_lanes-seat.result.0
    (record {
      some = c.requires.some;
      beside = beside;
      had_all = c.requires.seat;
      starts = c.split_lanes.ensures.each;
      ran = λ k d lt. c.run_served.ensures.did k d (subst (λ n. k < n) (sym c.split_lanes.ensures.count) lt);
      knows = λ k d lt. c.end_lanes-seat.ensures.knows k d (subst (λ n. k < n) (sym beside) lt);
      last = λ d k step. c.end_lanes-seat.ensures.last d k (beside ∙ step);
      joined = c.end_lanes-seat.ensures.of;
      numbers = c.front.ensures.numbers;
    })

pub returns-clause-done : goal.returns-clause-done
returns-clause-done g c = let beside = c.run_served.ensures.count ∙ c.split_lanes.ensures.count in part_done g.H.Hash32.digest_of g.K.Keeper.held (λ t. t.seat) (λ t. t.db.now) (λ t u. (u.db ≡ t.db) × SeatGoesOn t.seat u.seat) (λ t u w. (ap (λ r. r.now) w.0, w.1)) c.args.db.now c.args.phase c.args.workers.now
    c.split_lanes.new.lanes.items c.run_served.new.lanes.items c.args.seat c.end_lanes-seat.result.0
    (record {
      some = c.requires.some;
      beside = beside;
      had_all = c.requires.seat;
      starts = c.split_lanes.ensures.each;
      ran = λ k d lt. c.run_served.ensures.did k d (subst (λ n. k < n) (sym c.split_lanes.ensures.count) lt);
      knows = λ k d lt. c.end_lanes-seat.ensures.knows k d (subst (λ n. k < n) (sym beside) lt);
      last = λ d k step. c.end_lanes-seat.ensures.last d k (beside ∙ step);
      joined = c.end_lanes-seat.ensures.of;
      numbers = c.front.ensures.numbers;
    })
    (map (λ its. its.items) c.end_lanes-seat.new.ends.items) (ends_of_lanes (λ l. l.outcomes) (λ its. its.items) c.end_lanes-seat.new.ends.items c.in-Ok-with_capacity.ends.items c.run_served.new.lanes.items c.end_lanes-seat.ensures.ends c.in-Ok-with_capacity.ensures.items) (λ k d lt. c.end_lanes-seat.ensures.want c.if-want.false k d (subst (λ n. k < n) (sym beside) lt))

pub returns-clause-clients : goal.returns-clause-clients
returns-clause-clients g c = let beside = c.run_served.ensures.count ∙ c.split_lanes.ensures.count in subst (λ ends. LeftByOne AreUnserved (WorkerServed (λ b. (goal.SliceClient-dyn g (b.vtable, b.value)).got b.value) (λ b. (goal.SliceClient-dyn g (b.vtable, b.value)).steady b.value) g.H.Hash32.digest_of (pins_seen g.H.Hash32.digest_of g.K.Keeper.held c.args.db.now c.end_lanes-seat.result.0)) c.args.workers.now ends c.args.clients.now.items c.run_served.new.clients.items) (sym (ends_of_lanes (λ l. l.outcomes) (λ its. its.items) c.end_lanes-seat.new.ends.items c.in-Ok-with_capacity.ends.items c.run_served.new.lanes.items c.end_lanes-seat.ensures.ends c.in-Ok-with_capacity.ensures.items))
    (served_whole (λ b. (goal.SliceClient-dyn g (b.vtable, b.value)).got b.value) (λ b. (goal.SliceClient-dyn g (b.vtable, b.value)).steady b.value) g.H.Hash32.digest_of (named g.H.Hash32.digest_of g.K.Keeper.held (λ t. t.seat) (λ t. t.db.now)) c.args.workers.now (pins_seen g.H.Hash32.digest_of g.K.Keeper.held c.args.db.now c.end_lanes-seat.result.0) c.run_served.new.lanes.items
    (pins_are g.H.Hash32.digest_of g.K.Keeper.held (λ t. t.seat) (λ t. t.db.now) (λ t u. (u.db ≡ t.db) × SeatGoesOn t.seat u.seat) (λ t u w. (ap (λ r. r.now) w.0, w.1)) c.args.db.now c.args.phase c.args.workers.now
    c.split_lanes.new.lanes.items c.run_served.new.lanes.items c.args.seat c.end_lanes-seat.result.0
    (record {
      some = c.requires.some;
      beside = beside;
      had_all = c.requires.seat;
      starts = c.split_lanes.ensures.each;
      ran = λ k d lt. c.run_served.ensures.did k d (subst (λ n. k < n) (sym c.split_lanes.ensures.count) lt);
      knows = λ k d lt. c.end_lanes-seat.ensures.knows k d (subst (λ n. k < n) (sym beside) lt);
      last = λ d k step. c.end_lanes-seat.ensures.last d k (beside ∙ step);
      joined = c.end_lanes-seat.ensures.of;
      numbers = c.front.ensures.numbers;
    }))
    (head_of c.run_served.new.lanes.items (subst (λ n. 0 < n) (sym beside) c.requires.some)) (map (λ l. l.outcomes.items) c.run_served.new.lanes.items) c.args.clients.now.items c.run_served.new.clients.items c.run_served.ensures.clients)
