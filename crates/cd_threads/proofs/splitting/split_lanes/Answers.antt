use Rattle.std.proofs.Common.{◌≡◌, ◌<◌, ℕ, length, get_or, vec_len, sym, ap, subst, ◌∙◌, arith}
use Rattle.cd_gate.specs.Gates.{upper_part}
use Rattle.cd_threads.specs.Seats.{IsLaneFor, part_of}
use Rattle.cd_threads.proofs.SeatLaws.{each_push, of_upper, part_below, part_last, rest_above}
use Rattle.cd_threads.proofs.splitting.split_lanes.Goals as goal

pub loop-next-preserved : goal.loop-next-preserved
loop-next-preserved g c =
    let inv = c.loop-next.invariant in
    let items = c.loop-next.lanes.items in
    let s = c.args.seat in
    let long : vec_len c.loop-next.lanes ≡ length items = c.loop-next.lanes.ok.0 in
    let more = c.push_reserved.ensures.len in
    let step : vec_len c.push_reserved.new.self ≡ c.loop-next.next = omega (arith, more, inv.count) in
    record {
      count = omega (arith, step);
      room = omega (arith, c.push_reserved.ensures.capacity, inv.room);
      lanes = subst (λ xs. (k : ℕ) (d : _) → k < length xs → IsLaneFor (λ t. t.seat) (λ t. t.db.now) c.args.db.now k (part_of c.args.workers k s) (get_or xs k d))
          (sym c.push_reserved.ensures.items)
          (each_push (λ k lane. IsLaneFor (λ t. t.seat) (λ t. t.db.now) c.args.db.now k (part_of c.args.workers k s) lane) items c.lane_of.result inv.lanes (record {
            place = c.lane_of.ensures.place ∙ omega (arith, inv.count, long);
            its_seat = c.lane_of.ensures.its_seat
                ∙ part_below s c.loop-next.rest (length items) (inv.rest ∙ ap (λ n. upper_part n s) long) c.args.workers c.loop-next.next c.split-upper.new.seat c.split-upper.ensures.below
                (omega (arith, inv.count, long)) c.loop-next-test.true;
            its_gate = c.lane_of.ensures.its_gate;
            no_ends = c.lane_of.ensures.no_ends;
            no_want = c.lane_of.ensures.no_want;
          }));
      rest = rest_above s c.loop-next.rest (vec_len c.loop-next.lanes) inv.rest c.loop-next.next c.split-upper.result c.split-upper.ensures.upper ∙ ap (λ n. upper_part n s) (sym step);
      of = of_upper c.args.db.now c.loop-next.rest inv.of c.split-upper.result c.loop-next.next c.split-upper.ensures.upper;
    }

pub returns-clause-each : goal.returns-clause-each
returns-clause-each g c k d lt =
    let inv = c.loop-next.invariant in
    let items = c.loop-next.lanes.items in
    let s = c.args.seat in
    let long : vec_len c.loop-next.lanes ≡ length items = c.loop-next.lanes.ok.0 in
    let end : c.loop-next.next ≡ c.args.workers = omega (arith, c.loop-next-test.false, c.loop-next.auto.next-end) in
    subst (λ xs. (k : ℕ) (d : _) → k < length xs → IsLaneFor (λ t. t.seat) (λ t. t.db.now) c.args.db.now k (part_of c.args.workers k s) (get_or xs k d))
    (sym c.push_reserved-2.ensures.items)
    (each_push (λ k lane. IsLaneFor (λ t. t.seat) (λ t. t.db.now) c.args.db.now k (part_of c.args.workers k s) lane) items c.lane_of-2.result inv.lanes (record {
      place = c.lane_of-2.ensures.place ∙ omega (arith, inv.count, long, end);
      its_seat = c.lane_of-2.ensures.its_seat
          ∙ part_last s c.loop-next.rest (length items) (inv.rest ∙ ap (λ n. upper_part n s) long) c.args.workers (omega (arith, inv.count, long, end));
      its_gate = c.lane_of-2.ensures.its_gate;
      no_ends = c.lane_of-2.ensures.no_ends;
      no_want = c.lane_of-2.ensures.no_want;
    })) k d (omega (arith, c.push_reserved-2.ensures.len, c.push_reserved-2.new.self.ok.0, inv.count, end, lt))
