use Rattle.std.proofs.Common.{◌≡◌, ◌∷◌, [], ◌++◌, ◌+◌, ◌≤◌, take, map, List, All, Bool, true, is_ok, not, if◌then◌else◌, ap, subst, sym, ◌∙◌}
use Rattle.std.specs.Prelude.{IfOk, OnErr}
use Rattle.std.proofs.lemmas.List.{map-append, take_all}
use Rattle.cd_feed.specs.declared.feed.Task.{Task}
use Rattle.cd_run.specs.ReportText.{ends_of}
use Rattle.cd_lanes.specs.Lanes.{AreUnserved}
use Rattle.cd_lanes.specs.Left.{LeftByOne, WorkerServed, PhaseServed, serves_of}
use Rattle.cd_lanes.proofs.ClientLaws.{unserved_phase}
use Rattle.cd_lanes.proofs.LeftLaws.{fresh_at, untouched_next, left_next, left_end, its_place, one_more_end, no_end}
use Rattle.cd_lanes.proofs.PhaseRuns.{ends_beside}
use Rattle.cd_threads.specs.Whole.{PhaseDone, PhaseStopped, PhasesDone, pins_seen}
use Rattle.cd_threads.proofs.FeedLaws.{next_phase, stopped_phase, unplaced_phase, grow_seen}
use Rattle.cd_threads.proofs.feed.do_phases.Goals as goal

pub do_phase-back-requires-clause-fresh : goal.do_phase-back-requires-clause-fresh
do_phase-back-requires-clause-fresh g c κs within some = fresh_at c.args.phases.now c.loop-place.place c.loop-place-test.true c.index-phases-place.result c.index-phases-place.is (λ p. serves_of p.workers) (PhaseServed (λ b. (goal.SliceClient-dyn g (b.vtable, b.value)).got b.value) (λ b. (goal.SliceClient-dyn g (b.vtable, b.value)).steady b.value) g.H.Hash32.digest_of (pins_seen g.H.Hash32.digest_of g.K.Keeper.held c.args.db.now c.loop-place.seat)) (PhaseServed (λ b. (goal.SliceClient-dyn g (b.vtable, b.value)).got b.value) (λ b. (goal.SliceClient-dyn g (b.vtable, b.value)).steady b.value) g.H.Hash32.digest_of (pins_seen g.H.Hash32.digest_of g.K.Keeper.held c.args.db.now c.loop-place.seat)) c.args.clients.now.items c.loop-place.clients.items c.requires.one c.loop-place.invariant.untouched
    (λ b. (goal.SliceClient-dyn g (b.vtable, b.value)).got b.value) (λ _. c.requires.fresh) (subst (λ (ws : List (List Task)). 1 ≤ serves_of ws) c.as_slice-workers.ensures some)

pub returns-in-Err-clause-stopped : goal.returns-in-Err-clause-stopped
returns-in-Err-clause-stopped g c = stopped_phase g.H.Hash32.digest_of g.K.Keeper.held c.args.db.now c.args.phases.now c.loop-place.place c.loop-place-test.true c.index-phases-place.result c.index-phases-place.is (ends_of c.loop-place.ends.items) c.loop-place.seat c.do_phase-back.result.0 c.loop-place.invariant.done
    (subst (λ ws. PhaseStopped g.H.Hash32.digest_of g.K.Keeper.held c.args.db.now c.loop-place.place ws c.loop-place.seat c.do_phase-back.result.0) c.as_slice-workers.ensures (subst (λ r. OnErr r (PhaseStopped g.H.Hash32.digest_of g.K.Keeper.held c.args.db.now c.loop-place.place c.as_slice-workers.result.now c.loop-place.seat c.do_phase-back.result.0)) c.in-Err.is c.do_phase-back.ensures.stopped))

pub returns-in-Err-clause-clients_then : goal.returns-in-Err-clause-clients_then
returns-in-Err-clause-clients_then g c =
    let did = (subst (λ ws. PhaseStopped g.H.Hash32.digest_of g.K.Keeper.held c.args.db.now c.loop-place.place ws c.loop-place.seat c.do_phase-back.result.0) c.as_slice-workers.ensures (subst (λ r. OnErr r (PhaseStopped g.H.Hash32.digest_of g.K.Keeper.held c.args.db.now c.loop-place.place c.as_slice-workers.result.now c.loop-place.seat c.do_phase-back.result.0)) c.in-Err.is c.do_phase-back.ensures.stopped)) in
    left_end c.args.phases.now c.loop-place.place c.loop-place-test.true c.index-phases-place.result c.index-phases-place.is (λ p. serves_of p.workers) (PhaseServed (λ b. (goal.SliceClient-dyn g (b.vtable, b.value)).got b.value) (λ b. (goal.SliceClient-dyn g (b.vtable, b.value)).steady b.value) g.H.Hash32.digest_of (pins_seen g.H.Hash32.digest_of g.K.Keeper.held c.args.db.now c.loop-place.seat)) (PhaseServed (λ b. (goal.SliceClient-dyn g (b.vtable, b.value)).got b.value) (λ b. (goal.SliceClient-dyn g (b.vtable, b.value)).steady b.value) g.H.Hash32.digest_of (pins_seen g.H.Hash32.digest_of g.K.Keeper.held c.args.db.now c.do_phase-back.result.0)) c.args.clients.now.items c.loop-place.clients.items c.requires.one c.loop-place.invariant.untouched
    c.do_phase-back.new.clients.items (All AreUnserved) (grow_seen g.H.Hash32.digest_of g.K.Keeper.held c.args.db.now (λ b. (goal.SliceClient-dyn g (b.vtable, b.value)).got b.value) (λ b. (goal.SliceClient-dyn g (b.vtable, b.value)).steady b.value) c.loop-place.seat c.do_phase-back.result.0 did.entries did.added) (λ k ends o m. unserved_phase (λ b. (goal.SliceClient-dyn g (b.vtable, b.value)).got b.value) (λ b. (goal.SliceClient-dyn g (b.vtable, b.value)).steady b.value) g.H.Hash32.digest_of (pins_seen g.H.Hash32.digest_of g.K.Keeper.held c.args.db.now c.do_phase-back.result.0) k c.index-phases-place.result ends o m) (ends_of c.loop-place.ends.items) [] [] c.loop-place.invariant.clients
    (subst (λ ws. LeftByOne AreUnserved (WorkerServed (λ b. (goal.SliceClient-dyn g (b.vtable, b.value)).got b.value) (λ b. (goal.SliceClient-dyn g (b.vtable, b.value)).steady b.value) g.H.Hash32.digest_of (pins_seen g.H.Hash32.digest_of g.K.Keeper.held c.args.db.now c.do_phase-back.result.0)) ws [] c.loop-place.clients.items c.do_phase-back.new.clients.items) c.as_slice-workers.ensures (subst (λ r. OnErr r (LeftByOne AreUnserved (WorkerServed (λ b. (goal.SliceClient-dyn g (b.vtable, b.value)).got b.value) (λ b. (goal.SliceClient-dyn g (b.vtable, b.value)).steady b.value) g.H.Hash32.digest_of (pins_seen g.H.Hash32.digest_of g.K.Keeper.held c.args.db.now c.do_phase-back.result.0)) c.as_slice-workers.result.now [] c.loop-place.clients.items c.do_phase-back.new.clients.items)) c.in-Err.is c.do_phase-back.ensures.clients_then)) (no_end c.loop-place.place (ends_of c.loop-place.ends.items) [])

pub returns-then-is_err-clause-stopped : goal.returns-then-is_err-clause-stopped
returns-then-is_err-clause-stopped g c = unplaced_phase g.H.Hash32.digest_of g.K.Keeper.held c.args.db.now c.args.phases.now c.loop-place.place c.loop-place-test.true c.index-phases-place.result c.index-phases-place.is (ends_of c.loop-place.ends.items) c.loop-place.seat c.do_phase-back.result.0 c.loop-place.invariant.done (map (λ its. its.items) c.in-Ok.its.items)
    (subst (λ ws. PhaseDone g.H.Hash32.digest_of g.K.Keeper.held c.args.db.now c.loop-place.place ws (map (λ its. its.items) c.in-Ok.its.items) c.loop-place.seat c.do_phase-back.result.0) c.as_slice-workers.ensures (subst (λ r. IfOk r (λ ends. PhaseDone g.H.Hash32.digest_of g.K.Keeper.held c.args.db.now c.loop-place.place c.as_slice-workers.result.now (map (λ its. its.items) ends.items) c.loop-place.seat c.do_phase-back.result.0)) c.in-Ok.is c.do_phase-back.ensures.done))

pub returns-then-is_err-clause-clients_then : goal.returns-then-is_err-clause-clients_then
returns-then-is_err-clause-clients_then g c =
    let did = (subst (λ ws. PhaseDone g.H.Hash32.digest_of g.K.Keeper.held c.args.db.now c.loop-place.place ws (map (λ its. its.items) c.in-Ok.its.items) c.loop-place.seat c.do_phase-back.result.0) c.as_slice-workers.ensures (subst (λ r. IfOk r (λ ends. PhaseDone g.H.Hash32.digest_of g.K.Keeper.held c.args.db.now c.loop-place.place c.as_slice-workers.result.now (map (λ its. its.items) ends.items) c.loop-place.seat c.do_phase-back.result.0)) c.in-Ok.is c.do_phase-back.ensures.done)) in
    left_end c.args.phases.now c.loop-place.place c.loop-place-test.true c.index-phases-place.result c.index-phases-place.is (λ p. serves_of p.workers) (PhaseServed (λ b. (goal.SliceClient-dyn g (b.vtable, b.value)).got b.value) (λ b. (goal.SliceClient-dyn g (b.vtable, b.value)).steady b.value) g.H.Hash32.digest_of (pins_seen g.H.Hash32.digest_of g.K.Keeper.held c.args.db.now c.loop-place.seat)) (PhaseServed (λ b. (goal.SliceClient-dyn g (b.vtable, b.value)).got b.value) (λ b. (goal.SliceClient-dyn g (b.vtable, b.value)).steady b.value) g.H.Hash32.digest_of (pins_seen g.H.Hash32.digest_of g.K.Keeper.held c.args.db.now c.do_phase-back.result.0)) c.args.clients.now.items c.loop-place.clients.items c.requires.one c.loop-place.invariant.untouched
    c.do_phase-back.new.clients.items (All AreUnserved) (grow_seen g.H.Hash32.digest_of g.K.Keeper.held c.args.db.now (λ b. (goal.SliceClient-dyn g (b.vtable, b.value)).got b.value) (λ b. (goal.SliceClient-dyn g (b.vtable, b.value)).steady b.value) c.loop-place.seat c.do_phase-back.result.0 did.entries did.added) (λ k ends o m. unserved_phase (λ b. (goal.SliceClient-dyn g (b.vtable, b.value)).got b.value) (λ b. (goal.SliceClient-dyn g (b.vtable, b.value)).steady b.value) g.H.Hash32.digest_of (pins_seen g.H.Hash32.digest_of g.K.Keeper.held c.args.db.now c.do_phase-back.result.0) k c.index-phases-place.result ends o m) (ends_of c.loop-place.ends.items) [] (map (λ its. its.items) c.in-Ok.its.items) c.loop-place.invariant.clients
    (subst (λ ws. LeftByOne AreUnserved (WorkerServed (λ b. (goal.SliceClient-dyn g (b.vtable, b.value)).got b.value) (λ b. (goal.SliceClient-dyn g (b.vtable, b.value)).steady b.value) g.H.Hash32.digest_of (pins_seen g.H.Hash32.digest_of g.K.Keeper.held c.args.db.now c.do_phase-back.result.0)) ws (map (λ its. its.items) c.in-Ok.its.items) c.loop-place.clients.items c.do_phase-back.new.clients.items) c.as_slice-workers.ensures (subst (λ r. IfOk r (λ ends. LeftByOne AreUnserved (WorkerServed (λ b. (goal.SliceClient-dyn g (b.vtable, b.value)).got b.value) (λ b. (goal.SliceClient-dyn g (b.vtable, b.value)).steady b.value) g.H.Hash32.digest_of (pins_seen g.H.Hash32.digest_of g.K.Keeper.held c.args.db.now c.do_phase-back.result.0)) c.as_slice-workers.result.now (map (λ its. its.items) ends.items) c.loop-place.clients.items c.do_phase-back.new.clients.items)) c.in-Ok.is c.do_phase-back.ensures.clients)) (no_end c.loop-place.place (ends_of c.loop-place.ends.items) (map (λ its. its.items) c.in-Ok.its.items))

pub loop-place-preserved : goal.loop-place-preserved
loop-place-preserved g c =
    let ok : is_ok c.push.result ≡ true = c.is_err.ensures.negation ∙ ap not c.if-is_err.false in
    let put : c.push.new.self.items ≡ c.loop-place.ends.items ++ c.in-Ok.its ∷ [] =
    c.push.ensures.items ∙ ap (λ (b : Bool). if b then (c.loop-place.ends.items ++ c.in-Ok.its ∷ []) else c.loop-place.ends.items) ok in
    let all : ends_of c.push.new.self.items ≡ ends_of c.loop-place.ends.items ++ (map (λ its. its.items) c.in-Ok.its.items) ∷ [] =
    ap ends_of put ∙ map-append (λ p. map (λ w. w.items) p.items) c.loop-place.ends.items (c.in-Ok.its ∷ []) in
    let did = (subst (λ ws. PhaseDone g.H.Hash32.digest_of g.K.Keeper.held c.args.db.now c.loop-place.place ws (map (λ its. its.items) c.in-Ok.its.items) c.loop-place.seat c.do_phase-back.result.0) c.as_slice-workers.ensures (subst (λ r. IfOk r (λ ends. PhaseDone g.H.Hash32.digest_of g.K.Keeper.held c.args.db.now c.loop-place.place c.as_slice-workers.result.now (map (λ its. its.items) ends.items) c.loop-place.seat c.do_phase-back.result.0)) c.in-Ok.is c.do_phase-back.ensures.done)) in
    record {
      seat = c.do_phase-back.ensures.seat;
      done = subst (λ ends. PhasesDone g.H.Hash32.digest_of g.K.Keeper.held c.args.db.now (take (c.loop-place.place + 1) c.args.phases.now) ends c.do_phase-back.result.0) (sym all) (next_phase g.H.Hash32.digest_of g.K.Keeper.held c.args.db.now c.args.phases.now c.loop-place.place c.loop-place-test.true c.index-phases-place.result c.index-phases-place.is (ends_of c.loop-place.ends.items) c.loop-place.seat c.do_phase-back.result.0 c.loop-place.invariant.done (map (λ its. its.items) c.in-Ok.its.items) did);
      clients = left_next c.args.phases.now c.loop-place.place c.loop-place-test.true c.index-phases-place.result c.index-phases-place.is (λ p. serves_of p.workers) (PhaseServed (λ b. (goal.SliceClient-dyn g (b.vtable, b.value)).got b.value) (λ b. (goal.SliceClient-dyn g (b.vtable, b.value)).steady b.value) g.H.Hash32.digest_of (pins_seen g.H.Hash32.digest_of g.K.Keeper.held c.args.db.now c.loop-place.seat)) (PhaseServed (λ b. (goal.SliceClient-dyn g (b.vtable, b.value)).got b.value) (λ b. (goal.SliceClient-dyn g (b.vtable, b.value)).steady b.value) g.H.Hash32.digest_of (pins_seen g.H.Hash32.digest_of g.K.Keeper.held c.args.db.now c.do_phase-back.result.0)) c.args.clients.now.items c.loop-place.clients.items c.requires.one c.loop-place.invariant.untouched
          c.do_phase-back.new.clients.items (All AreUnserved) (grow_seen g.H.Hash32.digest_of g.K.Keeper.held c.args.db.now (λ b. (goal.SliceClient-dyn g (b.vtable, b.value)).got b.value) (λ b. (goal.SliceClient-dyn g (b.vtable, b.value)).steady b.value) c.loop-place.seat c.do_phase-back.result.0 did.entries did.added) (λ k ends o m. unserved_phase (λ b. (goal.SliceClient-dyn g (b.vtable, b.value)).got b.value) (λ b. (goal.SliceClient-dyn g (b.vtable, b.value)).steady b.value) g.H.Hash32.digest_of (pins_seen g.H.Hash32.digest_of g.K.Keeper.held c.args.db.now c.do_phase-back.result.0) k c.index-phases-place.result ends o m) (ends_of c.loop-place.ends.items) (ends_of c.push.new.self.items) (map (λ its. its.items) c.in-Ok.its.items) c.loop-place.invariant.clients
          (subst (λ ws. LeftByOne AreUnserved (WorkerServed (λ b. (goal.SliceClient-dyn g (b.vtable, b.value)).got b.value) (λ b. (goal.SliceClient-dyn g (b.vtable, b.value)).steady b.value) g.H.Hash32.digest_of (pins_seen g.H.Hash32.digest_of g.K.Keeper.held c.args.db.now c.do_phase-back.result.0)) ws (map (λ its. its.items) c.in-Ok.its.items) c.loop-place.clients.items c.do_phase-back.new.clients.items) c.as_slice-workers.ensures (subst (λ r. IfOk r (λ ends. LeftByOne AreUnserved (WorkerServed (λ b. (goal.SliceClient-dyn g (b.vtable, b.value)).got b.value) (λ b. (goal.SliceClient-dyn g (b.vtable, b.value)).steady b.value) g.H.Hash32.digest_of (pins_seen g.H.Hash32.digest_of g.K.Keeper.held c.args.db.now c.do_phase-back.result.0)) c.as_slice-workers.result.now (map (λ its. its.items) ends.items) c.loop-place.clients.items c.do_phase-back.new.clients.items)) c.in-Ok.is c.do_phase-back.ensures.clients))
          (one_more_end c.loop-place.place (ends_of c.loop-place.ends.items) (ends_of c.push.new.self.items) (map (λ its. its.items) c.in-Ok.its.items) (ends_beside g.H.Hash32.digest_of (pins_seen g.H.Hash32.digest_of g.K.Keeper.held c.args.db.now c.loop-place.seat) 0 (take c.loop-place.place c.args.phases.now) c.loop-place.seat.seen (ends_of c.loop-place.ends.items) c.loop-place.invariant.done ∙ its_place c.args.phases.now c.loop-place.place c.loop-place-test.true c.index-phases-place.result c.index-phases-place.is) all);
      untouched = untouched_next c.args.phases.now c.loop-place.place c.loop-place-test.true c.index-phases-place.result c.index-phases-place.is (λ p. serves_of p.workers) (PhaseServed (λ b. (goal.SliceClient-dyn g (b.vtable, b.value)).got b.value) (λ b. (goal.SliceClient-dyn g (b.vtable, b.value)).steady b.value) g.H.Hash32.digest_of (pins_seen g.H.Hash32.digest_of g.K.Keeper.held c.args.db.now c.loop-place.seat)) (PhaseServed (λ b. (goal.SliceClient-dyn g (b.vtable, b.value)).got b.value) (λ b. (goal.SliceClient-dyn g (b.vtable, b.value)).steady b.value) g.H.Hash32.digest_of (pins_seen g.H.Hash32.digest_of g.K.Keeper.held c.args.db.now c.do_phase-back.result.0)) c.args.clients.now.items c.loop-place.clients.items c.requires.one c.loop-place.invariant.untouched
          c.do_phase-back.new.clients.items (λ none. c.do_phase-back.ensures.untouched (ap serves_of c.as_slice-workers.ensures ∙ none));
    }

pub returns-clause-clients : goal.returns-clause-clients
returns-clause-clients g c = subst (λ l. LeftByOne (All AreUnserved) (PhaseServed (λ b. (goal.SliceClient-dyn g (b.vtable, b.value)).got b.value) (λ b. (goal.SliceClient-dyn g (b.vtable, b.value)).steady b.value) g.H.Hash32.digest_of (pins_seen g.H.Hash32.digest_of g.K.Keeper.held c.args.db.now c.loop-place.seat)) l (ends_of c.loop-place.ends.items) c.args.clients.now.items c.loop-place.clients.items) (take_all c.loop-place.place c.args.phases.now c.loop-place-test.false) c.loop-place.invariant.clients
