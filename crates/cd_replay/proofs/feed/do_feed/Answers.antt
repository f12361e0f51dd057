use Rattle.std.proofs.Common.{◌≡◌, ◌∷◌, [], ◌++◌, ◌+◌, ◌≤◌, ◌<◌, take, map, length, get_or, List, All, inl, Bool, true, is_ok, not, if◌then◌else◌, refl, ap, subst, sym, ◌∙◌}
use Rattle.std.proofs.lemmas.List.{map-append, take_all}
use Rattle.std.proofs.lemmas.List.Elements.{All-nil}
use Rattle.cd_feed.specs.declared.feed.Phase.{Phase}
use Rattle.cd_feed.specs.declared.feed.Task.{Task}
use Rattle.cd_run.specs.ReportText.{ends_of}
use Rattle.cd_lanes.specs.Lanes.{AreUnserved}
use Rattle.cd_lanes.specs.Left.{LeftByOne, WorkerServed, PhaseServed, serves_of}
use Rattle.cd_replay.specs.Ran.{FeedDone, PhaseDone, PhaseStopped, pins_in}
use Rattle.cd_lanes.proofs.ClientLaws.{unserved_phase}
use Rattle.cd_lanes.proofs.LeftLaws.{one_at, fresh_at, untouched_next, left_next, left_end, its_place, one_more_end, no_end}
use Rattle.cd_lanes.proofs.PhaseRuns.{ends_beside}
use Rattle.cd_replay.proofs.FeedLaws.{no_phase, next_phase, stopped_phase, phase_unplaced, grow_phase, serves_fit}
use Rattle.cd_replay.proofs.feed.do_feed.Goals as goal

pub do_phase-requires-clause-one : goal.do_phase-requires-clause-one
do_phase-requires-clause-one g c = subst (λ (ws : List (List Task)). serves_of ws ≤ 1) (sym c.as_slice.ensures) (one_at c.args.feed.now.phases c.loop-place.place (subst (λ (l : List Phase). c.loop-place.place < length l) c.as_slice-phase-items.ensures c.loop-place-test.true) c.phase-item.result (subst (λ (l : List Phase). c.phase-item.result ≡ get_or l c.loop-place.place c.phase-item.result) c.as_slice-phase-items.ensures c.phase-item.is) (λ p. serves_of p.workers) (PhaseServed (λ b. (goal.SliceClient-dyn g (b.vtable, b.value)).got b.value) (λ b. (goal.SliceClient-dyn g (b.vtable, b.value)).steady b.value) g.H.Hash32.digest_of (pins_in g.H.Hash32.digest_of g.K.Keeper.held c.loop-place.core)) (PhaseServed (λ b. (goal.SliceClient-dyn g (b.vtable, b.value)).got b.value) (λ b. (goal.SliceClient-dyn g (b.vtable, b.value)).steady b.value) g.H.Hash32.digest_of (pins_in g.H.Hash32.digest_of g.K.Keeper.held c.loop-place.core)) c.args.clients.now.items c.loop-place.clients.items (serves_fit c.args.feed.now c.requires.fit) c.loop-place.invariant.untouched)

pub do_phase-requires-clause-fresh : goal.do_phase-requires-clause-fresh
do_phase-requires-clause-fresh g c some = fresh_at c.args.feed.now.phases c.loop-place.place (subst (λ (l : List Phase). c.loop-place.place < length l) c.as_slice-phase-items.ensures c.loop-place-test.true) c.phase-item.result (subst (λ (l : List Phase). c.phase-item.result ≡ get_or l c.loop-place.place c.phase-item.result) c.as_slice-phase-items.ensures c.phase-item.is) (λ p. serves_of p.workers) (PhaseServed (λ b. (goal.SliceClient-dyn g (b.vtable, b.value)).got b.value) (λ b. (goal.SliceClient-dyn g (b.vtable, b.value)).steady b.value) g.H.Hash32.digest_of (pins_in g.H.Hash32.digest_of g.K.Keeper.held c.loop-place.core)) (PhaseServed (λ b. (goal.SliceClient-dyn g (b.vtable, b.value)).got b.value) (λ b. (goal.SliceClient-dyn g (b.vtable, b.value)).steady b.value) g.H.Hash32.digest_of (pins_in g.H.Hash32.digest_of g.K.Keeper.held c.loop-place.core)) c.args.clients.now.items c.loop-place.clients.items (serves_fit c.args.feed.now c.requires.fit) c.loop-place.invariant.untouched (λ b. (goal.SliceClient-dyn g (b.vtable, b.value)).got b.value) (λ _. c.requires.fresh) (subst (λ (ws : List (List Task)). 1 ≤ serves_of ws) c.as_slice.ensures some)

pub loop-place-init : goal.loop-place-init
loop-place-init g c = record {
  done = subst (λ ends. FeedDone g.H.Hash32.digest_of g.K.Keeper.held g.K.Keeper.faults [] (ends_of ends) c.args.core.now c.args.core.now) (sym c.new-ends.ensures.items)
      (no_phase g.H.Hash32.digest_of g.K.Keeper.held g.K.Keeper.faults c.args.core.now);
  clients = inl (refl, subst (λ ends. All (All AreUnserved) (ends_of ends)) (sym c.new-ends.ensures.items) (All-nil (All AreUnserved)));
  untouched = λ _. refl;
}

pub loop-place-preserved : goal.loop-place-preserved
loop-place-preserved g c =
    let ok : is_ok c.push.result ≡ true = c.is_err.ensures.negation ∙ ap not c.if-is_err.false in
    let put : c.push.new.self.items ≡ c.loop-place.ends.items ++ c.in-Ok.its ∷ [] =
    c.push.ensures.items ∙ ap (λ (b : Bool). if b then (c.loop-place.ends.items ++ c.in-Ok.its ∷ []) else c.loop-place.ends.items) ok in
    let all : ends_of c.push.new.self.items ≡ ends_of c.loop-place.ends.items ++ (map (λ its. its.items) c.in-Ok.its.items) ∷ [] =
    ap ends_of put ∙ map-append (λ p. map (λ w. w.items) p.items) c.loop-place.ends.items (c.in-Ok.its ∷ []) in
    record {
      done = subst (λ ends. FeedDone g.H.Hash32.digest_of g.K.Keeper.held g.K.Keeper.faults (take (c.loop-place.place + 1) c.args.feed.now.phases) ends c.args.core.now c.do_phase.new.core) (sym all)
          (next_phase g.H.Hash32.digest_of g.K.Keeper.held g.K.Keeper.faults c.args.feed.now.phases c.loop-place.place (subst (λ (l : List Phase). c.loop-place.place < length l) c.as_slice-phase-items.ensures c.loop-place-test.true) c.phase-item.result (subst (λ (l : List Phase). c.phase-item.result ≡ get_or l c.loop-place.place c.phase-item.result) c.as_slice-phase-items.ensures c.phase-item.is) (ends_of c.loop-place.ends.items) c.args.core.now c.loop-place.core c.do_phase.new.core c.loop-place.invariant.done (map (λ its. its.items) c.in-Ok.its.items) (subst (λ ws. PhaseDone g.H.Hash32.digest_of g.K.Keeper.held g.K.Keeper.faults c.loop-place.place ws (map (λ its. its.items) c.in-Ok.its.items) c.loop-place.core c.do_phase.new.core) c.as_slice.ensures c.in-Ok.ensures.done));
      clients = left_next c.args.feed.now.phases c.loop-place.place (subst (λ (l : List Phase). c.loop-place.place < length l) c.as_slice-phase-items.ensures c.loop-place-test.true) c.phase-item.result (subst (λ (l : List Phase). c.phase-item.result ≡ get_or l c.loop-place.place c.phase-item.result) c.as_slice-phase-items.ensures c.phase-item.is) (λ p. serves_of p.workers) (PhaseServed (λ b. (goal.SliceClient-dyn g (b.vtable, b.value)).got b.value) (λ b. (goal.SliceClient-dyn g (b.vtable, b.value)).steady b.value) g.H.Hash32.digest_of (pins_in g.H.Hash32.digest_of g.K.Keeper.held c.loop-place.core)) (PhaseServed (λ b. (goal.SliceClient-dyn g (b.vtable, b.value)).got b.value) (λ b. (goal.SliceClient-dyn g (b.vtable, b.value)).steady b.value) g.H.Hash32.digest_of (pins_in g.H.Hash32.digest_of g.K.Keeper.held c.do_phase.new.core)) c.args.clients.now.items c.loop-place.clients.items (serves_fit c.args.feed.now c.requires.fit) c.loop-place.invariant.untouched c.do_phase.new.clients.items (All AreUnserved) (grow_phase (λ b. (goal.SliceClient-dyn g (b.vtable, b.value)).got b.value) (λ b. (goal.SliceClient-dyn g (b.vtable, b.value)).steady b.value) g.H.Hash32.digest_of g.K.Keeper.held c.loop-place.core c.do_phase.new.core c.in-Ok.ensures.done.entries c.in-Ok.ensures.done.start c.in-Ok.ensures.done.journal) (λ k ends o m. unserved_phase (λ b. (goal.SliceClient-dyn g (b.vtable, b.value)).got b.value) (λ b. (goal.SliceClient-dyn g (b.vtable, b.value)).steady b.value) g.H.Hash32.digest_of (pins_in g.H.Hash32.digest_of g.K.Keeper.held c.do_phase.new.core) k c.phase-item.result ends o m) (ends_of c.loop-place.ends.items) (ends_of c.push.new.self.items) (map (λ its. its.items) c.in-Ok.its.items) c.loop-place.invariant.clients
          (subst (λ ws. LeftByOne AreUnserved (WorkerServed (λ b. (goal.SliceClient-dyn g (b.vtable, b.value)).got b.value) (λ b. (goal.SliceClient-dyn g (b.vtable, b.value)).steady b.value) g.H.Hash32.digest_of (pins_in g.H.Hash32.digest_of g.K.Keeper.held c.do_phase.new.core)) ws (map (λ its. its.items) c.in-Ok.its.items) c.loop-place.clients.items c.do_phase.new.clients.items) c.as_slice.ensures c.in-Ok.ensures.clients) (one_more_end c.loop-place.place (ends_of c.loop-place.ends.items) (ends_of c.push.new.self.items) (map (λ its. its.items) c.in-Ok.its.items) (ends_beside g.H.Hash32.digest_of (pins_in g.H.Hash32.digest_of g.K.Keeper.held c.loop-place.core) 0 (take c.loop-place.place c.args.feed.now.phases) c.loop-place.invariant.done.entries (ends_of c.loop-place.ends.items) c.loop-place.invariant.done.are ∙ its_place c.args.feed.now.phases c.loop-place.place (subst (λ (l : List Phase). c.loop-place.place < length l) c.as_slice-phase-items.ensures c.loop-place-test.true) c.phase-item.result (subst (λ (l : List Phase). c.phase-item.result ≡ get_or l c.loop-place.place c.phase-item.result) c.as_slice-phase-items.ensures c.phase-item.is)) all);
      untouched = untouched_next c.args.feed.now.phases c.loop-place.place (subst (λ (l : List Phase). c.loop-place.place < length l) c.as_slice-phase-items.ensures c.loop-place-test.true) c.phase-item.result (subst (λ (l : List Phase). c.phase-item.result ≡ get_or l c.loop-place.place c.phase-item.result) c.as_slice-phase-items.ensures c.phase-item.is) (λ p. serves_of p.workers) (PhaseServed (λ b. (goal.SliceClient-dyn g (b.vtable, b.value)).got b.value) (λ b. (goal.SliceClient-dyn g (b.vtable, b.value)).steady b.value) g.H.Hash32.digest_of (pins_in g.H.Hash32.digest_of g.K.Keeper.held c.loop-place.core)) (PhaseServed (λ b. (goal.SliceClient-dyn g (b.vtable, b.value)).got b.value) (λ b. (goal.SliceClient-dyn g (b.vtable, b.value)).steady b.value) g.H.Hash32.digest_of (pins_in g.H.Hash32.digest_of g.K.Keeper.held c.do_phase.new.core)) c.args.clients.now.items c.loop-place.clients.items (serves_fit c.args.feed.now c.requires.fit) c.loop-place.invariant.untouched c.do_phase.new.clients.items (λ none. c.in-Ok.ensures.untouched (ap serves_of c.as_slice.ensures ∙ none));
    }

pub returns-in-Err-clause-stopped : goal.returns-in-Err-clause-stopped
returns-in-Err-clause-stopped g c =
    stopped_phase g.H.Hash32.digest_of g.K.Keeper.held g.K.Keeper.faults c.args.feed.now.phases c.loop-place.place (subst (λ (l : List Phase). c.loop-place.place < length l) c.as_slice-phase-items.ensures c.loop-place-test.true) c.phase-item.result (subst (λ (l : List Phase). c.phase-item.result ≡ get_or l c.loop-place.place c.phase-item.result) c.as_slice-phase-items.ensures c.phase-item.is) (ends_of c.loop-place.ends.items) c.args.core.now c.loop-place.core c.do_phase.new.core c.loop-place.invariant.done
    (subst (λ ws. PhaseStopped g.H.Hash32.digest_of g.K.Keeper.held g.K.Keeper.faults c.loop-place.place ws c.loop-place.core c.do_phase.new.core) c.as_slice.ensures c.in-Err.ensures.stopped)

pub returns-in-Err-clause-clients_then : goal.returns-in-Err-clause-clients_then
returns-in-Err-clause-clients_then g c = left_end c.args.feed.now.phases c.loop-place.place (subst (λ (l : List Phase). c.loop-place.place < length l) c.as_slice-phase-items.ensures c.loop-place-test.true) c.phase-item.result (subst (λ (l : List Phase). c.phase-item.result ≡ get_or l c.loop-place.place c.phase-item.result) c.as_slice-phase-items.ensures c.phase-item.is) (λ p. serves_of p.workers) (PhaseServed (λ b. (goal.SliceClient-dyn g (b.vtable, b.value)).got b.value) (λ b. (goal.SliceClient-dyn g (b.vtable, b.value)).steady b.value) g.H.Hash32.digest_of (pins_in g.H.Hash32.digest_of g.K.Keeper.held c.loop-place.core)) (PhaseServed (λ b. (goal.SliceClient-dyn g (b.vtable, b.value)).got b.value) (λ b. (goal.SliceClient-dyn g (b.vtable, b.value)).steady b.value) g.H.Hash32.digest_of (pins_in g.H.Hash32.digest_of g.K.Keeper.held c.do_phase.new.core)) c.args.clients.now.items c.loop-place.clients.items (serves_fit c.args.feed.now c.requires.fit) c.loop-place.invariant.untouched c.do_phase.new.clients.items (All AreUnserved) (grow_phase (λ b. (goal.SliceClient-dyn g (b.vtable, b.value)).got b.value) (λ b. (goal.SliceClient-dyn g (b.vtable, b.value)).steady b.value) g.H.Hash32.digest_of g.K.Keeper.held c.loop-place.core c.do_phase.new.core c.in-Err.ensures.stopped.entries c.in-Err.ensures.stopped.start c.in-Err.ensures.stopped.journal) (λ k ends o m. unserved_phase (λ b. (goal.SliceClient-dyn g (b.vtable, b.value)).got b.value) (λ b. (goal.SliceClient-dyn g (b.vtable, b.value)).steady b.value) g.H.Hash32.digest_of (pins_in g.H.Hash32.digest_of g.K.Keeper.held c.do_phase.new.core) k c.phase-item.result ends o m) (ends_of c.loop-place.ends.items) [] [] c.loop-place.invariant.clients
    (subst (λ ws. LeftByOne AreUnserved (WorkerServed (λ b. (goal.SliceClient-dyn g (b.vtable, b.value)).got b.value) (λ b. (goal.SliceClient-dyn g (b.vtable, b.value)).steady b.value) g.H.Hash32.digest_of (pins_in g.H.Hash32.digest_of g.K.Keeper.held c.do_phase.new.core)) ws [] c.loop-place.clients.items c.do_phase.new.clients.items) c.as_slice.ensures c.in-Err.ensures.clients_then) (no_end c.loop-place.place (ends_of c.loop-place.ends.items) [])

pub returns-then-is_err-clause-stopped : goal.returns-then-is_err-clause-stopped
returns-then-is_err-clause-stopped g c =
    stopped_phase g.H.Hash32.digest_of g.K.Keeper.held g.K.Keeper.faults c.args.feed.now.phases c.loop-place.place (subst (λ (l : List Phase). c.loop-place.place < length l) c.as_slice-phase-items.ensures c.loop-place-test.true) c.phase-item.result (subst (λ (l : List Phase). c.phase-item.result ≡ get_or l c.loop-place.place c.phase-item.result) c.as_slice-phase-items.ensures c.phase-item.is) (ends_of c.loop-place.ends.items) c.args.core.now c.loop-place.core c.do_phase.new.core c.loop-place.invariant.done
    (phase_unplaced g.H.Hash32.digest_of g.K.Keeper.held g.K.Keeper.faults c.loop-place.place c.phase-item.result.workers (map (λ its. its.items) c.in-Ok.its.items) c.loop-place.core c.do_phase.new.core (subst (λ ws. PhaseDone g.H.Hash32.digest_of g.K.Keeper.held g.K.Keeper.faults c.loop-place.place ws (map (λ its. its.items) c.in-Ok.its.items) c.loop-place.core c.do_phase.new.core) c.as_slice.ensures c.in-Ok.ensures.done))

pub returns-then-is_err-clause-clients_then : goal.returns-then-is_err-clause-clients_then
returns-then-is_err-clause-clients_then g c = left_end c.args.feed.now.phases c.loop-place.place (subst (λ (l : List Phase). c.loop-place.place < length l) c.as_slice-phase-items.ensures c.loop-place-test.true) c.phase-item.result (subst (λ (l : List Phase). c.phase-item.result ≡ get_or l c.loop-place.place c.phase-item.result) c.as_slice-phase-items.ensures c.phase-item.is) (λ p. serves_of p.workers) (PhaseServed (λ b. (goal.SliceClient-dyn g (b.vtable, b.value)).got b.value) (λ b. (goal.SliceClient-dyn g (b.vtable, b.value)).steady b.value) g.H.Hash32.digest_of (pins_in g.H.Hash32.digest_of g.K.Keeper.held c.loop-place.core)) (PhaseServed (λ b. (goal.SliceClient-dyn g (b.vtable, b.value)).got b.value) (λ b. (goal.SliceClient-dyn g (b.vtable, b.value)).steady b.value) g.H.Hash32.digest_of (pins_in g.H.Hash32.digest_of g.K.Keeper.held c.do_phase.new.core)) c.args.clients.now.items c.loop-place.clients.items (serves_fit c.args.feed.now c.requires.fit) c.loop-place.invariant.untouched c.do_phase.new.clients.items (All AreUnserved) (grow_phase (λ b. (goal.SliceClient-dyn g (b.vtable, b.value)).got b.value) (λ b. (goal.SliceClient-dyn g (b.vtable, b.value)).steady b.value) g.H.Hash32.digest_of g.K.Keeper.held c.loop-place.core c.do_phase.new.core c.in-Ok.ensures.done.entries c.in-Ok.ensures.done.start c.in-Ok.ensures.done.journal) (λ k ends o m. unserved_phase (λ b. (goal.SliceClient-dyn g (b.vtable, b.value)).got b.value) (λ b. (goal.SliceClient-dyn g (b.vtable, b.value)).steady b.value) g.H.Hash32.digest_of (pins_in g.H.Hash32.digest_of g.K.Keeper.held c.do_phase.new.core) k c.phase-item.result ends o m) (ends_of c.loop-place.ends.items) [] (map (λ its. its.items) c.in-Ok.its.items) c.loop-place.invariant.clients
    (subst (λ ws. LeftByOne AreUnserved (WorkerServed (λ b. (goal.SliceClient-dyn g (b.vtable, b.value)).got b.value) (λ b. (goal.SliceClient-dyn g (b.vtable, b.value)).steady b.value) g.H.Hash32.digest_of (pins_in g.H.Hash32.digest_of g.K.Keeper.held c.do_phase.new.core)) ws (map (λ its. its.items) c.in-Ok.its.items) c.loop-place.clients.items c.do_phase.new.clients.items) c.as_slice.ensures c.in-Ok.ensures.clients) (no_end c.loop-place.place (ends_of c.loop-place.ends.items) (map (λ its. its.items) c.in-Ok.its.items))

pub returns-clause-done : goal.returns-clause-done
returns-clause-done g c = subst (λ (l : List Phase). FeedDone g.H.Hash32.digest_of g.K.Keeper.held g.K.Keeper.faults l (ends_of c.loop-place.ends.items) c.args.core.now c.loop-place.core) (take_all c.loop-place.place c.args.feed.now.phases (subst (λ (l : List Phase). length l ≤ c.loop-place.place) c.as_slice-phase-items.ensures c.loop-place-test.false)) c.loop-place.invariant.done

pub returns-clause-clients : goal.returns-clause-clients
returns-clause-clients g c = subst (λ (l : List Phase). LeftByOne (All AreUnserved) (PhaseServed (λ b. (goal.SliceClient-dyn g (b.vtable, b.value)).got b.value) (λ b. (goal.SliceClient-dyn g (b.vtable, b.value)).steady b.value) g.H.Hash32.digest_of (pins_in g.H.Hash32.digest_of g.K.Keeper.held c.loop-place.core)) l (ends_of c.loop-place.ends.items) c.args.clients.now.items c.loop-place.clients.items) (take_all c.loop-place.place c.args.feed.now.phases (subst (λ (l : List Phase). length l ≤ c.loop-place.place) c.as_slice-phase-items.ensures c.loop-place-test.false)) c.loop-place.invariant.clients
