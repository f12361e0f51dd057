use Rattle.std.proofs.Common.{◌≡◌, inl, inr, Some, append-nil, refl, sym, ap, ap₂, subst, ◌∙◌}
use Rattle.std.specs.Option.{option_and_then}
use Rattle.cd_event.specs.Pins.{state_of, find_pin}
use Rattle.cd_run.specs.Clients.{Sent, IsUnserved}
use Rattle.cd_run.specs.Stages.{is_halted}
use Rattle.cd_run.proofs.SentLaws.{sent_further, stop_unserved}
use Rattle.cd_feed.specs.declared.feed.Task.TheVariants as task
use Rattle.cd_run.specs.Finds.{ServeFinds}
use Rattle.cd_run.specs.Runs.{IsAnyNumber}
use Rattle.cd_run.proofs.PinLaws.{did_unpinned, did_pinned, looks_named}
use Rattle.cd_run.proofs.serve_task.do_serve.Goals as goal

pub returns-in-Err-clause-did : goal.returns-in-Err-clause-did
returns-in-Err-clause-did g c =
    let T = g.T.Turns in
    rw c.end_of_stop.ensures
    (did_unpinned T.worker T.faults T.made T.goes T.named g.met.T.Turns.further g.T.Hash.Hash32.digest_of c.args.who (task.Serve c.args.id c.args.max) c.args.id IsAnyNumber
    (ServeFinds g.T.Hash.Hash32.digest_of) (λ pins es end run. run) c.args.turns.now c.take_pin.new.turns c.in-Err.stop c.requires.worker c.in-Err.ensures.pinned)

pub returns-in-Err-clause-clients : goal.returns-in-Err-clause-clients
returns-in-Err-clause-clients g c = inl (refl, subst IsUnserved (sym c.end_of_stop.ensures) (stop_unserved c.in-Err.stop))

pub returns-clause-did : goal.returns-clause-did
returns-clause-did g c =
    let T = g.T.Turns in
    let looks = c.serve_pin-end.ensures.looks in
    did_pinned T.worker T.faults T.made T.goes T.named g.met.T.Turns.further g.T.Hash.Hash32.digest_of c.args.who (task.Serve c.args.id c.args.max) c.args.id IsAnyNumber
    (ServeFinds g.T.Hash.Hash32.digest_of) (λ pins es end run. run) c.args.turns.now c.take_pin.new.turns c.serve_pin-end.new.turns c.let_go.new.turns c.in-Ok.pinned looks.0
    c.serve_pin-end.result c.let_go.result c.requires.worker c.in-Ok.ensures.pinned (λ n is. tt) looks.1 c.serve_pin-end.ensures.finds c.let_go.ensures

pub returns-clause-clients : goal.returns-clause-clients
returns-clause-clients g c =
    let T = g.T.Turns in
    let H = g.T.Hash.Hash32.digest_of in
    let old = c.args.clients.now.items in
    let new = c.serve_pin-end.new.clients.items in
    let came = c.in-Ok.ensures.pinned in
    let looks = c.serve_pin-end.ensures.looks in
    let work = c.serve_pin-end.result in
    let same : T.named c.let_go.new.turns ≡ T.named c.take_pin.new.turns = c.let_go.ensures.pinned ∙ (append-nil (T.named c.serve_pin-end.new.turns)
    ∙ looks_named T.worker T.faults T.made T.goes T.named (is_halted work) _ c.in-Ok.pinned.pin c.take_pin.new.turns c.serve_pin-end.new.turns 0 looks.0 looks.1) in
    let told : state_of (T.named c.take_pin.new.turns) c.in-Ok.pinned.pin ≡ came.pin.tree = ap (option_and_then (λ n. n.tree)) came.found in
    let kept : find_pin (T.named c.let_go.new.turns) came.pin.number ≡ Some came.pin = ap₂ find_pin same came.number ∙ came.found in
    inr (
      came.pin,
      kept,
      subst (λ t. Sent (λ b. (goal.SliceClient-dyn g (b.vtable, b.value)).got b.value) (λ b. (goal.SliceClient-dyn g (b.vtable, b.value)).steady b.value) H t old new c.let_go.result) told
          (sent_further _ _ H (state_of (T.named c.take_pin.new.turns) c.in-Ok.pinned.pin) old new _ c.in-Ok.pinned.pin work c.let_go.ensures.entries c.let_go.result c.let_go.ensures.are c.serve_pin-end.ensures.sent),
    )
