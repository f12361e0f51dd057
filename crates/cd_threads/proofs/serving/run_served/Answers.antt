use Rattle.std.proofs.Common.{ap, sym, subst, ◌∙◌}
use Rattle.std.proofs.lemmas.List.{with_items_is}
use Rattle.cd_threads.proofs.ServedLaws.{Swapped, head_of, ready, did, left, untouched}
use Rattle.cd_threads.proofs.serving.run_served.Goals as goal

pub run_phase-requires-clause-ready : goal.run_phase-requires-clause-ready
run_phase-requires-clause-ready g c _ _ k d lt = ready (λ l. l.clients.items) (λ b. (goal.SliceClient-dyn g (b.vtable, b.value)).got b.value) c.args.workers.now c.server_of-server.result c.server_of-server.ensures.others c.args.lanes.now.items c.as_mut_slice.result.now c.args.clients.now.items c.swap_clients.new.clients.items (subst (λ l. Swapped (λ l. l.clients.items) c.server_of-server.result c.args.lanes.now.items l c.args.clients.now.items c.swap_clients.new.clients.items) (sym c.as_mut_slice.ensures.value) (record { count = c.swap_clients.ensures.count; same = c.swap_clients.ensures.same; given = λ e in_range. ap (λ v. v.items) (c.swap_clients.ensures.given e in_range); taken = λ e in_range. ap (λ v. v.items) (c.swap_clients.ensures.taken e in_range); absent = λ le. ap (λ v. v.items) (c.swap_clients.ensures.absent le) })) c.requires.one_each
    g.T.Turns.worker c.requires.fit c.requires.one c.requires.fresh c.requires.unused k d lt

pub returns-clause-did : goal.returns-clause-did
returns-clause-did g c k d lt = did (λ l. l.clients.items) (λ b. (goal.SliceClient-dyn g (b.vtable, b.value)).got b.value) c.args.workers.now c.server_of-server.result c.server_of-server.ensures.others c.args.lanes.now.items c.as_mut_slice.result.now c.args.clients.now.items c.swap_clients.new.clients.items (subst (λ l. Swapped (λ l. l.clients.items) c.server_of-server.result c.args.lanes.now.items l c.args.clients.now.items c.swap_clients.new.clients.items) (sym c.as_mut_slice.ensures.value) (record { count = c.swap_clients.ensures.count; same = c.swap_clients.ensures.same; given = λ e in_range. ap (λ v. v.items) (c.swap_clients.ensures.given e in_range); taken = λ e in_range. ap (λ v. v.items) (c.swap_clients.ensures.taken e in_range); absent = λ le. ap (λ v. v.items) (c.swap_clients.ensures.absent le) })) c.requires.one_each
    (λ b. (goal.SliceClient-dyn g (b.vtable, b.value)).steady b.value) g.H.Hash32.digest_of g.T.Turns.worker g.T.Turns.faults g.T.Turns.made g.T.Turns.goes g.T.Turns.named c.args.phase c.run_phase.new.lanes c.swap_clients-2.new.lanes.items c.swap_clients-2.new.clients.items
    (subst (λ l. Swapped (λ l. l.clients.items) c.server_of-server.result l c.swap_clients-2.new.lanes.items c.swap_clients.new.clients.items c.swap_clients-2.new.clients.items) (with_items_is c.swap_clients.new.lanes c.run_phase.new.lanes (c.run_phase.auto.lanes ∙ c.as_mut_slice.ensures.len)) (record { count = c.swap_clients-2.ensures.count; same = c.swap_clients-2.ensures.same; given = λ e in_range. ap (λ v. v.items) (c.swap_clients-2.ensures.given e in_range); taken = λ e in_range. ap (λ v. v.items) (c.swap_clients-2.ensures.taken e in_range); absent = λ le. ap (λ v. v.items) (c.swap_clients-2.ensures.absent le) }))
    c.run_phase.auto.lanes c.run_phase.ensures
    k d lt (let u = c.requires.unused k d lt in u.place)

pub returns-clause-clients : goal.returns-clause-clients
returns-clause-clients g c = left (λ l. l.clients.items) (λ b. (goal.SliceClient-dyn g (b.vtable, b.value)).got b.value) c.args.workers.now c.server_of-server.result c.server_of-server.ensures.others c.args.lanes.now.items c.as_mut_slice.result.now c.args.clients.now.items c.swap_clients.new.clients.items (subst (λ l. Swapped (λ l. l.clients.items) c.server_of-server.result c.args.lanes.now.items l c.args.clients.now.items c.swap_clients.new.clients.items) (sym c.as_mut_slice.ensures.value) (record { count = c.swap_clients.ensures.count; same = c.swap_clients.ensures.same; given = λ e in_range. ap (λ v. v.items) (c.swap_clients.ensures.given e in_range); taken = λ e in_range. ap (λ v. v.items) (c.swap_clients.ensures.taken e in_range); absent = λ le. ap (λ v. v.items) (c.swap_clients.ensures.absent le) })) c.requires.one_each
    (λ b. (goal.SliceClient-dyn g (b.vtable, b.value)).steady b.value) g.H.Hash32.digest_of g.T.Turns.worker g.T.Turns.faults g.T.Turns.made g.T.Turns.goes g.T.Turns.named c.args.phase c.run_phase.new.lanes c.swap_clients-2.new.lanes.items c.swap_clients-2.new.clients.items
    (subst (λ l. Swapped (λ l. l.clients.items) c.server_of-server.result l c.swap_clients-2.new.lanes.items c.swap_clients.new.clients.items c.swap_clients-2.new.clients.items) (with_items_is c.swap_clients.new.lanes c.run_phase.new.lanes (c.run_phase.auto.lanes ∙ c.as_mut_slice.ensures.len)) (record { count = c.swap_clients-2.ensures.count; same = c.swap_clients-2.ensures.same; given = λ e in_range. ap (λ v. v.items) (c.swap_clients-2.ensures.given e in_range); taken = λ e in_range. ap (λ v. v.items) (c.swap_clients-2.ensures.taken e in_range); absent = λ le. ap (λ v. v.items) (c.swap_clients-2.ensures.absent le) }))
    c.run_phase.auto.lanes c.run_phase.ensures
    (head_of c.args.lanes.now.items c.requires.some)

pub returns-clause-untouched : goal.returns-clause-untouched
returns-clause-untouched g c none = untouched (λ l. l.clients.items) (λ b. (goal.SliceClient-dyn g (b.vtable, b.value)).got b.value) c.args.workers.now c.server_of-server.result c.server_of-server.ensures.others c.args.lanes.now.items c.as_mut_slice.result.now c.args.clients.now.items c.swap_clients.new.clients.items (subst (λ l. Swapped (λ l. l.clients.items) c.server_of-server.result c.args.lanes.now.items l c.args.clients.now.items c.swap_clients.new.clients.items) (sym c.as_mut_slice.ensures.value) (record { count = c.swap_clients.ensures.count; same = c.swap_clients.ensures.same; given = λ e in_range. ap (λ v. v.items) (c.swap_clients.ensures.given e in_range); taken = λ e in_range. ap (λ v. v.items) (c.swap_clients.ensures.taken e in_range); absent = λ le. ap (λ v. v.items) (c.swap_clients.ensures.absent le) })) c.requires.one_each
    (λ b. (goal.SliceClient-dyn g (b.vtable, b.value)).steady b.value) g.H.Hash32.digest_of g.T.Turns.worker g.T.Turns.faults g.T.Turns.made g.T.Turns.goes g.T.Turns.named c.args.phase c.run_phase.new.lanes c.swap_clients-2.new.lanes.items c.swap_clients-2.new.clients.items
    (subst (λ l. Swapped (λ l. l.clients.items) c.server_of-server.result l c.swap_clients-2.new.lanes.items c.swap_clients.new.clients.items c.swap_clients-2.new.clients.items) (with_items_is c.swap_clients.new.lanes c.run_phase.new.lanes (c.run_phase.auto.lanes ∙ c.as_mut_slice.ensures.len)) (record { count = c.swap_clients-2.ensures.count; same = c.swap_clients-2.ensures.same; given = λ e in_range. ap (λ v. v.items) (c.swap_clients-2.ensures.given e in_range); taken = λ e in_range. ap (λ v. v.items) (c.swap_clients-2.ensures.taken e in_range); absent = λ le. ap (λ v. v.items) (c.swap_clients-2.ensures.absent le) }))
    c.run_phase.auto.lanes c.run_phase.ensures
    (head_of c.args.lanes.now.items c.requires.some) none
