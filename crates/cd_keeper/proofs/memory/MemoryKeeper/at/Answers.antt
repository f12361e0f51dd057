use Rattle.std.proofs.Common.{◌≡◌, ◌≤◌, length, sym, ap, ◌∙◌, refl, arith}
use Rattle.std.proofs.lemmas.List.{length-take}
use Rattle.cd_keeper.specs.Memories.{raw_contents}
use Rattle.cd_keeper.proofs.TrailLaws.{length-trail_of, get-trail_of}
use Rattle.cd_keeper.proofs.memory.MemoryKeeper.at.Goals as goal

pub slice_bounds-apply_all-end : goal.slice_bounds-apply_all-end
slice_bounds-apply_all-end c =
    let count : length c.args.self.now.trail ≡ length c.self.inside.applied.items = ap (λ m. length m.trail) (sym c.self.view_is) ∙ length-trail_of _ _ in
    omega (arith, length-take c.args.k c.deref-3.result.now, ap length c.deref-3.ensures.value, count, c.batches.ensures)

pub returns-clause-value : goal.returns-clause-value
returns-clause-value c =
    let count : length c.args.self.now.trail ≡ length c.self.inside.applied.items = ap (λ m. length m.trail) (sym c.self.view_is) ∙ length-trail_of _ _ in
    let within : c.args.k ≤ length c.self.inside.applied.items = omega (arith, count, c.batches.ensures) in
    rw (← c.self.view_is, get-trail_of (raw_contents c.self.inside.raw_cells.items c.self.inside.raw_descs.items) c.self.inside.applied.items c.args.k within)
    (rw (c.of_tables.ensures, c.in_ok-apply_all.ensures, c.in_ok-tables.ensures, c.deref.ensures.value, c.deref-2.ensures.value, c.deref-3.ensures.value) refl)
