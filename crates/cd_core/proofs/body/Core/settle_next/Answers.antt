use Rattle.std.proofs.Common.{◌≡◌, [], length, get_or, Some, None, refl, sym, ap, ◌∙◌, subst, arith}
use Rattle.std.specs.Option.{option_map}
use Rattle.std.proofs.lemmas.Option.{slice_get_within}
use Rattle.cd_block.specs.declared.description.Descr.{Descr}
use Rattle.cd_keeper.specs.Contents.{changed}
use Rattle.cd_world.specs.declared.world.World.{World}
use Rattle.cd_world.proofs.Searches.{find-passes}
use Rattle.cd_core.specs.Cores.{CoreView, opened, world_of}
use Rattle.cd_core.specs.Settling.{Settles, first_leaving, is_leaving, without_leaving}
use Rattle.cd_core.proofs.Journaling.{kept-core}
use Rattle.cd_core.proofs.Settled.{block-is, bare-core, writable-core, writable-left, dropped-left, settled-core, tells-left}
use Rattle.cd_core.proofs.body.Core.settle_next.Goals as goal

pub returns-in_default-clause-settles : goal.returns-in_default-clause-settles
returns-in_default-clause-settles g c =
    let k = g.K.Keeper in
    let none : c.self.inside.journal ≡ [] = ap (λ (v : CoreView g.row.K.Denot g.row.H.Denot). v.journal) c.self.view_is ∙ c.requires in
    let bare = bare-core k.held g.H.Hash32.digest_of k.trail k.batches k.faults c.self.inside.start c.self.inside.journal c.self.inside.keeper c.self.inside.world none c.self.invariant in
    let both = subst (λ (v : CoreView g.row.K.Denot g.row.H.Denot). (first_leaving (world_of v) ≡ None) × (world_of v ≡ opened (let w = world_of v in w.blocks))) c.self.view_is
    (subst (λ w. (first_leaving w ≡ None) × (w ≡ opened w.blocks)) c.self.invariant.0 (c.leaving_place.ensures.none c.in_default.is, bare)) in
    (both.0, both.1, refl, refl)

pub bounds-as_slice-place : goal.bounds-as_slice-place
bounds-as_slice-place g c =
    let some = c.in-Some.ensures.some in
    let inside = slice_get_within c.self.inside.world.blocks c.in-Some.place some.0 some.1 in
    omega (arith, inside, ap length c.as_slice.ensures)

pub bounds-as_slice-place-in-Some : goal.bounds-as_slice-place-in-Some
bounds-as_slice-place-in-Some g c =
    let some = c.in-Some.ensures.some in
    let inside = slice_get_within c.self.inside.world.blocks c.in-Some.place some.0 some.1 in
    omega (arith, inside, ap length c.as_slice.ensures)

pub offset_bounds-as_slice-place : goal.offset_bounds-as_slice-place
offset_bounds-as_slice-place g c =
    let some = c.in-Some.ensures.some in
    let inside = slice_get_within c.self.inside.world.blocks c.in-Some.place some.0 some.1 in
    let same = ap length c.as_slice.ensures in
    let fits = c.as_slice.type_inv in
    omega (arith, inside, same, fits.0, fits.1)

pub drop_leaving-requires-clause-bare : goal.drop_leaving-requires-clause-bare
drop_leaving-requires-clause-bare g c =
    let k = g.K.Keeper in
    let none : c.self.inside.journal ≡ [] = ap (λ (v : CoreView g.row.K.Denot g.row.H.Denot). v.journal) c.self.view_is ∙ c.requires in
    bare-core k.held g.H.Hash32.digest_of k.trail k.batches k.faults c.self.inside.start c.self.inside.journal c.self.inside.keeper c.self.inside.world none c.self.invariant

pub remove-requires : goal.remove-requires
remove-requires g c =
    let some = c.in-Some.ensures.some in
    slice_get_within c.self.inside.world.blocks c.in-Some.place some.0 some.1

pub invariant_of-self : goal.invariant_of-self
invariant_of-self g c =
    let k = g.K.Keeper in
    let H = g.H.Hash32.digest_of in
    let w = c.self.inside.world in
    let start = c.self.inside.start in
    let es = c.self.inside.journal in
    let none : es ≡ [] = ap (λ (v : CoreView g.row.K.Denot g.row.H.Denot). v.journal) c.self.view_is ∙ c.requires in
    let bare = bare-core k.held H k.trail k.batches k.faults start es c.self.inside.keeper w none c.self.invariant in
    let ready = writable-core k.held H k.trail k.batches k.faults start es c.self.inside.keeper w none c.self.invariant in
    let some = c.in-Some.ensures.some in
    let leaving = find-passes is_leaving w.blocks some.0 some.2 in
    let blocks = c.remove.ensures ∙ some.3 in
    let pins = ap (λ (v : World). v.pins) bare in
    let next = ap (λ (v : World). v.next) bare in
    let made = c.in-Ok.ensures.done in
    let applied = made.applied in
    settled-core k.held H k.trail k.batches k.faults start es c.self.inside.keeper w none c.self.invariant
    (record { world = c.of.result; keeper = c.of-in-Ok.result; limit = start.limit })
    (record { blocks = c.remove.new.self; pins = w.pins; next = w.next }) c.drop_leaving.new.keeper
    c.of.ensures c.of-in-Ok.ensures refl (λ i. record { blocks = blocks i; pins = pins i; next = next i })
    (writable-left w ready bare c.in-Some.place some.0 some.1 leaving some.3)
    (tells-left k.held made.change c.self.inside.keeper c.drop_leaving.new.keeper applied.made)
    (λ t same h. dropped-left w ready bare c.in-Some.place some.0 some.1 leaving some.3 k.held H k.trail k.batches c.self.inside.keeper c.drop_leaving.new.keeper made t same h)

pub invariant_of-self-in-Err : goal.invariant_of-self-in-Err
invariant_of-self-in-Err g c =
    let k = g.K.Keeper in
    kept-core k.held g.H.Hash32.digest_of k.trail k.batches k.faults c.self.inside.world c.self.inside.start c.self.inside.journal c.self.inside.keeper c.drop_leaving.new.keeper
    c.self.invariant c.in-Err.ensures.undone c.drop_leaving.ensures.cause.later

pub returns-in-Ok-clause-settles : goal.returns-in-Ok-clause-settles
returns-in-Ok-clause-settles g c =
    let k = g.K.Keeper in
    let H = g.H.Hash32.digest_of in
    let w = c.self.inside.world in
    let start = c.self.inside.start in
    let es = c.self.inside.journal in
    let none : es ≡ [] = ap (λ (v : CoreView g.row.K.Denot g.row.H.Denot). v.journal) c.self.view_is ∙ c.requires in
    let bare = bare-core k.held H k.trail k.batches k.faults start es c.self.inside.keeper w none c.self.invariant in
    let ready = writable-core k.held H k.trail k.batches k.faults start es c.self.inside.keeper w none c.self.invariant in
    let some = c.in-Some.ensures.some in
    let leaving = find-passes is_leaving w.blocks some.0 some.2 in
    let blocks = c.remove.ensures ∙ some.3 in
    let pins = ap (λ (v : World). v.pins) bare in
    let next = ap (λ (v : World). v.next) bare in
    let left : record { blocks = c.remove.new.self; pins = w.pins; next = w.next } ≡ without_leaving w = λ i. record { blocks = blocks i; pins = pins i; next = next i } in
    let read = block-is w.blocks c.as_slice.result.now c.in-Some.place c.index-as_slice-place.result some.0 c.as_slice.ensures c.index-as_slice-place.is some.1 in
    let named = sym c.index-as_slice-place.is ∙ read in
    let made = c.in-Ok.ensures.done in
    let applied = made.applied in
    let now : CoreView g.row.K.Denot g.row.H.Denot = record { start = record { world = c.of.result; keeper = c.of-in-Ok.result; limit = start.limit }; journal = es; keeper = c.drop_leaving.new.keeper } in
    subst (λ (v : CoreView g.row.K.Denot g.row.H.Denot). Settles k.held H k.trail k.batches {X = g.row.H.Denot} v now (get_or c.as_slice.result.now c.in-Some.place c.index-as_slice-place.result).id) c.self.view_is (record {
      block = some.0;
      first = subst (λ v. first_leaving v ≡ Some some.0) c.self.invariant.0 some.2;
      named = ap (λ (x : Descr). x.id) named;
      world = c.of.ensures ∙ left ∙ ap without_leaving c.self.invariant.0;
      keeper = c.of-in-Ok.ensures;
      limit = refl;
      batched = applied.counted;
      silent = λ untold. applied.made ∙ ap (option_map (changed made.change)) untold;
      told = λ t same h. dropped-left w ready bare c.in-Some.place some.0 some.1 leaving some.3 k.held H k.trail k.batches c.self.inside.keeper c.drop_leaving.new.keeper made t (same ∙ sym c.self.invariant.0) h;
    })
