use Rattle.std.proofs.Common.{◌≡◌, ◌≤◌, List, length, sym, ap, ◌∙◌, subst}
use Rattle.std.specs.Prelude.{insert, remove}
use Rattle.cd_block.specs.declared.description.Descr.{Descr}
use Rattle.cd_core.proofs.Places.{on-ok, remove-insert}
use Rattle.cd_core.proofs.placing.store_block.Goals as goal

pub returns-clause-still : goal.returns-clause-still
returns-clause-still g c =
    let blocks = c.args.world.now.blocks in
    let place = c.block_place-place.result in
    let put : c.insert.new.self ≡ insert blocks place c.args.descr = on-ok c.insert.result _ (sym c.is_err.ensures.value ∙ c.if-is_err.false) c.insert.ensures.ok in
    ap (λ (bs : List Descr). record c.args.world.now { blocks = bs })
    (c.remove.ensures ∙ ap (λ (bs : List Descr). remove bs place) put ∙ remove-insert blocks place c.args.descr
    (subst (λ (bs : List Descr). place ≤ length bs) c.as_slice.ensures c.block_place-place.ensures.within))
