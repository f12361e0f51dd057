use Rattle.std.proofs.Common.{◌≡◌, length, refl, ap, ◌∙◌, inl}
use Rattle.std.proofs.lemmas.List.{length-map}
use Rattle.cd_cell.specs.Export.{distinct_cells}
use Rattle.cd_cell.specs.Infos.{rep_of_info}
use Rattle.cd_cell.specs.Listings.{new_cell_of}
use Rattle.cd_cell.specs.Tree.{rep_of}
use Rattle.cd_command.proofs.CoreRuns.{leads-to}
use Rattle.cd_zero.specs.Zero.{zero_id, block_text}
use Rattle.cd_zero.proofs.StoringLaws.{storing-ends, unopened-ends}
use Rattle.cd_zero.proofs.storing.store.Goals as goal

pub returns-in_default : goal.returns-in_default
returns-in_default g c = λ state lists.
    rw (c.of.ensures.status, c.of.ensures.keeper)
    (record { entries = c.of.ensures.journal; left = inl (inl (record { same_held = refl; same_trail = refl; same_batches = refl })) }, refl, refl)

pub returns-in-Err : goal.returns-in-Err
returns-in-Err g c = λ state lists.
    unopened-ends g.H.Hash32.digest_of g.K.Keeper g.O.Sink c.args.name state c.in-Err.ended.journal.items c.args.out.now c.args.keeper
    c.in-Err.ended.keeper c.in-Err.ended.status c.in-Err.ensures.refused c.in-Err.ensures.no_entry

pub returns : goal.returns
returns g c = λ state lists.
    let H = g.H.Hash32.digest_of in
    let k = g.K.Keeper in
    let whole = lists.whole in
    let core = c.in-Ok-open_store.core in
    let opened = c.in-Ok-open_store.ensures.opened in
    let named : c.id_of-id.result ≡ zero_id c.args.name (rep_of H state) = c.id_of-id.ensures ∙ ap (zero_id c.args.name) (c.rep.ensures ∙ ap rep_of_info (c.root.ensures.value ∙ whole.root_is)) in
    let count : length c.cells.result.now ≡ length (distinct_cells H state) = ap length (c.cells.ensures.value ∙ whole.cells_are) ∙ length-map (distinct_cells H state) (new_cell_of H) in
    storing-ends H k g.O.Sink c.args.name state c.args.prepared lists c.take-answer.result.journal.items
    c.args.out.now c.tell.new.out c.args.keeper c.take-answer.result.keeper
    (leads-to H k c.args.keeper core opened c.in-Ok-open_store.ensures.kept core.start c.take-answer.result.journal.items c.take-answer.result.keeper refl c.take-answer.ensures.kept)
    (k.faults core.keeper) opened.steady
    c.id_of-id.result c.deref.result.now c.take-answer.result.answer c.tell.result named
    (c.deref.ensures ∙ c.in-Ok.ensures ∙ (λ i. block_text (named i) (count i)))
    c.take-answer.ensures.entry c.take-answer.ensures.cause c.tell.ensures
