use Rattle.std.proofs.Common.{◌≡◌, ◌<◌, length, ap, sym, subst, ◌∙◌, arith}
use Rattle.std.proofs.lemmas.List.{get_or_default}
use Rattle.cd_boc_write.proofs.LayingLaws.{size_of-layout}
use Rattle.cd_boc_write.specs.Keys.{AreKeysOf}
use Rattle.cd_cell.specs.Listings.{listed_at, no_cell}
use Rattle.cd_cell.specs.declared.new_cell.NewCell.{NewCell}
use Rattle.cd_slices.specs.Planned.{AreRefsOf}
use Rattle.cd_slices.proofs.PlanLaws.{numbered-more, number-fits}
use Rattle.cd_slices.proofs.numbering.numbered.Goals as goal

pub loop-cell-preserved : goal.loop-cell-preserved
loop-cell-preserved c =
    let cells = c.args.cells.now in
    let layout = c.args.layout.now in
    let at = c.loop-cell.cell-index in
    let new = c.planned_cell.result in
    let item : c.cell-item.result ≡ listed_at cells at = c.cell-item.is ∙ get_or_default cells at c.cell-item.result no_cell c.loop-cell-test.true in
    let keys = subst (AreKeysOf cells) (sym c.deref.ensures.value) c.in_ok-keys.ensures in
    let some : 0 < length cells = omega (arith, c.loop-cell-test.true) in
    let size = size_of-layout cells layout c.requires.laid in
    numbered-more cells layout.size at c.loop-cell.planned.items c.push.new.self.items new c.loop-cell-test.true c.loop-cell.invariant
    (c.planned_cell.ensures.hash ∙ ap (λ (x : NewCell). x.hash) item)
    (subst (λ (x : NewCell). AreRefsOf cells x new) item (c.planned_cell.ensures.refs cells keys))
    (λ k d in'. number-fits cells layout.size _ c.requires.few size (c.planned_cell.ensures.low cells keys some k d in'))
    c.in_ok-push.ensures.items
