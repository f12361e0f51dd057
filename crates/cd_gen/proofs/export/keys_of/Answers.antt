use Rattle.std.proofs.Common.{sym, ap, ◌∙◌}
use Rattle.std.proofs.lemmas.List.{get_or-map}
use Rattle.cd_cell.specs.declared.info.ChildInfo.{ChildInfo}
use Rattle.cd_gen.specs.declared.cell.Cell.{Cell}
use Rattle.cd_cell.specs.Keys.{export_key}
use Rattle.cd_gen.proofs.OrderLaws.{keys-more}
use Rattle.cd_gen.proofs.export.keys_of.Goals as goal

pub loop-number-preserved : goal.loop-number-preserved
loop-number-preserved c =
    let cell = c.index-cells-number.result in
    let number = c.loop-number.number in
    keys-more _ c.loop-number.keys.items c.push.new.self.items number c.of.result c.loop-number.invariant c.in_ok-push.ensures.items
    (λ e.
    c.of.ensures
    ∙ ap (λ (i : ChildInfo). export_key i number)
    (ap (λ (x : Cell). x.info) c.index-cells-number.is ∙ sym (get_or-map (λ (x : Cell). x.info) c.args.cells.now number cell e c.loop-number-test.true)))
