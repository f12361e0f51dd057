use Rattle.std.proofs.Common.{rules, ap, ◌∙◌}
use Rattle.std.specs.Prelude.{filter, not}
use Rattle.std.proofs.lemmas.Fn.{filter_same}
use Rattle.cd_world.specs.Standing.{is_pin}
use Rattle.cd_world.proofs.world.Rows+PinRow.drop_pin.Goals as goal

pub returns : goal.returns
returns c = filter_same _ _ _ (λ x b f' k. search rules) _ _ c.retain.ensures.filtered ∙ ap (filter (λ r. not (is_pin c.args.worker c.args.pin r))) c.self.view_is
