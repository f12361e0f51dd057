use Rattle.std.proofs.Common.{length, inr, ap, ◌∙◌}
use Rattle.std.specs.Option.{option_map}
use Rattle.std.proofs.lemmas.List.{length-map}
use Rattle.cd_cell.specs.Levels.{info_of_face}
use Rattle.cd_cell.proofs.ClashLaws.{clash_of-found}
use Rattle.cd_prepare.specs.declared.prepare_fault.PrepareFault.TheVariants.{NewClash}
use Rattle.cd_prepare.proofs.update.new_cells.Goals as goal

pub least_clash-requires-clause-counted : goal.least_clash-requires-clause-counted
least_clash-requires-clause-counted g c = ap length c.requires.shown ∙ length-map c.args.faces.now (info_of_face g.H.Hash32.digest_of)

pub listing_of-requires-clause-clear : goal.listing_of-requires-clause-clear
listing_of-requires-clause-clear g c = clash_of-found g.H.Hash32.digest_of c.args.faces.now c.args.infos.now c.in-Ok-None.field-0 c.requires.shown c.in-Ok-None.ensures ∙ c.in-Ok-None.field-0-is

pub returns-in-Ok-clause-exact : goal.returns-in-Ok-clause-exact
returns-in-Ok-clause-exact g c =
    ap (option_map (λ hash. NewClash hash))
    (clash_of-found g.H.Hash32.digest_of c.args.faces.now c.args.infos.now c.in-Ok-None.field-0 c.requires.shown c.in-Ok-None.ensures ∙ c.in-Ok-None.field-0-is)

pub returns-in-Ok-Some-clause-exact : goal.returns-in-Ok-Some-clause-exact
returns-in-Ok-Some-clause-exact g c =
    inr
    (ap (option_map (λ hash. NewClash hash))
    (clash_of-found g.H.Hash32.digest_of c.args.faces.now c.args.infos.now c.in-Ok-Some.field-0 c.requires.shown c.in-Ok-Some.ensures ∙ c.in-Ok-Some.field-0-is))
