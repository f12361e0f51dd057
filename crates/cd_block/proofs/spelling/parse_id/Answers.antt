use Rattle.std.proofs.Common.{◌∙◌, ap}
use Rattle.cd_block.specs.Parsing.{id_in}
use Rattle.cd_block.proofs.Spelt.{id_in-id_text, is_spelt}
use Rattle.cd_block.proofs.spelling.parse_id.Goals as goal

pub returns-clause-found : goal.returns-clause-found
returns-clause-found c = is_spelt c.args.text.now c.id_in.result c.id_in.ensures

pub returns-clause-only : goal.returns-clause-only
returns-clause-only c = λ id known spelt. c.id_in.ensures ∙ ap id_in spelt ∙ id_in-id_text id known
