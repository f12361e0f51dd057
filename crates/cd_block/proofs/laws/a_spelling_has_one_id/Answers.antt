use Rattle.cd_block.proofs.Spelt.{id_text_injective}
use Rattle.cd_block.proofs.laws.a_spelling_has_one_id.Goals as goal

pub returns : goal.returns
returns c = id_text_injective
