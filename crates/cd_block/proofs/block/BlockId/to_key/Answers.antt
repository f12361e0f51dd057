use Rattle.std.proofs.Common.{refl, rules, ap, ◌∙◌, w32, FitsSigned}
use Rattle.std.specs.Prelude.{replicate}
use Rattle.std.specs.Int.{to_be_bytes, cast_unsigned}
use Rattle.std.proofs.lemmas.Int.{to_z-of_z}
use Rattle.cd_block.proofs.Keys.{key_of-written}
use Rattle.cd_block.proofs.block.BlockId.to_key.Goals as goal

pub returns : goal.returns
returns c =
    let workchain = c.args.self.now.shard_id.workchain in
    let fits : FitsSigned w32 workchain = search rules in
    key_of-written c.args.self.now (replicate 76 0) c.copy_from_slice.new.self c.copy_from_slice-2.new.self c.copy_from_slice-3.new.self
    c.copy_from_slice-4.new.self c.copy_from_slice-5.new.self refl (search rules) (search rules) (search rules) (search rules) (search rules)
    (c.copy_from_slice.ensures.after ∙ c.to_be_bytes.ensures ∙ ap (λ z. to_be_bytes w32 (cast_unsigned w32 z)) (to_z-of_z w32 workchain fits))
    (c.copy_from_slice-2.ensures.after ∙ c.to_be_bytes-2.ensures)
    (c.copy_from_slice-3.ensures.after ∙ c.to_be_bytes-3.ensures) c.copy_from_slice-4.ensures.after c.copy_from_slice-5.ensures.after
