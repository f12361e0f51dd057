use Rattle.std.proofs.Common.{ap, ◌∙◌, rules}
use Rattle.cd_block.specs.Block.{key_of, id_of}
use Rattle.cd_block.proofs.Keys.{key_of-id_of, IsBlockId-id_of}
use Rattle.cd_block.proofs.block.BlockId.from_key.Goals as goal

pub returns-clause-value : goal.returns-clause-value
unfolding id_of
returns-clause-value c = search rules

pub returns-clause-key : goal.returns-clause-key
returns-clause-key c = ap key_of (returns-clause-value c) ∙ key_of-id_of c.args.key.now c.told-key c.fits-key

pub returns-clause-known : goal.returns-clause-known
returns-clause-known c = rw (returns-clause-value c) (IsBlockId-id_of c.args.key.now c.told-key c.fits-key)
