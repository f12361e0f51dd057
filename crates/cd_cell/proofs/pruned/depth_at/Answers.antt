use Rattle.std.proofs.Common.{◌∙◌, length, ap, arith}
use Rattle.cd_cell.specs.BitText.{data_of}
use Rattle.cd_cell.proofs.FitLemmas.{length-pruned_data}
use Rattle.cd_cell.proofs.pruned.depth_at.Goals as goal

pub depth_in-requires : goal.depth_in-requires
depth_in-requires c =
    omega (arith, length-pruned_data c.args.face.now c.args.mask c.requires.mask c.requires.kind c.requires.fit, ap length (c.data.ensures.value ∙ ap data_of c.bits.ensures))
