use Rattle.std.proofs.Common.{◌<◌, ℕ, length, sym, subst}
use Rattle.cd_boc_write.proofs.KeyLaws.{place_among-below}
use Rattle.cd_slices.proofs.numbering.number_of.Goals as goal

pub returns-in-Some-clause-low : goal.returns-in-Some-clause-low
returns-in-Some-clause-low c = λ cells are some. subst (λ (n : ℕ). n < length cells) (sym (c.place_among.ensures cells are)) (place_among-below cells _ some)
