use Rattle.std.proofs.Common.{◌≡◌, map, take}
use Rattle.cd_boc_read.specs.declared.cell_text.CellText.{CellText}
use Rattle.cd_boc_read.proofs.reading.refs_of.Given as goal

abbrev pub invariant-loop-text : goal.invariant-loop-text
invariant-loop-text l = l.refs.items ≡ map (λ (t : CellText). t.refs) (take l.text-index l.texts)
