use Rattle.std.proofs.Common.{sym}
use Rattle.std.proofs.lemmas.Bool.{true≢false}
use Rattle.cd_cell.specs.StoredText.{stored_hashes, stored_depths}
use Rattle.cd_boc_read.proofs.StoredTexts.{no_second_part}
use Rattle.cd_boc_read.proofs.cells.are_shown.Goals as goal

pub returns-in_default-behind_depths : goal.returns-in_default-behind_depths
returns-in_default-behind_depths c =
    let k = c.args.info.now in
    (λ h. absurd (true≢false (sym h)), λ whole. absurd (no_second_part c.args.stored.now (stored_hashes k) (stored_depths k) c.in-Some.rest.now c.in-Some.ensures c.in_default-behind_depths.ensures whole))
