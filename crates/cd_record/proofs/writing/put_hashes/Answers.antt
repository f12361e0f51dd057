-- The pieces of the four levels are those of the significant ones.
use Rattle.cd_cell.specs.Masks.{is_significant}
use Rattle.cd_cell.specs.StoredText.{hash_text, stored_hashes}
use Rattle.cd_record.proofs.KidTexts.{four_levels}
use Rattle.cd_record.proofs.writing.put_hashes.Goals as goal

pub returns : goal.returns
unfolding stored_hashes
returns c =
    let kid = c.args.kid.now in
    four_levels (is_significant kid.mask) (hash_text kid) _ _ _ _ _ c.in_ok-put_hash.ensures c.in_ok-put_hash-2.ensures c.in_ok-put_hash-3.ensures c.in_ok-put_hash-4.ensures
