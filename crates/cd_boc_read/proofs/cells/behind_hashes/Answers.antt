use Rattle.std.proofs.Common.{ap}
use Rattle.cd_base.specs.declared.hash.Hash256.{Hash256}
use Rattle.cd_cell.specs.StoredText.{hash_text, stored_hashes}
use Rattle.cd_boc_read.proofs.StoredTexts.{stored_hashes-pieces, piece_is, behind_pieces}
use Rattle.cd_boc_read.proofs.cells.behind_hashes.Goals as goal

pub returns : goal.returns
returns c =
    let k = c.args.info.now in
    let p0 = piece_is k 0 (hash_text k) (c.hash_at-zero.result.0) c.if_significant.result.now c.if_significant.ensures (ap (λ (h : Hash256). h.0) c.hash_at-zero.ensures) in
    let p1 = piece_is k 1 (hash_text k) (c.hash_at-one.result.0) c.if_significant-2.result.now c.if_significant-2.ensures (ap (λ (h : Hash256). h.0) c.hash_at-one.ensures) in
    let p2 = piece_is k 2 (hash_text k) (c.hash_at-two.result.0) c.if_significant-3.result.now c.if_significant-3.ensures (ap (λ (h : Hash256). h.0) c.hash_at-two.ensures) in
    let p3 = piece_is k 3 (hash_text k) (c.hash_at-three.result.0) c.if_significant-4.result.now c.if_significant-4.ensures (ap (λ (h : Hash256). h.0) c.hash_at-three.ensures) in
    behind_pieces k (hash_text k) (stored_hashes k) c.args.bytes.now c.behind.result
    c.if_significant.result.now c.if_significant-2.result.now c.if_significant-3.result.now c.if_significant-4.result.now p0 p1 p2 p3
    (stored_hashes-pieces k) c.behind.ensures
