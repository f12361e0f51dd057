use Rattle.std.proofs.Common.{ap, ◌∙◌}
use Rattle.std.specs.Int.{w16, to_be_bytes}
use Rattle.cd_cell.specs.StoredText.{depth_text, stored_depths}
use Rattle.cd_boc_read.proofs.StoredTexts.{stored_depths-pieces, piece_is, behind_pieces}
use Rattle.cd_boc_read.proofs.cells.behind_depths.Goals as goal

pub returns : goal.returns
returns c =
    let k = c.args.info.now in
    let p0 = piece_is k 0 (depth_text k) (c.to_be_bytes-zero.result) c.if_significant.result.now c.if_significant.ensures (c.to_be_bytes-zero.ensures ∙ ap (to_be_bytes w16) c.depth_at.ensures) in
    let p1 = piece_is k 1 (depth_text k) (c.to_be_bytes-one.result) c.if_significant-2.result.now c.if_significant-2.ensures (c.to_be_bytes-one.ensures ∙ ap (to_be_bytes w16) c.depth_at-2.ensures) in
    let p2 = piece_is k 2 (depth_text k) (c.to_be_bytes-two.result) c.if_significant-3.result.now c.if_significant-3.ensures (c.to_be_bytes-two.ensures ∙ ap (to_be_bytes w16) c.depth_at-3.ensures) in
    let p3 = piece_is k 3 (depth_text k) (c.to_be_bytes-three.result) c.if_significant-4.result.now c.if_significant-4.ensures (c.to_be_bytes-three.ensures ∙ ap (to_be_bytes w16) c.depth_at-4.ensures) in
    behind_pieces k (depth_text k) (stored_depths k) c.args.bytes.now c.behind.result
    c.if_significant.result.now c.if_significant-2.result.now c.if_significant-3.result.now c.if_significant-4.result.now p0 p1 p2 p3
    (stored_depths-pieces k) c.behind.ensures
