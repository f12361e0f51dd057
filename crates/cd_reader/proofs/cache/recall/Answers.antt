use Rattle.std.proofs.Common.{◌≡◌, ◌≤◌, length, Some, sym, ap, ◌∙◌}
use Rattle.lru.specs.LruCache.{LruCache}
use Rattle.cd_base.specs.declared.hash.Hash256.{Hash256}
use Rattle.cd_cell.specs.FaceView.{FaceView}
use Rattle.cd_reader.specs.Held.{held_at}
use Rattle.cd_reader.proofs.HeldLaws.{put_first}
use Rattle.cd_reader.proofs.cache.recall.Goals as goal

pub returns-clause-held : goal.returns-clause-held
returns-clause-held c =
    let found : held_at c.args.held.now.entries c.args.hash.now ≡ Some c.in_ok-face.face = sym c.peek.ensures ∙ (sym c.copied.ensures ∙ c.in_ok-face.was) in
    ap (λ (l : LruCache Hash256 FaceView). l.entries) c.promote.ensures.entries
    ∙ put_first c.args.hash.now c.in_ok-face.face c.args.held.now.cap c.args.held.now.entries c.len.ensures.valid.1 found
