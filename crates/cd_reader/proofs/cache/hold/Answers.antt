use Rattle.std.proofs.Common.{ap, ◌∙◌}
use Rattle.lru.specs.LruCache.{LruCache}
use Rattle.cd_base.specs.declared.hash.Hash256.{Hash256}
use Rattle.cd_cell.specs.FaceView.{FaceView}
use Rattle.cd_reader.proofs.HeldLaws.{put_new}
use Rattle.cd_reader.proofs.cache.hold.Goals as goal

pub returns-in-Ok-clause-held : goal.returns-in-Ok-clause-held
returns-in-Ok-clause-held c =
    ap (λ (l : LruCache Hash256 FaceView). l.entries) c.in-Ok.ensures.entries ∙ put_new c.args.held.now c.args.hash.now c.args.face.now c.len.ensures.valid.2 c.requires
