-- Equal faces have equal hashes at level 3.
use Rattle.std.proofs.Common.{◌≡◌, false, sym, subst, map}
use Rattle.std.specs.List.{list_any}
use Rattle.cd_cell.specs.Infos.{rep_of_info}
use Rattle.cd_cell.specs.Equality.{same_hash}
use Rattle.cd_update.proofs.IndexLaws.{no_face_rep}
use Rattle.cd_update.proofs.own.Own.has.Goals as goal

pub returns-in-None : goal.returns-in-None
returns-in-None g c =
    let own = c.args.self.now in
    let keys = map rep_of_info own.infos.items in
    sym
    (no_face_rep g.H.Hash32.digest_of own.cells.items own.infos.items c.args.face.now c.args.info.now c.requires.info c.requires.infos
    (subst (λ h. list_any (same_hash h) keys ≡ false) c.rep.ensures (c.in-None.ensures keys own.indexed)))
