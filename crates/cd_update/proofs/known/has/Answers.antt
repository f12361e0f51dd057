-- Equal infos have equal hashes at level 3.
use Rattle.std.proofs.Common.{◌≡◌, ◌<◌, false, sym, subst, ◌∙◌, map, length, arith}
use Rattle.std.specs.List.{list_any}
use Rattle.std.proofs.lemmas.List.{length-map}
use Rattle.cd_cell.specs.Infos.{rep_of_info}
use Rattle.cd_cell.specs.Equality.{same_hash}
use Rattle.cd_update.proofs.IndexLaws.{no_rep, some_place, same_info-derived}
use Rattle.cd_update.proofs.known.has.Goals as goal

pub returns-in-None : goal.returns-in-None
returns-in-None c = sym (no_rep c.args.infos.now c.args.info.now (subst (λ h. list_any (same_hash h) (map rep_of_info c.args.infos.now) ≡ false) c.rep.ensures (c.in-None.ensures (map rep_of_info c.args.infos.now) c.requires)))

pub returns-in-Some : goal.returns-in-Some
returns-in-Some c =
    let infos = c.args.infos.now in
    let at = c.in-Some.ensures (map rep_of_info infos) c.requires in
    let in' : c.in-Some.place < length infos = omega (arith, at.0, length-map infos rep_of_info) in
    sym (some_place infos c.args.info.now c.in-Some.place c.index-infos-place.result in' c.index-infos-place.is (same_info-derived c.index-infos-place.result c.args.info.now (sym c.eq.ensures ∙ c.if-eq.true)))
