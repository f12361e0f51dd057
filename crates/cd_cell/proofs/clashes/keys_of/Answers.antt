use Rattle.std.proofs.Common.{◌∷◌, ◌++◌, [], take, ap, sym, ◌∙◌}
use Rattle.cd_cell.specs.Infos.{rep_of_info}
use Rattle.cd_cell.specs.ClashSearch.{numbered_from}
use Rattle.cd_base.specs.declared.hash.Hash256.{Hash256}
use Rattle.cd_cell.proofs.NumberedHashes.{numbered_from-more}
use Rattle.cd_cell.proofs.clashes.keys_of.Goals as goal

pub loop-number-preserved : goal.loop-number-preserved
loop-number-preserved c =
    let more = numbered_from-more rep_of_info c.args.infos.now c.loop-number.number c.index-infos-number.result c.loop-number-test.true c.index-infos-number.is in
    c.in_ok-push.ensures.items
    ∙ ap (λ ks. ks ++ (c.rep.result, c.loop-number.number) ∷ []) c.loop-number.invariant
    ∙ ap (λ (h : Hash256). numbered_from rep_of_info 0 (take c.loop-number.number c.args.infos.now) ++ (h, c.loop-number.number) ∷ []) c.rep.ensures
    ∙ sym more
