-- One visit more, and what it shows up to its depth.
use Rattle.std.proofs.Common.{◌≡◌, ◌<◌, length, All, sym, ap, subst, ◌∙◌, arith}
use Rattle.cd_cell.specs.Equality.{same_info}
use Rattle.cd_cell.specs.Tree.{info_of}
use Rattle.cd_cell.specs.Bags.{bag_tree}
use Rattle.cd_cell.proofs.BagLaws.{well_formed-bag}
use Rattle.cd_update.specs.EachOnce.{with_new}
use Rattle.cd_update.specs.Visits.{visit_at, no_visit}
use Rattle.cd_update.specs.Pairing.{upto, known_at, IsOldInfo}
use Rattle.cd_update.proofs.EachOnceLaws.{All-with_new}
use Rattle.cd_update.proofs.PlaceLaws.{each_once-more}
use Rattle.cd_update.proofs.OldInfos.{IsOldInfo-of}
use Rattle.cd_update.proofs.pairing.infos_of.Goals as goal

pub loop-visit-preserved : goal.loop-visit-preserved
loop-visit-preserved g c =
    let H = g.H.Hash32.digest_of in
    let bag = c.args.bag.now in
    let visits = c.args.visits.now in
    let i = c.loop-visit.visit-index in
    let v = visit_at visits i in
    let t = bag_tree bag v.node.entry in
    let in' : i < length visits = omega arith in
    let shown = c.requires i no_visit in' in
    let info : c.info_upto.result ≡ upto v.node.depth (info_of H t) = c.info_upto.ensures ∙ ap (upto v.node.depth) c.shown_info.ensures.info in
    let grown = c.in_ok-add.ensures.all ∙ ap (with_new same_info c.loop-visit.infos.all.items) info in
    record {
      all = grown ∙ ap (λ ks. with_new same_info ks (upto v.node.depth (info_of H t))) c.loop-visit.invariant.all ∙ sym (each_once-more bag visits i in' same_info (known_at H));
      old =
          subst (All IsOldInfo) (sym grown)
          (All-with_new IsOldInfo same_info c.loop-visit.infos.all.items (upto v.node.depth (info_of H t)) c.loop-visit.invariant.old
          (IsOldInfo-of H t v.node.depth shown.depth (well_formed-bag H bag.cells bag.refs bag.roots c.shown_info.ensures.kept v.node.entry shown.entry)));
    }
