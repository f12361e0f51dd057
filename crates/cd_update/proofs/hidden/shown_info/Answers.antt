-- A kid of a face is what the entry of its number shows.
use Rattle.std.proofs.Common.{◌∙◌, sym, ap, get_or}
use Rattle.std.proofs.lemmas.List.{get_or_default}
use Rattle.cd_cell.specs.CellFaults.{no_info}
use Rattle.cd_cell.proofs.BagLaws.{info_of-bag}
use Rattle.cd_update.proofs.hidden.shown_info.Goals as goal

pub returns-clause-info : goal.returns-clause-info
returns-clause-info g c =
    let bag = c.args.bag.now in
    let place = c.args.visit.now.place in
    c.index-kids-visit.is
    ∙ ap (λ ks. get_or ks place c.index-kids-visit.result) (c.kids.ensures.value ∙ ap (λ f. f.kids) c.face.ensures.face)
    ∙ get_or_default _ place c.index-kids-visit.result no_info c.requires.place
    ∙ c.requires.shown
    ∙ sym (info_of-bag g.H.Hash32.digest_of bag.cells bag.refs bag.roots c.face.ensures.kept c.args.visit.now.node.entry)
