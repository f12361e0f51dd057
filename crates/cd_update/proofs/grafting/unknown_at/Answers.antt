-- A hidden cell is known exactly where what it shows up to its depth is.
use Rattle.std.proofs.Common.{ap, ap₂, sym, ◌∙◌, Some}
use Rattle.std.specs.List.{list_any}
use Rattle.cd_cell.specs.Equality.{same_info}
use Rattle.cd_cell.specs.Infos.{info_hash}
use Rattle.cd_cell.specs.Bags.{bag_tree}
use Rattle.cd_cell.specs.Updates.{is_hidden}
use Rattle.cd_update.specs.Visits.{place_of}
use Rattle.cd_update.specs.Pairing.{upto}
use Rattle.cd_update.proofs.GraftVisits.{foreign-known, foreign-unknown}
use Rattle.cd_update.proofs.grafting.unknown_at.Goals as goal

pub returns-then-has : goal.returns-then-has
returns-then-has g c =
    let H = g.H.Hash32.digest_of in
    let bag = c.args.bag.now in
    let known = c.args.known.now in
    let n = c.args.visit.now.node in
    let t = bag_tree bag n.entry in
    let hidden = ap (is_hidden n.depth) c.face.ensures.cell ∙ sym c.is_hidden.ensures ∙ c.if-not-is_hidden.false in
    let shown = c.info_upto.ensures ∙ ap (upto n.depth) c.shown_info-info.ensures.info in
    sym
    (foreign-known H known.infos known.old (place_of bag n) c.requires.depth hidden
    (ap₂ (λ k ks. list_any (same_info k) ks) (sym shown) (sym c.as_slice.ensures) ∙ sym c.has.ensures ∙ c.if-has.true))

pub returns : goal.returns
returns g c =
    let H = g.H.Hash32.digest_of in
    let bag = c.args.bag.now in
    let known = c.args.known.now in
    let n = c.args.visit.now.node in
    let t = bag_tree bag n.entry in
    let hidden = ap (is_hidden n.depth) c.face.ensures.cell ∙ sym c.is_hidden.ensures ∙ c.if-not-is_hidden.false in
    let shown = c.info_upto.ensures ∙ ap (upto n.depth) c.shown_info-info.ensures.info in
    ap Some (c.hash_at.ensures ∙ ap (λ k. info_hash k n.depth) c.shown_info-info.ensures.info)
    ∙ sym
    (foreign-unknown H known.infos known.old (place_of bag n) c.requires.depth hidden
    (ap₂ (λ k ks. list_any (same_info k) ks) (sym shown) (sym c.as_slice.ensures) ∙ sym c.has.ensures ∙ c.if-has.false))
