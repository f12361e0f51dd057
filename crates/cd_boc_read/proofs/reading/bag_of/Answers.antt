use Rattle.std.proofs.Common.{◌≡◌, ℕ, List, map, None, ap, ap₂, subst, ◌∙◌}
use Rattle.cd_cell.specs.FaceView.{FaceView}
use Rattle.cd_cell.specs.Bags.{root_trees}
use Rattle.cd_boc_read.specs.declared.cell_text.CellText.{CellText}
use Rattle.cd_boc_read.specs.Views.{text_views, bag_view}
use Rattle.cd_boc_read.specs.CellFaults.{faces_of_texts, fault_of_texts}
use Rattle.cd_boc_read.proofs.BagRead.{made, trees-read}
use Rattle.cd_boc_read.proofs.reading.bag_of.Goals as goal

pub new-requires : goal.new-requires
new-requires g c =
    let H = g.H.Hash32.digest_of in
    let seen = c.deref.ensures.value in
    let none = subst (λ (x : List CellText). fault_of_texts H (text_views x) ≡ None) seen c.in_ok-faces.ensures.exact in
    let filled = c.in_ok-faces.ensures.faces ∙ ap (λ (x : List CellText). faces_of_texts H (text_views x)) seen in
    let numbers = c.in_ok-refs.ensures ∙ ap (map (λ (t : CellText). t.refs)) c.deref-2.ensures.value in
    made H (bag_view c.args.bag).0 c.args.bag.texts.items c.requires none c.in_ok-faces.faces.items filled c.in_ok-refs.refs.items numbers

pub returns-clause-trees : goal.returns-clause-trees
returns-clause-trees g c =
    let H = g.H.Hash32.digest_of in
    let seen = c.deref.ensures.value in
    let none = subst (λ (x : List CellText). fault_of_texts H (text_views x) ≡ None) seen c.in_ok-faces.ensures.exact in
    let filled = c.in_ok-faces.ensures.faces ∙ ap (λ (x : List CellText). faces_of_texts H (text_views x)) seen in
    let numbers = c.in_ok-refs.ensures ∙ ap (map (λ (t : CellText). t.refs)) c.deref-2.ensures.value in
    ap₂ (λ (x : List FaceView) (y : List (List ℕ)). root_trees x y c.new.result.roots) c.new.ensures.cells c.new.ensures.refs
    ∙ ap (root_trees c.in_ok-faces.faces.items c.in_ok-refs.refs.items) c.new.ensures.roots
    ∙ trees-read H (bag_view c.args.bag).0 c.args.bag.texts.items c.requires none c.in_ok-faces.faces.items filled c.in_ok-refs.refs.items numbers
