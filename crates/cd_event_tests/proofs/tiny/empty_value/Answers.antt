use Rattle.std.proofs.Common.{◌≡◌, [], ◌∷◌, ◌++◌, List, sym, subst, ◌∙◌}
use Rattle.cd_cell.specs.declared.info.ChildInfo.{ChildInfo}
use Rattle.cd_cell.specs.declared.new_cell.NewCell.{NewCell}
use Rattle.cd_cell.specs.Listings.{IsValid, Fits}
use Rattle.cd_event_tests.proofs.States.{empty_is_valid, empty_fits_whole, cells_are}
use Rattle.cd_event_tests.proofs.tiny.empty_value.Goals as goal

pub new-requires : goal.new-requires
new-requires g c =
    let H = g.H.Hash32.digest_of in
    let pushed : c.push.new.self.items ≡ [] ++ (record { hash = c.rep.result; face = c.empty_face.result }) ∷ [] =
    rw c.new-cells.ensures.items at (rw c.if-is_err.ensures.negation at c.push.ensures.items) in
    let cells = cells_are H c.empty_info-root.result c.rep.result c.empty_face.result c.push.new.self.items c.empty_info-root.ensures c.rep.ensures c.empty_face.ensures pushed in
    subst (λ (root : ChildInfo). IsValid H root c.push.new.self.items) (sym c.empty_info-root.ensures) (subst (λ (cells : List NewCell). IsValid H _ cells) (sym cells) (empty_is_valid H))

pub returns-clause-fits : goal.returns-clause-fits
returns-clause-fits g c =
    let H = g.H.Hash32.digest_of in
    let pushed : c.push.new.self.items ≡ [] ++ (record { hash = c.rep.result; face = c.empty_face.result }) ∷ [] =
    rw c.new-cells.ensures.items at (rw c.if-is_err.ensures.negation at c.push.ensures.items) in
    let cells = c.new.ensures.cells ∙ cells_are H c.empty_info-root.result c.rep.result c.empty_face.result c.push.new.self.items c.empty_info-root.ensures c.rep.ensures c.empty_face.ensures pushed in
    let root = c.new.ensures.root ∙ c.empty_info-root.ensures in
    subst (λ (root : ChildInfo). Fits H root c.new.result.cells []) (sym root) (subst (λ (cells : List NewCell). Fits H _ cells []) (sym cells) (empty_fits_whole H))
