-- The index has the place of the one cell of a hash.
use Rattle.std.proofs.Common.{length, get_or, Some, map, ap, sym, ◌∙◌, arith}
use Rattle.std.proofs.lemmas.List.{get_or_default}
use Rattle.cd_cell.specs.declared.new_cell.NewCell.{NewCell}
use Rattle.cd_cell.specs.Listings.{no_cell}
use Rattle.inspect_updates.proofs.OldStateLaws.{found-place, face_in-place, face_in-None}
use Rattle.inspect_updates.proofs.old_state.OldState.face.Goals as goal

pub bounds-cells-place : goal.bounds-cells-place
bounds-cells-place g c =
    let self = c.args.self.now in
    let at = found-place self.whole.cells c.args.hash.now c.in-Some.place (c.in-Some.ensures (map (λ (c : NewCell). c.hash) self.whole.cells) self.indexed) in
    omega (arith, at.0, ap length c.cells.ensures.value)

pub returns-in-Some : goal.returns-in-Some
returns-in-Some g c =
    let self = c.args.self.now in
    let cells = self.whole.cells in
    let place = c.in-Some.place in
    let read = c.index-cells-place.result in
    let at = found-place cells c.args.hash.now place (c.in-Some.ensures (map (λ (c : NewCell). c.hash) cells) self.indexed) in
    face_in-place g.H.Hash32.digest_of self.whole.root cells c.cells.ensures.kept place c.args.hash.now at.0 at.1
    ∙ ap (λ (d : NewCell). Some d.face) (get_or_default cells place no_cell read at.0 ∙ ap (λ cs. get_or cs place read) (sym c.cells.ensures.value))

pub returns-in-None : goal.returns-in-None
returns-in-None g c =
    let self = c.args.self.now in
    face_in-None self.whole.cells c.args.hash.now (c.in-None.ensures (map (λ (c : NewCell). c.hash) self.whole.cells) self.indexed)
