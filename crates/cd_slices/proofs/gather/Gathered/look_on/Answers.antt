use Rattle.std.proofs.Common.{◌≡◌, ◌-◌, Bool, length, sym, subst, arith}
use Rattle.std.specs.Prelude.{Result, Ok, Err, OnOk}
use Rattle.cd_event.specs.Turning.{HandsOn, RisesOnly}
use Rattle.cd_slices.specs.Gathering.{given_faces}
use Rattle.cd_slices.proofs.GatherLaws.{not_failed, are_given, ranks-on, told-on}
use Rattle.cd_slices.proofs.gather.Gathered.look_on.Goals as goal

-- what follows where both hold at an Ok
at_ok : {T E P Q R : Type 0} (result : Result T E) → (P → Q → R) → OnOk result P → OnOk result Q → OnOk result R
at_ok (Ok done) both p q = both p q
at_ok (Err fault) both p q = tt

pub returns-clause-cells : goal.returns-clause-cells
returns-clause-cells g c = λ told_cells.
    let H = g.L.Hash.Hash32.digest_of in
    let told = g.L.LookUp.tree c.args.look.now in
    let old = c.args.self.now in
    let at : c.len-at.result ≡ length old.faces.items = omega arith in
    let next =
    are_given H told old c.deref.result.now c.len-at.result (c.min-until.result - c.len-at.result) c.in_ok-found.found.items c.deref-2.result.now c.requires.whole
    c.deref.ensures.value at c.in_ok-found.ensures.found c.deref-2.ensures.value c.in_ok-found.ensures.faces in
    at_ok c.take_all.result
    (λ grows faces. told-on H told old c.requires.whole told_cells (given_faces c.deref-2.result.now) next c.take_all.new.self grows faces c.take_all.ensures.places)
    c.take_all.ensures.grows c.take_all.ensures.faces

pub returns-clause-ranks : goal.returns-clause-ranks
returns-clause-ranks g c = λ told_cells.
    let H = g.L.Hash.Hash32.digest_of in
    let told = g.L.LookUp.tree c.args.look.now in
    let old = c.args.self.now in
    let at : c.len-at.result ≡ length old.faces.items = omega arith in
    let next =
    are_given H told old c.deref.result.now c.len-at.result (c.min-until.result - c.len-at.result) c.in_ok-found.found.items c.deref-2.result.now c.requires.whole
    c.deref.ensures.value at c.in_ok-found.ensures.found c.deref-2.ensures.value c.in_ok-found.ensures.faces in
    ranks-on H told old c.requires.whole told_cells (given_faces c.deref-2.result.now) next c.take_all.new.self.places c.take_all.ensures.places

pub returns-clause-hands_on : goal.returns-clause-hands_on
returns-clause-hands_on g c =
    subst (λ (failed : Bool). HandsOn g.L.LookUp.goes g.L.LookUp.fails failed c.args.look.now c.look.new.self) (sym (not_failed c.take_all.result c.take_all.new.self.places c.take_all.ensures.fault)) c.in_ok-found.ensures.hands_on

pub returns-clause-faults : goal.returns-clause-faults
returns-clause-faults g c =
    subst (λ (failed : Bool). RisesOnly failed (g.L.LookUp.faults c.args.look.now) (g.L.LookUp.faults c.look.new.self)) (sym (not_failed c.take_all.result c.take_all.new.self.places c.take_all.ensures.fault)) c.in_ok-found.ensures.faults
