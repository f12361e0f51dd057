use Rattle.std.proofs.Common.{◌≡◌, ℕ, ◌≤◌, ◌+◌, ◌-◌, [], ◌++◌, length, take, drop, List, Option, Bool, true, not, is_ok, if◌then◌else◌, refl, ap, subst, sym, ◌∙◌, arith, length-append, length-drop}
use Rattle.std.proofs.lemmas.List.{length-take, length-take-le, take_all}
use Rattle.std.proofs.lemmas.Option.{none-some}
use Rattle.cd_cell.specs.FaceView.{FaceView}
use Rattle.cd_event.specs.Pins.{is_live}
use Rattle.cd_event.specs.Turning.{AreHeldFaces}
use Rattle.cd_run.specs.Merging.{OnlyLooks}
use Rattle.cd_run.proofs.StageLaws.{stage_none}
use Rattle.cd_run.proofs.TurnLaws.{live_on, stage_then}
use Rattle.cd_run.proofs.FaceLaws.{take-upto}
use Rattle.cd_run.proofs.GatherLaws.{looks_both, looks_more, keeps_only, held_more}
use Rattle.cd_run.proofs.gather.gather.Goals as goal

pub loop-at-init : goal.loop-at-init
loop-at-init g c = record {
  within = omega arith;
  count = ap length c.in-Ok.ensures.items;
  looked = stage_none g.T.Turns.worker g.T.Turns.faults g.T.Turns.made g.T.Turns.goes g.T.Turns.named g.met.T.Turns.stays _ c.args.turns.now ([], refl);
  found = λ n t holds k s in' at. absurd (none-some _ at);
}

pub look_some-requires-clause-live : goal.look_some-requires-clause-live
look_some-requires-clause-live g c =
    let looked = c.loop-at.invariant.looked in
    subst (λ l. is_live c.args.pin l ≡ true) (sym looked.added) (live_on c.args.pin (g.T.Turns.made c.args.turns.now) looked.entries (keeps_only c.args.who c.args.pin c.args.pin looked.entries looked.are) c.requires.live)

pub returns-in-Err-clause-looks : goal.returns-in-Err-clause-looks
returns-in-Err-clause-looks g c =
    stage_then g.T.Turns.worker g.T.Turns.faults g.T.Turns.made g.T.Turns.goes g.T.Turns.named g.met.T.Turns.further [] [] (OnlyLooks c.args.who c.args.pin) _ _ c.args.turns.now c.loop-at.turns c.look_some.new.turns
    c.loop-at.invariant.looked c.in-Err.ensures.looks (looks_more c.args.who c.args.pin c.in-Err.stop)

pub returns-then-is_err-clause-looks : goal.returns-then-is_err-clause-looks
returns-then-is_err-clause-looks g c =
    stage_then g.T.Turns.worker g.T.Turns.faults g.T.Turns.made g.T.Turns.goes g.T.Turns.named g.met.T.Turns.further [] [] (OnlyLooks c.args.who c.args.pin) (OnlyLooks c.args.who c.args.pin) _ c.args.turns.now c.loop-at.turns c.look_some.new.turns
    c.loop-at.invariant.looked c.in-Ok-look_some.ensures.looks (looks_both c.args.who c.args.pin)

pub loop-at-preserved : goal.loop-at-preserved
loop-at-preserved g c =
    let inv = c.loop-at.invariant in
    let hashes = c.args.hashes.now in
    let D = g.T.Hash.Hash32.digest_of in
    let made = g.T.Turns.made c.args.turns.now in
    let named = g.T.Turns.named c.args.turns.now in
    let first = take c.loop-at.at hashes in
    let part = take (c.min-end.result - c.loop-at.at) (drop c.loop-at.at hashes) in
    let ok : is_ok c.append.result ≡ true = c.is_err.ensures.negation ∙ ap not c.if-is_err.false in
    let items : c.append.new.self.items ≡ c.loop-at.faces.items ++ c.in-Ok-look_some.found.items =
    ◌∙◌ {A = List (Option FaceView)} c.append.ensures.items (ap (λ (b : Bool). if b then (c.loop-at.faces.items ++ c.in-Ok-look_some.found.items) else c.loop-at.faces.items) ok) in
    let after : c.loop-at.at ≤ c.min-end.result = omega (arith, c.min-end.ensures, c.saturating_add.ensures, c.loop-at-test.true) in
    let within : c.min-end.result ≤ length hashes = omega (arith, c.min-end.ensures, c.saturating_add.ensures) in
    let fit : length c.loop-at.faces.items ≡ length first = ◌∙◌ {A = ℕ} inv.count (sym (length-take-le c.loop-at.at hashes inv.within)) in
    let found = held_more D g.T.Turns.worker g.T.Turns.faults g.T.Turns.made g.T.Turns.goes g.T.Turns.named c.args.who c.args.pin c.args.turns.now c.loop-at.turns first part c.loop-at.faces.items c.in-Ok-look_some.found.items
    fit inv.looked inv.found c.in-Ok-look_some.ensures.faces in
    let both : length (c.loop-at.faces.items ++ c.in-Ok-look_some.found.items) ≡ length c.loop-at.faces.items + length c.in-Ok-look_some.found.items = length-append c.loop-at.faces.items c.in-Ok-look_some.found.items in
    let some : length c.in-Ok-look_some.found.items ≡ length part = c.in-Ok-look_some.ensures.found in
    let taken = length-take (c.min-end.result - c.loop-at.at) (drop c.loop-at.at hashes) in
    let left = length-drop c.loop-at.at hashes in
    let now : length c.append.new.self.items ≡ length (c.loop-at.faces.items ++ c.in-Ok-look_some.found.items) = ap length items in
    record {
      within = within;
      count = omega (arith, inv.count);
      looked = stage_then g.T.Turns.worker g.T.Turns.faults g.T.Turns.made g.T.Turns.goes g.T.Turns.named g.met.T.Turns.further [] [] (OnlyLooks c.args.who c.args.pin) (OnlyLooks c.args.who c.args.pin) _ c.args.turns.now c.loop-at.turns c.look_some.new.turns
          inv.looked c.in-Ok-look_some.ensures.looks (looks_both c.args.who c.args.pin);
      found = subst (λ hs. AreHeldFaces D made named hs c.append.new.self.items) (sym (take-upto c.loop-at.at c.min-end.result hashes after))
          (subst (λ fs. AreHeldFaces D made named (first ++ part) fs) (sym items) found);
    }

pub returns-clause-faces : goal.returns-clause-faces
returns-clause-faces g c =
    subst (λ hs. AreHeldFaces g.T.Hash.Hash32.digest_of (g.T.Turns.made c.args.turns.now) (g.T.Turns.named c.args.turns.now) hs c.loop-at.faces.items)
    (take_all c.loop-at.at c.args.hashes.now (omega (arith, c.loop-at-test.false))) c.loop-at.invariant.found
