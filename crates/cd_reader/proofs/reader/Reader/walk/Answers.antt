use Rattle.std.proofs.Common.{◌≡◌, ◌+◌, ◌≤◌, ◌<◌, ◌++◌, ◌∷◌, [], ℕ, List, length, get_or, Bool, Some, None, Option, Err, take, refl, sym, ap, ◌∙◌, subst, arith}
use Rattle.std.specs.Prelude.{slice_get}
use Rattle.std.proofs.lemmas.List.{take_more, take_all}
use Rattle.cd_cell.specs.FaceView.{FaceView}
use Rattle.cd_cell.specs.Tree.{Tree}
use Rattle.cd_event.specs.Turning.{HandsOn, RisesOnly}
use Rattle.cd_reader.specs.declared.walk_fault.WalkFault.{WalkFault}
use Rattle.cd_looks.specs.Answers.{IsFaceAt}
use Rattle.cd_reader.specs.Faults.{walk_fault}
use Rattle.cd_reader.specs.Paths.{WalksTo, is_walk_failed}
use Rattle.cd_looks.proofs.GoingLaws.{asked_more, went_on, rises_from, steady_rises}
use Rattle.cd_reader.proofs.WalkFaults.{walk_failed}
use Rattle.cd_reader.proofs.PathLaws.{IsAlong, along_root, along_step, along_end, along_missing, fault_walks}
use Rattle.cd_reader.proofs.reader.Reader.walk.Goals as goal

pub loop-at-init : goal.loop-at-init
loop-at-init g c =
    let visited = c.in-Ok.ensures in
    record {
      along = along_root g.L.Hash.Hash32.digest_of _ c.in-Ok.face visited.face;
      good = visited.good;
      ready = visited.ready;
      tree = visited.tree;
      root = visited.root;
      room = visited.room;
      asked = visited.asked;
      went = visited.hands_on;
      faults = visited.faults.steady refl;
    }

pub loop-at-preserved : goal.loop-at-preserved
loop-at-preserved g c =
    let kept = c.loop-at.invariant in
    let visited = c.in-Ok-visit.ensures in
    let at = c.loop-at.at in
    let path = c.args.path.now in
    let low : at < length path = omega arith in
    let next = take_more path at 0 low in
    record {
      along = subst (λ (p : List ℕ). IsAlong g.L.Hash.Hash32.digest_of (g.L.LookUp.tree c.args.self.now.look) p c.in-Ok-visit.face) (sym next)
          (along_step g.L.Hash.Hash32.digest_of _ (take at path) (get_or path at 0) c.loop-at.face c.in-Ok-visit.face c.in-Some.kid.now kept.along (sym c.in-Some.ensures.value)
          (λ t s told inside same. visited.face t s (kept.tree ∙ told) inside (same ∙ sym c.rep-hash.ensures)));
      good = visited.good;
      ready = visited.ready;
      tree = visited.tree ∙ kept.tree;
      root = visited.root ∙ kept.root;
      room = visited.room ∙ kept.room;
      asked = asked_more (c.loop-at.at + 1) 1 _ _ _ _ (omega arith) kept.asked visited.asked;
      went = g.met.L.LookUp.further _ _ _ kept.went visited.hands_on;
      faults = visited.faults.steady refl ∙ kept.faults;
    }

pub returns-in-None-clause-walks : goal.returns-in-None-clause-walks
returns-in-None-clause-walks g c =
    let at = c.loop-at.at in
    let path = c.args.path.now in
    let low : at < length path = omega arith in
    along_missing g.L.Hash.Hash32.digest_of (g.L.LookUp.tree c.args.self.now.look) path at (get_or path at 0) c.loop-at.face c.loop-at.invariant.along low (take_more path at 0 low) (sym c.in-None.ensures.value)

-- by the fault of the look
pub returns-in-Err-visit-clause-hands_on : goal.returns-in-Err-visit-clause-hands_on
returns-in-Err-visit-clause-hands_on g c =
    let goes = g.L.LookUp.goes in
    let fails = g.L.LookUp.fails in
    let failed = walk_failed FaceView FaceView c.in-Err-visit.fault ∙ ap (λ (f : WalkFault). is_walk_failed {A = FaceView} (Err f)) (sym c.walk_fault-in-Err-visit.ensures) in
    subst (λ (failed : Bool). HandsOn goes fails failed c.args.self.now.look c.visit.new.self.look) failed
    (went_on goes fails g.met.L.LookUp.further g.met.L.LookUp.fails_later _ c.args.self.now.look c.loop-at.self.look c.visit.new.self.look c.loop-at.invariant.went c.in-Err-visit.ensures.hands_on)

pub returns-in-Err-visit-clause-faults : goal.returns-in-Err-visit-clause-faults
returns-in-Err-visit-clause-faults g c =
    let failed = walk_failed FaceView FaceView c.in-Err-visit.fault ∙ ap (λ (f : WalkFault). is_walk_failed {A = FaceView} (Err f)) (sym c.walk_fault-in-Err-visit.ensures) in
    subst (λ (failed : Bool). RisesOnly failed (g.L.LookUp.faults c.args.self.now.look) (g.L.LookUp.faults c.visit.new.self.look)) failed
    (rises_from _ _ _ _ c.loop-at.invariant.faults c.in-Err-visit.ensures.faults)

-- at the path's end
pub returns-clause-walks : goal.returns-clause-walks
returns-clause-walks g c =
    let path = c.args.path.now in
    let whole : take c.loop-at.at path ≡ path = take_all c.loop-at.at path (omega arith) in
    along_end g.L.Hash.Hash32.digest_of (g.L.LookUp.tree c.args.self.now.look) path c.loop-at.face
    (subst (λ (p : List ℕ). IsAlong g.L.Hash.Hash32.digest_of (g.L.LookUp.tree c.args.self.now.look) p c.loop-at.face) whole c.loop-at.invariant.along)
