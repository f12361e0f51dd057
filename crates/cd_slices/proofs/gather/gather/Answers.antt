use Rattle.std.proofs.Common.{◌≡◌, ◌-◌, ℕ, length, ap, sym, subst, ◌∙◌, refl, arith}
use Rattle.std.specs.Prelude.{Bool, Option, Result, Err, IfSome}
use Rattle.std.proofs.lemmas.Option.{MatchOption-at_some}
use Rattle.std.proofs.lemmas.Result.{err_from_is_err_and}
use Rattle.cd_cell.specs.Tree.{Tree}
use Rattle.cd_event.specs.Pins.{IsState}
use Rattle.cd_event.specs.Turning.{HandsOn, RisesOnly, counted}
use Rattle.cd_looks.proofs.GoingLaws.{steady_rises}
use Rattle.cd_slices.specs.Faults.{is_plan_failed}
use Rattle.cd_slices.specs.declared.faults.PlanFault.{PlanFault}
use Rattle.cd_slices.specs.declared.faults.PlanFault.TheVariants as plan
use Rattle.cd_slices.specs.declared.gather.Gathered.{Gathered}
use Rattle.cd_slices.specs.Gathering.{AreTold}
use Rattle.cd_slices.specs.Ranks.{rank_of_info}
use Rattle.cd_slices.proofs.PlaceLaws.{known-place}
use Rattle.cd_slices.proofs.GatherLaws.{told-first, counted-more, not_failed, at_too_many, taking-gathers}
use Rattle.cd_slices.proofs.ListingLaws.{ranks-few}
use Rattle.cd_slices.proofs.gather.gather.Goals as goal

-- the fault that is handed on
err-is : {T E : Type 0} (given fault other : E) (result : Result T E) → result ≡ Err given → given ≡ fault → result ≡ Err other → fault ≡ other
err-is given fault other result is same there = cc

pub returns-in_err-know-clause-too_many : goal.returns-in_err-know-clause-too_many
returns-in_err-know-clause-too_many g c = λ limit is.
    let p = err_from_is_err_and c.from_residual.result c.from_residual.ensures.1 in
    let fault = c.in_err-know.field-0.0 in
    let same : fault ≡ plan.TooMany limit = err-is p.0 fault (plan.TooMany limit) c.from_residual.result p.1 p.2 is in
    let many = at_too_many fault c.know.new.self.places (taking-gathers fault c.know.new.self.places c.in_err-know.ensures.fault) limit same in
    let none = ap length c.new-all.ensures.none in
    absurd (omega (arith, many.1, c.know.ensures.one, c.new-all.ensures.whole.counted, none))

pub returns-in_err-know-clause-hands_on : goal.returns-in_err-know-clause-hands_on
returns-in_err-know-clause-hands_on g c =
    let p = err_from_is_err_and c.from_residual.result c.from_residual.ensures.1 in
    let steady = ap is_plan_failed (p.1 ∙ ap (λ (f : PlanFault). Err f) p.2) ∙ not_failed {A = Gathered} (Err c.in_err-know.field-0.0) c.know.new.self.places c.in_err-know.ensures.fault in
    subst (λ (failed : Bool). HandsOn g.L.LookUp.goes g.L.LookUp.fails failed c.args.look.now c.args.look.now) (sym steady) (g.met.L.LookUp.stays c.args.look.now)

pub returns-in_err-know-clause-faults : goal.returns-in_err-know-clause-faults
returns-in_err-know-clause-faults g c =
    let p = err_from_is_err_and c.from_residual.result c.from_residual.ensures.1 in
    let steady = ap is_plan_failed (p.1 ∙ ap (λ (f : PlanFault). Err f) p.2) ∙ not_failed {A = Gathered} (Err c.in_err-know.field-0.0) c.know.new.self.places c.in_err-know.ensures.fault in
    subst (λ (failed : Bool). RisesOnly failed (g.L.LookUp.faults c.args.look.now) (g.L.LookUp.faults c.args.look.now)) (sym steady) (steady_rises _ _ refl)

pub loop-all-init : goal.loop-all-init
loop-all-init g c =
    let H = g.L.Hash.Hash32.digest_of in
    let told = g.L.LookUp.tree c.args.look.now in
    let known = c.in_ok-know.ensures in
    let unseen = known.faces ∙ c.new-all.ensures.unseen in
    let none : length c.know.new.self.faces.items ≡ 0 = ap length unseen in
    record {
      ready = c.requires.ready;
      told = refl;
      whole = known.whole;
      cells = told-first H told c.args.root.now c.new-all.result c.know.new.self c.new-all.ensures.whole c.new-all.ensures.none unseen known.places c.requires.root;
      top = known.known;
      state = λ some. absurd (omega (arith, none, some));
      asked = omega (arith, none);
      went = g.met.L.LookUp.stays c.args.look.now;
      faults = refl;
    }

pub loop-all-preserved : goal.loop-all-preserved
loop-all-preserved g c =
    let H = g.L.Hash.Hash32.digest_of in
    let kept = c.loop-all.invariant in
    let looked = c.in_ok-look_on.ensures in
    record {
      ready = looked.ready;
      told = looked.told ∙ kept.told;
      whole = looked.whole;
      cells = subst (λ (o : Option Tree). AreTold H o c.look_on.new.self) kept.told (looked.cells (subst (λ (o : Option Tree). AreTold H o c.loop-all.all) (sym kept.told) kept.cells));
      top = looked.grows.known (rank_of_info c.args.root.now) kept.top;
      state = λ some. subst (λ (o : Option Tree). IfSome o (IsState H)) kept.told looked.state;
      asked = looked.asked ∙ (ap (λ (n : ℕ). counted n (length c.look_on.new.self.faces.items - length c.loop-all.all.faces.items)) kept.asked ∙ counted-more (g.L.LookUp.asked c.args.look.now) (length c.loop-all.all.faces.items) (length c.look_on.new.self.faces.items) (omega (arith, looked.more)));
      went = g.met.L.LookUp.further _ _ _ kept.went looked.hands_on;
      faults = looked.faults.steady refl ∙ kept.faults;
    }

pub returns-in_err-look_on-clause-too_many : goal.returns-in_err-look_on-clause-too_many
returns-in_err-look_on-clause-too_many g c = λ limit is.
    let H = g.L.Hash.Hash32.digest_of in
    let kept = c.loop-all.invariant in
    let looked = c.look_on.ensures in
    let p = err_from_is_err_and c.from_residual-in_err-look_on.result c.from_residual-in_err-look_on.ensures.1 in
    let fault = c.in_err-look_on.field-0.0 in
    let same : fault ≡ plan.TooMany limit = err-is p.0 fault (plan.TooMany limit) c.from_residual-in_err-look_on.result p.1 p.2 is in
    let many = at_too_many fault c.look_on.new.self.places c.in_err-look_on.ensures.fault limit same in (
      many.0,
      λ t is_told.
          let here = kept.told ∙ is_told in
          let ranks = looked.ranks (subst (λ (o : Option Tree). AreTold H o c.loop-all.all) (sym kept.told) kept.cells) t here in
          let few = ranks-few H t (MatchOption-at_some _ (IsState H) t here looked.state) c.look_on.new.self.places many.2 ranks in
          omega (arith, many.1, few),
    )

pub returns-clause-cells : goal.returns-clause-cells
returns-clause-cells g c =
    let H = g.L.Hash.Hash32.digest_of in
    let told = g.L.LookUp.tree c.args.look.now in
    let kept = c.loop-all.invariant in
    let all = c.loop-all.all in
    let place = known-place all.places (rank_of_info c.args.root.now) kept.top in
    let at = kept.whole.placed (rank_of_info c.args.root.now) place.0 place.1 in
    let done : length all.faces.items ≡ length all.hashes.items = omega (arith, kept.whole.seen) in
    record {
      state = λ t is_told. MatchOption-at_some _ (IsState H) t is_told (kept.state (omega (arith, at.0, done)));
      cells = kept.cells;
      top = kept.top;
      done = done;
    }
