use Rattle.std.proofs.Common.{◌≡◌, ℕ, ◌+◌, ◌<◌, List, [], ◌∷◌, ◌++◌, take, length, flat_map, Option, IfSome, sym, ap, ◌∙◌, subst, arith}
use Rattle.std.proofs.lemmas.List.{take_more}
use Rattle.cd_cell.specs.declared.new_cell.NewCell.{NewCell}
use Rattle.cd_cell.specs.FaceView.{FaceView}
use Rattle.cd_keeper.specs.Contents.{Contents}
use Rattle.cd_count.specs.Reading.{stored_in}
use Rattle.cd_count.specs.PlanSteps.{fixed_at}
use Rattle.cd_count.specs.PlanGiving.{AreGiven, due_kids, due_of}
use Rattle.cd_count.proofs.Steps.{if_both}
use Rattle.cd_count.proofs.Gives.{given-more, flat_map-push}
use Rattle.cd_count.proofs.giving.give_all_kids.Goals as goal

pub loop-cell-preserved : goal.loop-cell-preserved
loop-cell-preserved g c =
    let i = c.loop-cell.cell-index in
    let cs = c.args.cells.now in
    let x = c.cell-item.result in
    let so = c.loop-cell.invariant in
    let step = c.in_ok-give_kids.ensures in
    let within : i < length cs = c.loop-cell-test.true in
    let rows0 = c.args.rows.now in
    let rows = c.loop-cell.rows in
    let rows' = c.give_kids.new.rows in
    let one = λ (contents : Contents). AreGiven (stored_in contents) rows (due_kids (fixed_at (stored_in contents) rows x.hash.0) x.face) rows' in
    let before = λ (contents : Contents). AreGiven (stored_in contents) rows0 (due_of (stored_in contents) rows0 (take i cs)) rows in
    let after = λ (contents : Contents). AreGiven (stored_in contents) rows0 (due_of (stored_in contents) rows0 (take (i + 1) cs)) rows' in
    record {
      given = if_both before one after (g.K.Keeper.held c.args.keeper.now) so.given
          (subst (λ (o : Option Contents). IfSome o one) so.keeps.same_held step.given)
          (λ contents a b.
          let due = λ (y : NewCell). due_kids (fixed_at (stored_in contents) rows0 y.hash.0) y.face in
          let more : due_of (stored_in contents) rows0 (take (i + 1) cs) ≡ due_of (stored_in contents) rows0 (take i cs) ++ due x =
          ap (flat_map due) (take_more cs i x within ∙ ap (λ (y : NewCell). take i cs ++ y ∷ []) (sym c.cell-item.is)) ∙ flat_map-push due (take i cs) x in
          let same : due_kids (fixed_at (stored_in contents) rows x.hash.0) x.face ≡ due x = ap (λ (o : Option (Option ℕ × FaceView)). due_kids o x.face) (a.fixed x.hash.0) in
          subst (λ (ks : List (List ℕ)). AreGiven (stored_in contents) rows0 ks rows') (ap (λ (ks : List (List ℕ)). due_of (stored_in contents) rows0 (take i cs) ++ ks) same ∙ sym more)
          (given-more (stored_in contents) rows0 rows rows' (due_of (stored_in contents) rows0 (take i cs)) (due_kids (fixed_at (stored_in contents) rows x.hash.0) x.face) a b));
      keeps = record {
        same_held = step.keeps.same_held ∙ so.keeps.same_held;
        same_trail = step.keeps.same_trail ∙ so.keeps.same_trail;
        same_batches = step.keeps.same_batches ∙ so.keeps.same_batches;
      };
      steady = step.cause.steady ∙ so.steady;
      good = λ good. step.good (so.good good);
      reads = omega (arith, step.reads, so.reads);
    }
