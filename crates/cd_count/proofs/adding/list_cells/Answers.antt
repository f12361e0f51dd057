use Rattle.std.proofs.Common.{◌≡◌, ℕ, suc, ◌-◌, ◌<◌, ◌≤◌, Bool, true, false, cond, List, [], ◌∷◌, drop, get_or, length, filter, Option, Some, IfSome, sym, ap, ◌∙◌, subst, arith}
use Rattle.std.specs.Option.{option_map}
use Rattle.cd_base.specs.declared.hash.Hash256.{Hash256}
use Rattle.cd_cell.specs.declared.new_cell.NewCell.{NewCell}
use Rattle.cd_keeper.specs.Contents.{Contents}
use Rattle.cd_world.specs.Told as told
use Rattle.cd_count.specs.Reading.{stored_in}
use Rattle.cd_count.specs.PlanSteps.{RowMap}
use Rattle.cd_count.specs.PlanGiving.{is_another, IsListed, AreListed}
use Rattle.cd_count.proofs.Steps.{if_both}
use Rattle.cd_count.proofs.Listing.{listed-more, drop-at}
use Rattle.cd_count.proofs.adding.list_cells.Goals as goal

-- one place lower stands one cell more
split : (xs : List NewCell) (place : ℕ) (x : NewCell) → 0 < place → place ≤ length xs → x ≡ get_or xs (place - 1) x → drop (place - 1) xs ≡ x ∷ drop place xs
split xs place x some within is =
    let next : suc (place - 1) ≡ place = omega arith in
    drop-at xs (place - 1) x (omega arith) ∙ ap (λ (y : NewCell). y ∷ drop (suc (place - 1)) xs) (sym is) ∙ ap (λ n. x ∷ drop n xs) next

module _ (contents : Contents) (x : NewCell) (xs ys : List NewCell) (cut : ys ≡ x ∷ xs) where
  abbrev another : NewCell → Bool
  another c = is_another (stored_in contents c.hash.0) c.face

  filtered : (b : Bool) → b ≡ another x → filter another ys ≡ cond b (x ∷ filter another xs) (filter another xs)
  filtered b is = ap (filter another) cut ∙ ap (λ a. cond a (x ∷ filter another xs) (filter another xs)) (sym is)

pub loop-place-preserved-then-branch : goal.loop-place-preserved-then-branch
loop-place-preserved-then-branch g c =
    let so = c.loop-place.invariant in
    let step = c.in_ok-list_cell.ensures in
    let xs = c.args.cells.now in
    let place = c.loop-place.place in
    let x = c.index-cells-place.result in
    let cut = split xs place x (omega (arith, c.loop-place-test.true)) so.within c.index-cells-place.is in
    let one = λ (contents : Contents). IsListed (stored_in contents) c.loop-place.rows x c.list_cell.new.rows in
    let clashes = λ (contents : Contents). true ≡ is_another (stored_in contents x.hash.0) x.face in
    let listed = λ (n : ℕ) (rows : RowMap) (contents : Contents). AreListed (stored_in contents) [] c.args.rows.now → AreListed (stored_in contents) (drop n xs) rows in
    let least = λ (n : ℕ) (o : Option NewCell) (contents : Contents). (H : List ℕ → Hash256) → o ≡ told.least H (filter (λ c'. is_another (stored_in contents c'.hash.0) c'.face) (drop n xs)) in
    record {
      within = omega (arith, so.within);
      listed = if_both (listed place c.loop-place.rows) one (listed (place - 1) c.list_cell.new.rows) (g.K.Keeper.held c.args.keeper.now) so.listed
          (subst (λ (o : Option Contents). IfSome o one) so.keeps.same_held step.listed)
          (λ contents a b first. subst (λ (ys : List NewCell). AreListed (stored_in contents) ys c.list_cell.new.rows) (sym cut) (listed-more (stored_in contents) (drop place xs) x c.loop-place.rows c.list_cell.new.rows (a first) b));
      least = if_both (least place (option_map (λ r. r.now) c.loop-place.least)) clashes (least (place - 1) (Some c.lesser.result.now)) (g.K.Keeper.held c.args.keeper.now) so.least
          (subst (λ (o : Option Contents). IfSome o clashes) so.keeps.same_held
          (subst (λ (b : Bool). IfSome (g.K.Keeper.held c.loop-place.keeper) (λ (contents : Contents). b ≡ is_another (stored_in contents x.hash.0) x.face)) c.if-branch.true step.clashes))
          (λ contents a b H.
          ap Some (c.lesser.ensures H) ∙ ap (λ (o : Option NewCell). Some (told.lesser H x o)) (a H) ∙ sym (ap (told.least H) (filtered contents x (drop place xs) (drop (place - 1) xs) cut true b)));
      keeps = record {
        same_held = step.keeps.same_held ∙ so.keeps.same_held;
        same_trail = step.keeps.same_trail ∙ so.keeps.same_trail;
        same_batches = step.keeps.same_batches ∙ so.keeps.same_batches;
      };
      steady = step.cause.steady ∙ so.steady;
      good = λ good. step.good (so.good good);
      reads = omega (arith, step.reads, so.reads, c.loop-place-test.true);
    }

pub loop-place-preserved : goal.loop-place-preserved
loop-place-preserved g c =
    let so = c.loop-place.invariant in
    let step = c.in_ok-list_cell.ensures in
    let xs = c.args.cells.now in
    let place = c.loop-place.place in
    let x = c.index-cells-place.result in
    let cut = split xs place x (omega (arith, c.loop-place-test.true)) so.within c.index-cells-place.is in
    let one = λ (contents : Contents). IsListed (stored_in contents) c.loop-place.rows x c.list_cell.new.rows in
    let clashes = λ (contents : Contents). false ≡ is_another (stored_in contents x.hash.0) x.face in
    let listed = λ (n : ℕ) (rows : RowMap) (contents : Contents). AreListed (stored_in contents) [] c.args.rows.now → AreListed (stored_in contents) (drop n xs) rows in
    let least = λ (n : ℕ) (o : Option NewCell) (contents : Contents). (H : List ℕ → Hash256) → o ≡ told.least H (filter (λ c'. is_another (stored_in contents c'.hash.0) c'.face) (drop n xs)) in
    record {
      within = omega (arith, so.within);
      listed = if_both (listed place c.loop-place.rows) one (listed (place - 1) c.list_cell.new.rows) (g.K.Keeper.held c.args.keeper.now) so.listed
          (subst (λ (o : Option Contents). IfSome o one) so.keeps.same_held step.listed)
          (λ contents a b first. subst (λ (ys : List NewCell). AreListed (stored_in contents) ys c.list_cell.new.rows) (sym cut) (listed-more (stored_in contents) (drop place xs) x c.loop-place.rows c.list_cell.new.rows (a first) b));
      least = if_both (least place (option_map (λ r. r.now) c.loop-place.least)) clashes (least (place - 1) (option_map (λ r. r.now) c.loop-place.least)) (g.K.Keeper.held c.args.keeper.now) so.least
          (subst (λ (o : Option Contents). IfSome o clashes) so.keeps.same_held
          (subst (λ (b : Bool). IfSome (g.K.Keeper.held c.loop-place.keeper) (λ (contents : Contents). b ≡ is_another (stored_in contents x.hash.0) x.face)) c.if-branch.false step.clashes))
          (λ contents a b H. a H ∙ sym (ap (told.least H) (filtered contents x (drop place xs) (drop (place - 1) xs) cut false b)));
      keeps = record {
        same_held = step.keeps.same_held ∙ so.keeps.same_held;
        same_trail = step.keeps.same_trail ∙ so.keeps.same_trail;
        same_batches = step.keeps.same_batches ∙ so.keeps.same_batches;
      };
      steady = step.cause.steady ∙ so.steady;
      good = λ good. step.good (so.good good);
      reads = omega (arith, step.reads, so.reads, c.loop-place-test.true);
    }
