-- A visit is taken from what is pending: it was seen, or its children are put in its place.
use Rattle.std.proofs.Common.{◌≡◌, ◌*◌, ◌++◌, ◌∷◌, [], length, true, false, ap, sym, subst, ◌∙◌, arith}
use Rattle.std.specs.Prelude.{if◌then◌else◌}
use Rattle.cd_update.proofs.Walking.{IsWalking, IsWalking-start, IsWalking-seen, IsWalking-new, top-shown, places_left-seen, places_left-new, not-true, not-false}
use Rattle.cd_update.proofs.walk.visit_all.Goals as goal

pub loop-visit-init : goal.loop-visit-init
loop-visit-init g c =
    let H = g.H.Hash32.digest_of in
    let bag = c.args.bag.now in
    record {
      walking =
          subst (λ vs. IsWalking H bag c.args.start.node vs c.in_ok-pending.pending.items) (sym c.in_ok-walk.ensures.none)
          (subst (λ vs. IsWalking H bag c.args.start.node [] vs) (sym c.in_ok-pending.ensures.items)
          (IsWalking-start H bag c.cells.ensures.kept c.args.start c.requires));
      wide = c.in_ok-walk.ensures.wide ∙ ap (λ xs. 4 * length xs) c.cells.ensures.value;
    }

pub add-requires-clause-depth : goal.add-requires-clause-depth
add-requires-clause-depth g c =
    let bag = c.args.bag.now in
    (top-shown g.H.Hash32.digest_of bag c.cells.ensures.kept c.args.start.node c.loop-visit.walk.visits.items c.loop-visit.pending.items c.pop.new.self.items c.in-Some.visit c.loop-visit.invariant.walking c.in-Some.ensures.items).depth

pub add-requires-clause-entry : goal.add-requires-clause-entry
add-requires-clause-entry g c =
    let bag = c.args.bag.now in
    omega (arith, c.loop-visit.invariant.wide, (top-shown g.H.Hash32.digest_of bag c.cells.ensures.kept c.args.start.node c.loop-visit.walk.visits.items c.loop-visit.pending.items c.pop.new.self.items c.in-Some.visit c.loop-visit.invariant.walking c.in-Some.ensures.items).entry)

pub push_children-requires : goal.push_children-requires
push_children-requires g c =
    let bag = c.args.bag.now in
    top-shown g.H.Hash32.digest_of bag c.cells.ensures.kept c.args.start.node c.loop-visit.walk.visits.items c.loop-visit.pending.items c.pop.new.self.items c.in-Some.visit c.loop-visit.invariant.walking c.in-Some.ensures.items

pub loop-visit-smaller-in-Continue-branch-4 : goal.loop-visit-smaller-in-Continue-branch-4
loop-visit-smaller-in-Continue-branch-4 g c =
    let bag = c.args.bag.now in
    places_left-new g.H.Hash32.digest_of bag c.cells.ensures.kept c.args.start.node c.loop-visit.walk.visits.items c.loop-visit.pending.items c.pop.new.self.items c.in-Some.visit c.loop-visit.invariant.walking c.in-Some.ensures.items c.push_children.new.pending.items c.in_ok-push_children.ensures.nodes

pub loop-visit-preserved-in-Continue-branch-4 : goal.loop-visit-preserved-in-Continue-branch-4
loop-visit-preserved-in-Continue-branch-4 g c =
    let H = g.H.Hash32.digest_of in
    let bag = c.args.bag.now in
    let new : c.in_ok-add.field-0 ≡ true = c.if-branch.true in
    let visits = c.in_ok-add.ensures.visits ∙ ap (λ b. if b then c.loop-visit.walk.visits.items ++ c.in-Some.visit ∷ [] else c.loop-visit.walk.visits.items) new in
    record {
      walking =
          subst (λ vs. IsWalking H bag c.args.start.node vs c.push_children.new.pending.items) (sym visits)
          (IsWalking-new H bag c.cells.ensures.kept c.args.start.node c.loop-visit.walk.visits.items c.loop-visit.pending.items c.pop.new.self.items c.in-Some.visit c.loop-visit.invariant.walking c.in-Some.ensures.items c.push_children.new.pending.items c.in_ok-push_children.ensures.nodes
          (not-true _ (sym c.in_ok-add.ensures.new ∙ new)) c.in_ok-push_children.ensures.shown);
      wide = c.in_ok-add.ensures.wide ∙ c.loop-visit.invariant.wide;
    }

pub loop-visit-smaller : goal.loop-visit-smaller
loop-visit-smaller g c =
    let bag = c.args.bag.now in
    places_left-seen g.H.Hash32.digest_of bag c.cells.ensures.kept c.args.start.node c.loop-visit.walk.visits.items c.loop-visit.pending.items c.pop.new.self.items c.in-Some.visit c.loop-visit.invariant.walking c.in-Some.ensures.items

pub loop-visit-preserved : goal.loop-visit-preserved
loop-visit-preserved g c =
    let H = g.H.Hash32.digest_of in
    let bag = c.args.bag.now in
    let new : c.in_ok-add.field-0 ≡ false = c.if-branch.false in
    let visits = c.in_ok-add.ensures.visits ∙ ap (λ b. if b then c.loop-visit.walk.visits.items ++ c.in-Some.visit ∷ [] else c.loop-visit.walk.visits.items) new in
    record {
      walking =
          subst (λ vs. IsWalking H bag c.args.start.node vs c.pop.new.self.items) (sym visits)
          (IsWalking-seen H bag c.cells.ensures.kept c.args.start.node c.loop-visit.walk.visits.items c.loop-visit.pending.items c.pop.new.self.items c.in-Some.visit c.loop-visit.invariant.walking c.in-Some.ensures.items
          (not-false _ (sym c.in_ok-add.ensures.new ∙ new)));
      wide = c.in_ok-add.ensures.wide ∙ c.loop-visit.invariant.wide;
    }
