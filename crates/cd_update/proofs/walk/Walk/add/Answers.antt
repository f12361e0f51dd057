-- A number stands in the spot of an entry exactly where it was visited.
use Rattle.std.proofs.Common.{◌≡◌, length, ap, sym, ◌∙◌, subst, Some, set, arith}
use Rattle.std.specs.Prelude.{not, is_some}
use Rattle.cd_update.specs.Visits.{spot, IsNumbered}
use Rattle.cd_update.proofs.VisitLaws.{number-told, IsNumbered-push}
use Rattle.cd_update.proofs.walk.Walk.add.Goals as goal

pub returns-then-is_some-clause-new : goal.returns-then-is_some-clause-new
returns-then-is_some-clause-new c =
    let walk = c.args.self.now in
    ap not (sym c.if-is_some.true ∙ c.is_some.ensures ∙ ap is_some c.number.ensures.value ∙ number-told walk.numbers.items walk.visits.items walk.numbered c.args.visit.node c.requires.depth)

pub returns-clause-new : goal.returns-clause-new
returns-clause-new c =
    let walk = c.args.self.now in
    ap not (sym c.if-is_some.false ∙ c.is_some.ensures ∙ ap is_some c.number.ensures.value ∙ number-told walk.numbers.items walk.visits.items walk.numbered c.args.visit.node c.requires.depth)

pub invariant_of-self-2 : goal.invariant_of-self-2
invariant_of-self-2 c =
    let walk = c.args.self.now in
    let visit = c.args.visit in
    let count : c.len-number.result ≡ length walk.visits.items = omega (arith, c.len-number.ensures, walk.visits.ok) in
    let free = sym (ap is_some c.number.ensures.value) ∙ sym c.is_some.ensures ∙ c.if-is_some.false in
    record {
      numbered =
          subst (λ n. IsNumbered (set walk.numbers.items (spot visit.node) (Some n)) c.push.new.self.items) (sym count)
          (subst (IsNumbered (set walk.numbers.items (spot visit.node) (Some (length walk.visits.items)))) (sym c.in_ok-push.ensures.items)
          (IsNumbered-push walk.numbers.items walk.visits.items walk.numbered visit c.requires.depth (omega arith) free));
    }
