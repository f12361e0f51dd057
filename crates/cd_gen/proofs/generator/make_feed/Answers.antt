use Rattle.std.proofs.Common.{◌≡◌, ℕ, ◌+◌, ◌-◌, ◌≤◌, ◌++◌, ◌∷◌, [], List, ◌∙◌, ap, ap₂, refl, subst, sym, arith}
use Rattle.cd_feed.specs.Feeds.{IsBagFit}
use Rattle.cd_gen.specs.Generated.{update_bag}
use Rattle.cd_gen.proofs.PhaseLaws.{AreSoFar, AreBlocksFit, first_phase, next_phase, all_made, all_fit}
use Rattle.cd_gen.proofs.generator.make_feed.Goals as goal

fit-by : (a b : List ℕ) → a ≡ b → IsBagFit a → IsBagFit b
fit-by a b same fit = subst IsBagFit same fit

pub loop-seqno-init : goal.loop-seqno-init
loop-seqno-init c =
    let first = c.in_ok-push.ensures.items ∙ ap₂ (λ ps p. ps ++ p ∷ []) c.in_ok-phases.ensures.items c.in_ok-zero_phase.ensures in
    record {
      phases =
          subst (λ ps. AreSoFar c.args.n ps 0) (sym first)
          (first_phase c.args.n
          (record {
            master = fit-by _ _ c.in_ok-master.ensures.bag c.in_ok-master.ensures.short;
            left = fit-by _ _ c.in_ok-left.ensures.bag c.in_ok-left.ensures.short;
            right = fit-by _ _ c.in_ok-right.ensures.bag c.in_ok-right.ensures.short;
          }));
      number = refl;
      left = omega (arith, c.in_ok-left.ensures.seqno);
      right = omega (arith, c.in_ok-right.ensures.seqno);
      master = λ low. omega (arith, c.in_ok-master.ensures.seqno);
    }

pub loop-seqno-preserved : goal.loop-seqno-preserved
loop-seqno-preserved c =
    let n = c.args.n in
    let so_far = c.loop-seqno.phases.items in
    let seqno = c.loop-seqno.seqno in
    let bags = c.in_ok-bags.bags in
    let before = c.loop-seqno.invariant in
    let number : (chain : ℕ) → update_bag c.loop-seqno.chains.number chain seqno ≡ update_bag n chain seqno = λ chain. ap (λ k. update_bag k chain seqno) before.number in
    let fits : AreBlocksFit n seqno = record {
      master = λ low. fit-by bags.master (update_bag n 0 seqno) (c.in_ok-bags.ensures.master low ∙ number 0) bags.master_fits;
      left = fit-by bags.left (update_bag n 1 seqno) (c.in_ok-bags.ensures.left ∙ number 1) bags.left_fits;
      right = fit-by bags.right (update_bag n 2 seqno) (c.in_ok-bags.ensures.right ∙ number 2) bags.right_fits;
    } in
    let more = c.in_ok-push-2.ensures.items ∙ ap (λ p. so_far ++ p ∷ []) c.in_ok-block_phase.ensures in
    let count : seqno - 1 + 1 ≡ seqno + 1 - 1 = omega arith in
    record {
      phases =
          subst (λ k. AreSoFar n c.push-in-loop-seqno.new.self.items k) count
          (subst (λ ps. AreSoFar n ps (seqno - 1 + 1)) (sym more) (next_phase n so_far (seqno - 1) seqno (omega arith) fits before.phases));
      number = c.in_ok-bags.ensures.number ∙ before.number;
      left = ap (λ k. k + 1) c.in_ok-bags.ensures.left_seqno;
      right = ap (λ k. k + 1) c.in_ok-bags.ensures.right_seqno;
      master = λ low. let few : seqno ≤ 66 = omega (arith, low) in ap (λ k. k + 1) (c.in_ok-bags.ensures.master_seqno few);
    }

pub returns-clause-feed : goal.returns-clause-feed
returns-clause-feed c =
    let all : c.loop-seqno.seqno - 1 ≡ 67 = omega arith in
    rw c.from.ensures (all_made c.args.n c.loop-seqno.phases.items (subst (λ k. AreSoFar c.args.n c.loop-seqno.phases.items k) all c.loop-seqno.invariant.phases))

pub returns-clause-fit : goal.returns-clause-fit
returns-clause-fit c =
    let all : c.loop-seqno.seqno - 1 ≡ 67 = omega arith in
    rw c.from.ensures (all_fit c.args.n c.loop-seqno.phases.items (subst (λ k. AreSoFar c.args.n c.loop-seqno.phases.items k) all c.loop-seqno.invariant.phases))
