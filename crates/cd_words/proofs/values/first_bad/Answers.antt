use Rattle.std.proofs.Common.{sym, subst, ◌∙◌, true≢false, inl, inr, refl}
use Rattle.cd_words.specs.Values.{AreSpelt, IsFirstBad}
use Rattle.cd_words.proofs.ListLaws.{seen_at}
use Rattle.cd_words.proofs.values.first_bad.Goals as goal

pub returns-then-not-is_spelt : goal.returns-then-not-is_spelt
returns-then-not-is_spelt c =
    let seen = seen_at (λ g. (g.option, g.value.now)) c.args.given.now c.loop-item.item-index _ c.loop-item-test.true in
    c.loop-item.invariant.1 _ (subst (IsFirstBad _) (sym seen) (inl (refl, λ h. true≢false (sym (c.is_spelt.ensures.1 h) ∙ c.if-not-is_spelt.true))))

pub loop-item-preserved : goal.loop-item-preserved
loop-item-preserved c =
    let seen = seen_at (λ g. (g.option, g.value.now)) c.args.given.now c.loop-item.item-index _ c.loop-item-test.true in (
      λ spelt. c.loop-item.invariant.0 (subst AreSpelt (sym seen) (c.is_spelt.ensures.0 c.if-not-is_spelt.false, spelt)),
      λ option bad. c.loop-item.invariant.1 option (subst (IsFirstBad option) (sym seen) (inr (c.is_spelt.ensures.0 c.if-not-is_spelt.false, bad))),
    )
