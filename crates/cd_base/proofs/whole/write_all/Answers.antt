use Rattle.std.proofs.Common.{◌∙◌, arith}
use Rattle.std.proofs.lemmas.List.{take_rest}
use Rattle.cd_base.proofs.ToldLaws.{Got-take}
use Rattle.cd_base.proofs.whole.write_all.Goals as goal

pub loop-sent-preserved : goal.loop-sent-preserved
loop-sent-preserved g c = record {
  within = grind (arith, take_rest);
  got = Got-take _ _ _ _ _ _ c.loop-sent.invariant.got (simp take_rest at c.in_ok-sent.ensures.bytes);
  counted = c.in_ok-sent.ensures.cause.steady ∙ c.loop-sent.invariant.counted;
}
