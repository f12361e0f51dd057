use Rattle.std.proofs.Common.{◌+◌, ℕ, length, ap, subst, sym, ◌∙◌}
use Rattle.std.specs.Prelude.{IfSome}
use Rattle.std.proofs.lemmas.List.{length_push}
use Rattle.std.proofs.lemmas.List.Elements.{All-push}
use Rattle.cd_cell.specs.GoodFace.{IsGoodFace}
use Rattle.cd_event.specs.Turning.{AreGood}
use Rattle.cd_fan_tests.proofs.listed.ListedLookLookUp.look.Goals as goal

pub loop-hash-preserved : goal.loop-hash-preserved
loop-hash-preserved c =
    let kept = c.loop-hash.invariant in
    record {
      counted = ap length c.in-Ok.ensures.items ∙ (length_push c.loop-hash.found.items c.face.result ∙ ap (λ (n : ℕ). n + 1) kept.counted);
      good = subst AreGood (sym c.in-Ok.ensures.items) (All-push (λ face. IfSome face IsGoodFace) c.loop-hash.found.items c.face.result kept.good c.face.ensures);
    }
