use Rattle.std.proofs.Common.{◌≡◌, ap, ◌∙◌, ◌-◌, ◌++◌, List, ℕ, Result, Ok, Err, arith}
use Rattle.std.specs.Prelude.{OnOk, if◌then◌else◌}
use Rattle.std.specs.Result.{is_ok}
use Rattle.cd_slices.proofs.WindowLaws.{cut_is}
use Rattle.cd_slices.proofs.windows.put_window.Goals as goal

-- what holds of either answer, at an Ok
at_ok : {T E A : Type 0} (r : Result T E) (x y z w : A) → x ≡ (if is_ok r then y else z) → y ≡ w → OnOk r (x ≡ w)
at_ok (Ok done) x y z w is same = is ∙ same
at_ok (Err fault) x y z w is same = tt

pub returns : goal.returns
returns c = at_ok c.extend_from_slice.result _ _ _ _ c.extend_from_slice.ensures.items
    (ap (λ (l : List ℕ). c.args.out.now.items ++ l) (cut_is c.args.text.now (c.args.from - c.args.start) (c.args.until - c.args.start) c.min-begin.result c.min-end.result (omega (arith, c.saturating_sub-last.ensures, c.min-end.ensures)) (omega (arith, c.saturating_sub-first.ensures, c.min-begin.ensures))))
