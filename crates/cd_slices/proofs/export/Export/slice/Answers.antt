use Rattle.std.proofs.Common.{◌≡◌, ◌+◌, ◌≤◌, ℕ, arith, true, length}
use Rattle.std.proofs.lemmas.Bool.Decides.{nat_tests}
use Rattle.cd_boc_write.specs.declared.layout.Layout.{Layout}
use Rattle.cd_slices.specs.Planned.{is_met}
use Rattle.cd_slices.proofs.MetLaws.{met_of_more}
use Rattle.cd_slices.proofs.export.Export.slice.Goals as goal

-- what a shorter part meets a longer one meets
pub met_longer : (layout : Layout) (from until later k : ℕ) → until ≤ later → is_met layout from until k ≡ true → is_met layout from later k ≡ true
met_longer layout from until later k less met = grind (arith, nat_tests)

pub returns-clause-asked : goal.returns-clause-asked
returns-clause-asked g c =
    let layout = c.args.self.now.layout in
    let until = c.args.offset + c.args.max in
    let fewer = met_of_more (is_met layout c.args.offset c.min.result) (is_met layout c.args.offset until) (λ k. met_longer layout c.args.offset c.min.result until k (omega (arith, c.min.ensures, c.from.ensures))) (length layout.ends) in
    (c.cut.ensures.asked.0, omega (arith, c.cut.ensures.asked.1, fewer))
