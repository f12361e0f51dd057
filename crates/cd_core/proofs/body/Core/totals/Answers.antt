use Rattle.std.proofs.Common.{◌≡◌, length, ap, ◌∙◌, subst}
use Rattle.std.specs.List.{sum_by}
use Rattle.std.specs.FinMap as finite
use Rattle.cd_world.specs.declared.world.World.{World}
use Rattle.cd_world.specs.Told.{held, count}
use Rattle.cd_core.specs.Cores.{CoreView}
use Rattle.cd_core.specs.Effects.{AreTotals, at_most_last}
use Rattle.cd_core.proofs.Journaling.{kept-core, told-now}
use Rattle.cd_core.proofs.Totals.{sums-told}
use Rattle.cd_core.proofs.body.Core.totals.Goals as goal

pub invariant_of-self : goal.invariant_of-self
invariant_of-self g c =
    let k = g.K.Keeper in
    kept-core k.held g.H.Hash32.digest_of k.trail k.batches k.faults c.self.inside.world c.self.inside.start c.self.inside.journal c.self.inside.keeper c.total_cells.new.keeper
    c.self.invariant c.total_cells.ensures.keeps c.total_cells.ensures.cause.later

pub invariant_of-self-2 : goal.invariant_of-self-2
invariant_of-self-2 g c =
    let k = g.K.Keeper in
    kept-core k.held g.H.Hash32.digest_of k.trail k.batches k.faults c.self.inside.world c.self.inside.start c.self.inside.journal c.self.inside.keeper c.total_cells.new.keeper
    c.self.invariant c.total_cells.ensures.keeps c.total_cells.ensures.cause.later

pub returns-clause-totals : goal.returns-clause-totals
returns-clause-totals g c =
    let k = g.K.Keeper in
    let H = g.H.Hash32.digest_of in
    let start = c.self.inside.start in
    let es = c.self.inside.journal in
    let w = c.self.inside.world in
    let cells = c.in-Ok.sums.0 in
    let counts = c.in-Ok.sums.1 in
    subst (λ (v : CoreView g.row.K.Denot g.row.H.Denot). AreTotals k.held H v.start v.journal (record { blocks = c.count_blocks-blocks.result; cells = cells; counts = counts })) c.self.view_is (record {
      blocks = c.count_blocks-blocks.ensures ∙ ap (λ (v : World). at_most_last (length v.blocks)) c.self.invariant.0;
      cells = told-now k.held H k.trail k.batches k.faults (λ u. cells ≡ at_most_last (length (finite.entries (held H u)))) w start es c.self.inside.keeper c.self.invariant
          (λ u same h. let both = sums-told k.held H u c.self.inside.keeper cells counts h c.in-Ok.ensures.sums in both.0);
      counts = told-now k.held H k.trail k.batches k.faults (λ u. counts ≡ at_most_last (sum_by (λ e. count H u e.0) (finite.entries (held H u)))) w start es c.self.inside.keeper c.self.invariant
          (λ u same h. let both = sums-told k.held H u c.self.inside.keeper cells counts h c.in-Ok.ensures.sums in both.1);
    })
