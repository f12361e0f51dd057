-- An opened core takes one state.
use Rattle.std.proofs.Common.{List, sym, subst, subst₂}
use Rattle.cd_event.specs.declared.entry.Entry.{Entry}
use Rattle.cd_core.specs.declared.start.CoreStart.{CoreStart}
use Rattle.cd_core.specs.Cores.{IsCore}
use Rattle.cd_zero.proofs.storing.take.Goals as goal

pub returns-clause-kept : goal.returns-clause-kept
returns-clause-kept g c =
    let H = g.H.Hash32.digest_of in
    let k = g.K.Keeper in
    let core = c.zero-answer.new.self in
    subst₂ (λ (es : List (Entry g.row.H.Denot)) (now : g.row.K.Denot). IsCore k.held H k.trail k.batches k.faults c.args.core.start es now) (sym c.close-keeper.ensures.journal) (sym c.close-keeper.ensures.keeper)
    (subst (λ (s : CoreStart g.row.K.Denot). IsCore k.held H k.trail k.batches k.faults s core.journal core.keeper) c.zero-answer.ensures.start c.close-keeper.ensures.kept)
