-- A bag without a fault is that of one state.
use Rattle.std.proofs.Common.{subst}
use Rattle.cd_cell.specs.Bags.{bag_trees}
use Rattle.cd_cell.specs.Export.{AreClashFree}
use Rattle.cd_boc_read.specs.Grammar.{Spells}
use Rattle.cd_prepare.proofs.StateLaws.{state-of}
use Rattle.cd_zero.proofs.StateLaws.{refused-bag}
use Rattle.cd_zero.proofs.preparing.prepared_of.Goals as goal

pub returns-in-Ok-prepare_zero-clause-found : goal.returns-in-Ok-prepare_zero-clause-found
returns-in-Ok-prepare_zero-clause-found g c =
    let H = g.H.Hash32.digest_of in
    let bag = c.in-Ok.bag in
    let state = state-of H (bag_trees bag) c.in-Ok-prepare_zero.ensures.exact in
    let spelt = subst (λ b. Spells H b (bag_trees bag)) c.deref.ensures.value c.in-Ok.ensures.found in
    let clear = subst (AreClashFree H) state.1 c.in-Ok-prepare_zero.ensures.clear in
    (state.0, record { bag = subst (Spells H c.args.bytes.items) state.1 spelt; level = state.2 }, record { new = c.in-Ok-prepare_zero.ensures.old; clear = clear; whole = c.in-Ok-prepare_zero.ensures.whole state.0 state.1 })

pub returns-clause-refused : goal.returns-clause-refused
returns-clause-refused g c =
    let H = g.H.Hash32.digest_of in
    let bag = c.in-Ok.bag in
    let spelt = subst (λ b. Spells H b (bag_trees bag)) c.deref.ensures.value c.in-Ok.ensures.found in
    rw c.refusal_of.ensures (refused-bag H c.args.bytes.items (bag_trees bag) c.in-Err-prepare_zero.fault spelt c.in-Err-prepare_zero.ensures.exact)
