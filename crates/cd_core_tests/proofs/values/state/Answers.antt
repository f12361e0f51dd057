-- A bag without a fault is that of one state, all of whose cells are listed.
use Rattle.cd_cell.specs.Bags.{bag_trees}
use Rattle.cd_prepare.proofs.StateLaws.{state-of}
use Rattle.cd_core_tests.proofs.values.state.Goals as goal

pub returns-in-Ok : goal.returns-in-Ok
returns-in-Ok g c =
    let H = g.H.Hash32.digest_of in
    let state = state-of H (bag_trees c.in_ok-bag.bag) c.in-Ok.ensures.exact in
    record { fits = (c.in-Ok.ensures.whole state.0 state.1).fits }
