-- The start was visited, and it was worked out too.
use Rattle.std.proofs.Common.{subst, sym, arith}
use Rattle.cd_update.specs.GraftWalks.{AreDone}
use Rattle.cd_update.proofs.GraftVisits.{start-visited}
use Rattle.cd_update.proofs.grafting.HalfGraft.grafted.Goals as goal

pub info_at-root-requires-clause-visited : goal.info_at-root-requires-clause-visited
info_at-root-requires-clause-visited g c = start-visited c.args.self.now.grafting

pub returns-clause-root : goal.returns-clause-root
returns-clause-root g c =
    let done = subst (AreDone g.H.Hash32.digest_of c.args.self.now 0) (sym c.as_slice.ensures.value) c.in_ok-infos.ensures in
    c.info_at-root.ensures 0 (omega arith) done
