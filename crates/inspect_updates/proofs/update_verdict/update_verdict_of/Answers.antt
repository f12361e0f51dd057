-- The one tree that the bytes spell is that of the update.
use Rattle.std.proofs.Common.{subst}
use Rattle.cd_boc_read.specs.Grammar.{Spells}
use Rattle.inspect_updates.proofs.update_verdict.update_verdict_of.Goals as goal

pub returns-in-Ok-of : goal.returns-in-Ok-of
returns-in-Ok-of g c =
    let H = g.H.Hash32.digest_of in
    c.prepared_verdict.ensures c.args.bytes.now
    (subst (Spells H c.args.bytes.now) c.in-Ok-of.ensures.root c.in-Ok.ensures.found)
