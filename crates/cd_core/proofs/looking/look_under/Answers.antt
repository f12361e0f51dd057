use Rattle.std.proofs.Common.{sym}
use Rattle.cd_core.proofs.Begun.{looked-did, unlooked-did, forgot-did, faces-seen}
use Rattle.std.proofs.Common.{length}
use Rattle.cd_core.proofs.looking.look_under.Goals as goal

pub returns-in-Ok-clause-seen : goal.returns-in-Ok-clause-seen
returns-in-Ok-clause-seen g c = λ t h. faces-seen g.K.Keeper.held g.H.Hash32.digest_of t c.args.keeper.now c.args.hashes.now c.in-Ok.found.items h c.in-Ok.ensures.told

pub returns-in-Ok-clause-did : goal.returns-in-Ok-clause-did
returns-in-Ok-clause-did g c = λ limit low.
    let k = g.K.Keeper in
    looked-did g.row.H.Denot k.held g.H.Hash32.digest_of k.trail k.batches k.faults limit low c.args.world.now c.args.keeper.now c.args.who c.requires.kept c.look_all.new.keeper c.args.pin (length c.args.hashes.now) _
    (sym c.in-Some.ensures) c.look_all.ensures.keeps c.in-Ok.ensures.cause.steady

pub returns-in-Err-Failed-clause-did : goal.returns-in-Err-Failed-clause-did
returns-in-Err-Failed-clause-did g c = λ limit low.
    let k = g.K.Keeper in
    unlooked-did g.row.H.Denot k.held g.H.Hash32.digest_of k.trail k.batches k.faults limit low c.args.world.now c.args.keeper.now c.args.who c.requires.kept c.look_all.new.keeper c.args.pin (length c.args.hashes.now) _
    (sym c.in-Some.ensures) c.look_all.ensures.keeps c.look_all.ensures.cause.later (rw c.in-Err-Failed.field-0-is at c.in-Err-Failed.ensures.cause.caused)

pub returns-in-Err-Memory-clause-did : goal.returns-in-Err-Memory-clause-did
returns-in-Err-Memory-clause-did g c = λ limit low.
    let k = g.K.Keeper in
    forgot-did g.row.H.Denot k.held g.H.Hash32.digest_of k.trail k.batches k.faults limit low c.args.world.now c.args.keeper.now c.args.who c.requires.kept c.look_all.new.keeper c.args.pin (length c.args.hashes.now) _
    (sym c.in-Some.ensures) c.look_all.ensures.keeps (rw c.in-Err-Memory.field-0-is at c.in-Err-Memory.ensures.cause.caused)
