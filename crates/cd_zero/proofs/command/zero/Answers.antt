-- The input was read whole, and what is stored of it is the world with its state.
use Rattle.std.proofs.Common.{refl}
use Rattle.cd_zero.proofs.ZeroLaws.{ends-taken, ends-unread}
use Rattle.cd_zero.proofs.command.zero.Goals as goal

pub store-requires : goal.store-requires
store-requires g c =
    let found = c.in-Ok-prepared_of.ensures.found in
    let lists = found.2 in
    let whole = lists.whole in
    record { whole = whole.fits }

pub returns-in-Err : goal.returns-in-Err
returns-in-Err g c =
    rw (c.of.ensures.status, c.of.ensures.keeper)
    (ends-unread g.H.Hash32.digest_of c.args.name g.S.Source g.O.Sink g.K.Keeper
    c.args.input.now c.read_input.new.input c.args.out.now c.args.out.now c.args.keeper c.args.keeper c.of.result.journal.items
    c.in-Err.status (record { sink = refl; keeper = refl; entries = c.of.ensures.journal }) c.in-Err.ensures.unread)

pub returns-in-Ok-prepared_of : goal.returns-in-Ok-prepared_of
returns-in-Ok-prepared_of g c =
    let found = c.in-Ok-prepared_of.ensures.found in
    ends-taken g.H.Hash32.digest_of c.args.name g.S.Source g.O.Sink g.K.Keeper
    c.args.input.now c.read_input.new.input c.args.out.now c.store.new.out c.args.keeper c.store.result.keeper c.store.result.journal.items
    found.0 c.store.result.status (record { bytes = c.in-Ok.bytes.items; input = c.in-Ok.ensures.read; bag = found.1 }) (c.store.ensures found.0 found.2)
