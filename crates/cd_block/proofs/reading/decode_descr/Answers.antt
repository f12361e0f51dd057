use Rattle.std.proofs.Common.{arith}
use Rattle.cd_block.proofs.Descriptions.{is_found, descr_again}
use Rattle.cd_block.proofs.reading.decode_descr.Goals as goal

pub returns-clause-found : goal.returns-clause-found
returns-clause-found c = is_found c.args.key.now c.args.value.now c.descr_in.result c.told-key c.fits-key (λ i. omega (arith, c.type_inv.value i)) c.descr_in.ensures

pub returns-clause-only : goal.returns-clause-only
returns-clause-only c = λ descr known fit ek ev.
    rw (ek, ev, descr_again descr known fit) at c.descr_in.ensures
