use Rattle.std.proofs.Common.{refl, ◌∙◌}
use Rattle.cd_upkeep.proofs.CheckLaws.{unchecked-ends, checked-ends}
use Rattle.cd_upkeep.proofs.checking.check_and_print.Goals as goal

pub returns-in-Err : goal.returns-in-Err
returns-in-Err g c =
    unchecked-ends g.H.Hash32.digest_of g.K.Keeper c.args.keeper.now c.read_store.new.keeper g.O.Sink c.args.out.now c.in-Err.status c.in-Err.ensures.refused

pub returns-in-Ok-totals_text : goal.returns-in-Ok-totals_text
returns-in-Ok-totals_text g c =
    checked-ends g.H.Hash32.digest_of g.K.Keeper c.args.keeper.now c.read_store.new.keeper g.O.Sink c.in-Ok.opened c.as_bytes.result.now c.args.out.now c.print.new.out c.print.result
    c.in-Ok.ensures.read (c.as_bytes.ensures.value ∙ c.in-Ok-totals_text.ensures) c.print.ensures

pub returns : goal.returns
returns g c = (let is = c.in-Ok.ensures.read in ((is.keeps, is.steady), refl))
