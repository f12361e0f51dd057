use Rattle.std.proofs.Common.{◌∙◌}
use Rattle.cd_upkeep.proofs.MigrateLaws.{unmigrated-ends, migrated-ends, migrated-untold}
use Rattle.cd_upkeep.proofs.migration.rewrite_and_print.Goals as goal

pub returns-in-Err : goal.returns-in-Err
returns-in-Err g c =
    unmigrated-ends g.H.Hash32.digest_of g.K.Keeper g.O.Sink c.args.keeper.now c.rewrite.new.keeper c.args.out.now c.in-Err.status c.in-Err.ensures.refused

pub returns-in-Ok-migrated_text : goal.returns-in-Ok-migrated_text
returns-in-Ok-migrated_text g c =
    migrated-ends g.H.Hash32.digest_of g.K.Keeper g.O.Sink c.args.keeper.now c.rewrite.new.keeper c.in-Ok.done c.as_bytes.result.now c.args.out.now c.print.new.out c.print.result
    c.in-Ok.ensures.done (c.as_bytes.ensures.value ∙ c.in-Ok-migrated_text.ensures) c.print.ensures

pub returns-in-Err-migrated_text : goal.returns-in-Err-migrated_text
returns-in-Err-migrated_text g c =
    migrated-untold g.H.Hash32.digest_of g.K.Keeper g.O.Sink c.args.keeper.now c.rewrite.new.keeper c.in-Ok.done c.args.out.now c.in-Ok.ensures.done
