use Rattle.std.proofs.Common.{map, string_bytes, sym, subst}
use Rattle.cd_top.specs.Call.{EndsUntaken, IsForRun}
use Rattle.cd_top.proofs.WordLaws.{found-line, line-within, other-line, refused-line}
use Rattle.cd_top.proofs.work.work_of.Goals as goal

pub returns-in-Ok-clause-found : goal.returns-in-Ok-clause-found
returns-in-Ok-clause-found c = found-line (map string_bytes c.args.words.now) c.in-Ok.command c.in-Ok.ensures.found c.work_in.result c.work_in.ensures

pub returns-in-Ok-clause-within : goal.returns-in-Ok-clause-within
returns-in-Ok-clause-within c = line-within (map string_bytes c.args.words.now) c.in-Ok.command c.in-Ok.ensures.found c.work_in.result c.work_in.ensures

pub returns-in-Ok-clause-other : goal.returns-in-Ok-clause-other
returns-in-Ok-clause-other c = other-line (map string_bytes c.args.words.now) c.in-Ok.command c.in-Ok.ensures.found c.work_in.result c.work_in.ensures

pub returns-in-Err-clause-other : goal.returns-in-Err-clause-other
returns-in-Err-clause-other c =
    subst (EndsUntaken IsForRun (map string_bytes c.args.words.now)) (sym c.status_by.ensures) (refused-line IsForRun (map string_bytes c.args.words.now) c.in-Err.fault c.in-Err.ensures.refused)
