use Rattle.std.proofs.Common.{map, string_bytes, sym, subst}
use Rattle.cd_top.specs.Call.{EndsUntaken, IsForOnce}
use Rattle.cd_top.proofs.WordLaws.{once-line, refused-line}
use Rattle.cd_top.proofs.work.take_run.Goals as goal
