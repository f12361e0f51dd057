use Rattle.std.proofs.Common.{rules}
use Rattle.inspect_lines.proofs.LineLaws.{parts_joined}
use Rattle.inspect_lines.proofs.line.lines_of.Goals as goal

pub returns-clause-joined : goal.returns-clause-joined
returns-clause-joined c = search (rules, parts_joined)
