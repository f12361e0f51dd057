use Rattle.std.proofs.Common.{◌≡◌, ◌++◌, take, string_bytes}
use Rattle.inspect_bags.specs.Texts.{lines_of_infos}
use Rattle.inspect_bags.proofs.texts.push_infos.Given as goal

abbrev pub invariant-loop-info : goal.invariant-loop-info
invariant-loop-info l = string_bytes l.text ≡ string_bytes l.initial.text ++ lines_of_infos (take l.info-index l.infos)
