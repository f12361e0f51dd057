use Rattle.std.proofs.Common.{◌≡◌, ◌++◌, drop, map, string_bytes}
use Rattle.cd_words.specs.Lines.{paths_of}
use Rattle.cd_words.specs.Views.{given_in}
use Rattle.cd_words.proofs.values.paths_of.Given as goal

abbrev pub invariant-loop-item : goal.invariant-loop-item
invariant-loop-item l =
    paths_of (given_in l.given) ≡ map string_bytes l.paths.items ++ paths_of (given_in (drop l.item-index l.given))
