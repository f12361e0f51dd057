use Rattle.std.proofs.Common.{◌≡◌, drop}
use Rattle.cd_words.specs.Lines.{value_of}
use Rattle.cd_words.specs.Views.{given_in}
use Rattle.cd_words.proofs.line.value_of.Given as goal

abbrev pub invariant-loop-item : goal.invariant-loop-item
invariant-loop-item l =
    value_of l.option (given_in l.given) ≡ value_of l.option (given_in (drop l.item-index l.given))
