use Rattle.std.proofs.Common.{drop}
use Rattle.cd_words.specs.Values.{AreSpelt, IsFirstBad}
use Rattle.cd_words.specs.Views.{given_in}
use Rattle.cd_words.specs.declared.names.OptionName.{OptionName}
use Rattle.cd_words.proofs.values.first_bad.Given as goal

abbrev pub invariant-loop-item : goal.invariant-loop-item
invariant-loop-item l =
    (AreSpelt (given_in (drop l.item-index l.given)) → AreSpelt (given_in l.given))
    × ((option : OptionName) → IsFirstBad option (given_in (drop l.item-index l.given)) → IsFirstBad option (given_in l.given))
