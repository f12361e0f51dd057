use Rattle.std.proofs.Common.{◌≡◌, List, ℕ, Option, Some, None, IfSome, option_map, Bor, sym}
use Rattle.cd_words.specs.Lines.{Given, value_of}
use Rattle.cd_words.specs.Spelling.{HasSpelling}
use Rattle.cd_words.specs.Values.{AreSpelt}
use Rattle.cd_words.specs.Views.{given_in}
use Rattle.cd_words.specs.declared.names.OptionName.{OptionName}
use Rattle.cd_words.proofs.ValueLaws.{value_spelt}
use Rattle.cd_words.proofs.values.spelt_value.Goals as goal

spelt : (o : OptionName) (given : Given) (r : Option (Bor (List ℕ))) → AreSpelt given → option_map (λ v. v.now) r ≡ value_of o given → IfSome r (λ v. HasSpelling o v.now)
spelt o given None are e = tt
spelt o given (Some v) are e = value_spelt o given v.now are (sym e)

pub returns-clause-spelt : goal.returns-clause-spelt
returns-clause-spelt c = spelt c.args.option (given_in c.args.given.now) c.value_of.result c.requires c.value_of.ensures
