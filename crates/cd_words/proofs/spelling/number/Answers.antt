use Rattle.std.proofs.Common.{◌≡◌, ℕ, ◌^◌, List, Option, Some, None, IfSome, sym, ap, ◌∙◌, arith}
use Rattle.std.specs.Fmt.{decimal}
use Rattle.cd_block.specs.Parsing.{number_of}
use Rattle.cd_block.proofs.Numbers.{number_of_some, number_of-decimal}
use Rattle.cd_words.proofs.spelling.number.Goals as goal

found : (text : List ℕ) (r : Option ℕ) → r ≡ number_of (2 ^ 64) text → IfSome r (λ n. text ≡ decimal n)
found text None e = tt
found text (Some n) e = (number_of_some (2 ^ 64) text n (omega arith) (sym e)).0

pub returns-clause-found : goal.returns-clause-found
returns-clause-found c = found c.args.text.now c.decimal.result c.decimal.ensures

pub returns-clause-only : goal.returns-clause-only
returns-clause-only c = λ n small e. c.decimal.ensures ∙ ap (number_of (2 ^ 64)) e ∙ number_of-decimal (2 ^ 64) n small small
