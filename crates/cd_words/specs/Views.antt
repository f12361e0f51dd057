-- Trusted: what the lists of the code have, as lists of the definitions.
use Rattle.std.specs.Prelude.{◌≡◌, List, [], ◌∷◌, ◌++◌, map, Option, Some, None}
use Rattle.cd_words.specs.declared.fault.WordFault.{WordFault}
use Rattle.cd_words.specs.declared.fault.WordFault.TheVariants as fault
use Rattle.cd_words.specs.declared.line.Given.{Given as GivenItem}
use Rattle.cd_words.specs.declared.line.Line.{Line as LineItem}
use Rattle.cd_words.specs.declared.line.Said.{Said as SaidItem}
use Rattle.cd_words.specs.declared.line.Said.TheVariants as said
use Rattle.cd_words.specs.declared.names.OptionName.{OptionName}
use Rattle.cd_words.specs.Lines.{Given, Said, Line}

abbrev pub given_in : List GivenItem → Given
given_in = map (λ g. (g.option, g.value.now))

abbrev pub line_in : LineItem → Line
line_in line = record { command = line.command; given = given_in line.given.items }

abbrev pub said_now : List GivenItem → Option OptionName → Said
said_now given due = record { given = given_in given; due = due }

-- what is said after a word that said this
abbrev pub said_after : Given → SaidItem → Said
said_after given (said.Due option) = record { given = given; due = Some option }
said_after given (said.Given item) = record { given = given ++ (item.option, item.value.now) ∷ []; due = None }

-- a usage fault comes only where nothing is read
abbrev pub IsRefused : {X : Type 0} → Option X → WordFault → Type 0
IsRefused read fault.Usage = read ≡ None
IsRefused read (fault.BadValue option) = ⊥
IsRefused read fault.Memory = Unit {0}
