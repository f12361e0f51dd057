-- Trusted: plain lines, which are never refused.
use Rattle.std.specs.Prelude.{◌≡◌, ◌≢◌, ◌⊎◌, List, [], ◌∷◌, ◌++◌, map, flat_map, Bool, true, false, codes, if◌then◌else◌}
use Rattle.std.specs.List.{AllByRecursion}
use Rattle.cd_words.specs.declared.names.CommandName.{CommandName}
use Rattle.cd_words.specs.declared.names.CommandName.TheVariants as command
use Rattle.cd_words.specs.declared.names.OptionName.{OptionName}
use Rattle.cd_words.specs.declared.names.OptionName.TheVariants.{To}
use Rattle.cd_words.specs.Lines.{Text, Line}
use Rattle.cd_words.specs.Names.{name_of, is_same, takes}
use Rattle.cd_words.specs.Spelling.{HasSpelling}
use Rattle.cd_words.specs.Values.{HasNeeded}

abbrev pub command_text : CommandName → Text
command_text command.Zero = codes "zero"
command_text command.Replay = codes "replay"
command_text command.Run = codes "run"
command_text command.Check = codes "check"
command_text command.Export = codes "export"
command_text command.Gen = codes "gen"
command_text command.Migrate = codes "migrate"

-- an option with its value, as one word `--name=value` or as the two words `--name` and `value`
pub record PlainOption : Type 0 where
  pub option : OptionName
  pub value : Text
  pub in_one_word : Bool

abbrev pub option_words : PlainOption → List Text
option_words o =
    if o.in_one_word then (codes "--" ++ name_of o.option ++ codes "=" ++ o.value) ∷ []
    else (codes "--" ++ name_of o.option) ∷ o.value ∷ []

pub record PlainLine : Type 0 where
  pub command : CommandName
  pub options : List PlainOption

abbrev pub words_of : PlainLine → List Text
words_of line = command_text line.command ∷ flat_map option_words line.options

-- the text isn't empty, and doesn't begin with a hyphen (45)
abbrev pub IsPlainText : Text → Type 0
IsPlainText [] = ⊥
IsPlainText (c ∷ text) = c ≢ 45

-- an option that the command has, with a value that it may have
pub record IsPlainOption (command : CommandName) (o : PlainOption) : Type 0 where
  pub taken : takes command o.option ≡ true
  pub spelt : HasSpelling o.option o.value
  pub text : IsPlainText o.value

-- no option but `--to` comes again
abbrev pub ComeOnce : List PlainOption → Type 0
ComeOnce [] = Unit {0}
ComeOnce (o ∷ options) =
    ((o.option ≡ To) ⊎ AllByRecursion (λ p. is_same o.option p.option ≡ false) options) × ComeOnce options

-- what a plain line means
abbrev pub meant : PlainLine → Line
meant line = record { command = line.command; given = map (λ o. (o.option, o.value)) line.options }

-- the command's own options, each once but `--to`, and the one without which the command can't be
pub record IsPlain (line : PlainLine) : Type 0 where
  pub options : AllByRecursion (IsPlainOption line.command) line.options
  pub once : ComeOnce line.options
  pub needed : HasNeeded (meant line)
