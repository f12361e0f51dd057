-- Trusted: reading the words of a line from left to right: its command, and its options with their values.
use Rattle.std.specs.Prelude.{ℕ, ◌==◌, ◌&&◌, ◌||◌, not, Bool, true, List, [], ◌∷◌, ◌++◌, map, filter, find}
use Rattle.std.specs.Prelude.{Option, Some, None, is_some, option_map, option_and_then, if◌then◌else◌}
use Rattle.std.specs.Option.{option_map_or}
use Rattle.cd_block.specs.Parsing.{behind, around}
use Rattle.cd_words.specs.declared.names.CommandName.{CommandName}
use Rattle.cd_words.specs.declared.names.OptionName.{OptionName}
use Rattle.cd_words.specs.declared.names.OptionName.TheVariants.{To}
use Rattle.cd_words.specs.Names.{command_named, option_named, is_same, takes, needs}

abbrev pub Text : Type 0
Text = List ℕ

-- options with their values, in the order of their words
abbrev pub Given : Type 0
Given = List (OptionName × Text)

-- the first value of an option
abbrev pub value_of : OptionName → Given → Option Text
value_of option given = option_map (λ g. g.1) (find (λ g. is_same g.0 option) given)

abbrev pub is_given : OptionName → Given → Bool
is_given option given = is_some (value_of option given)

-- an option of the command that is not given yet; `--to` may be given again
abbrev pub may_come : CommandName → OptionName → Given → Bool
may_come command option given = takes command option && (is_same option To || not (is_given option given))

-- what a word `--name` or `--name=value` says: the option, and the value behind the first `=` (61)
abbrev pub option_with : Option (Text × Text) → Text → Option (OptionName × Option Text)
option_with None name = option_map (λ o. (o, None)) (option_named name)
option_with (Some parts) name = option_map (λ o. (o, Some parts.1)) (option_named parts.0)

abbrev pub option_in : Text → Option (OptionName × Option Text)
option_in word = option_and_then (λ one. option_and_then (λ name. option_with (around 61 name) name) (behind 45 one)) (behind 45 word)

-- a word that may be the value of the option before it: it doesn't begin with a hyphen (45), though it may be one
abbrev pub is_value : Text → Bool
is_value [] = true
is_value (c ∷ []) = true
is_value (c ∷ d ∷ rest) = not (c == 45)

-- what the words behind a command have said so far: options with values, and the option whose value is due
pub record Said : Type 0 where
  pub given : Given
  pub due : Option OptionName

abbrev pub nothing_said : Said
nothing_said = record { given = []; due = None }

abbrev pub with_option : Given → OptionName → Option Text → Said
with_option given option None = record { given = given; due = Some option }
with_option given option (Some value) = record { given = given ++ (option, value) ∷ []; due = None }

-- a word where no value is due, and one where the value of an option is
abbrev pub option_said : CommandName → Given → Option (OptionName × Option Text) → Option Said
option_said command given None = None
option_said command given (Some o) =
    if may_come command o.0 given then Some (with_option given o.0 o.1) else None

abbrev pub value_said : Given → OptionName → Text → Option Said
value_said given option word =
    if is_same option To || is_value word then Some (with_option given option (Some word)) else None

abbrev pub said_by : CommandName → Given → Option OptionName → Text → Option Said
said_by command given None word = option_said command given (option_in word)
said_by command given (Some option) word = value_said given option word

-- what further words say
unfoldable pub words_said : CommandName → Said → List Text → Option Said
words_said command said [] = Some said
words_said command said (word ∷ words) =
    option_and_then (λ s. words_said command s words) (said_by command said.given said.due word)

-- no value is due, and the option is given without which the command can't be
abbrev pub is_whole : CommandName → Said → Bool
is_whole command said =
    not (is_some said.due) && option_map_or (λ option. is_given option said.given) (needs command) true

abbrev pub given_by : CommandName → Option Said → Option Given
given_by command None = None
given_by command (Some said) = if is_whole command said then Some said.given else None

-- the options that words give to a command
abbrev pub options_of : CommandName → List Text → Option Given
options_of command words = given_by command (words_said command nothing_said words)

pub record Line : Type 0 where
  pub command : CommandName
  pub given : Given

-- the line that words are, if they are a command with options of its own
abbrev pub line_of : List Text → Option Line
line_of [] = None
line_of (word ∷ words) = option_and_then (λ command.
    option_map (λ given. record { command = command; given = given }) (options_of command words)) (command_named word)

-- the values of `--to`, in their order
abbrev pub paths_of : Given → List Text
paths_of given = map (λ g. g.1) (filter (λ g. is_same g.0 To) given)
