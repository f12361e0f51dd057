-- Trusted: what words ask for, by what a parse of them finds.
use Rattle.std.specs.Prelude.{◌≡◌, ◌⊎◌, ⊤, Bool, true, false, List, [], ◌∷◌, Option, Some, None, codes, string_bytes, if◌then◌else◌}
use Rattle.std.specs.Option.{option_map_or}
use Rattle.std.specs.Str.{bytes_eq}
use Rattle.clap.specs.Words.{Row, Text, first_of, subcommand_of, fault_of, Kinds, IsAmong}
use Rattle.clap.specs.declared.error.kind.ErrorKind.{ErrorKind}
use Rattle.clap.specs.declared.error.kind.ErrorKind.TheVariants as kind
use Rattle.inspect_words.specs.Commands.{inspect}
use Rattle.inspect_words.specs.declared.mode.Mode.{Mode}
use Rattle.inspect_words.specs.declared.mode.Mode.TheVariants as mode
use Rattle.inspect_words.specs.declared.asked.Asked.{Asked}
use Rattle.inspect_words.specs.declared.asked.Asked.TheVariants as asked

-- a flag is given
abbrev pub is_set : Text → List Row → Bool
is_set flag rows = option_map_or (λ value. bytes_eq value (codes "true")) (first_of flag rows) false

-- the mode of `bags` by its flags `--raw`, `--export` and `--levels`; the last two exclude each other
abbrev pub bags_mode : Bool → Bool → Bool → Option Mode
bags_mode false false false = Some mode.Lines
bags_mode true false false = Some mode.Raw
bags_mode raw true false = Some mode.Export
bags_mode false false true = Some mode.Levels
bags_mode true false true = Some mode.RawLevels
bags_mode raw true true = None

abbrev pub command_mode : Text → List Row → Option Mode
command_mode name rows =
    if bytes_eq name (codes "bags")
    then bags_mode (is_set (codes "raw") rows) (is_set (codes "export") rows) (is_set (codes "levels") rows)
    else (if bytes_eq name (codes "updates") then Some mode.Updates
    else (if bytes_eq name (codes "merged") then Some mode.Merged
    else (if bytes_eq name (codes "feed") then Some mode.Feed else None)))

-- the mode by the command that was found, and its flags
abbrev pub mode_in : Option (Text × List Row) → Option Mode
mode_in found = option_map_or (λ f. command_mode f.0 f.1) found None

abbrev pub command_path : Text → List Row → Option Text
command_path name rows = if bytes_eq name (codes "store") then first_of (codes "PATH") rows else None

-- the path of a database file by the command that was found, and its value
abbrev pub path_in : Option (Text × List Row) → Option Text
path_in found = option_map_or (λ f. command_path f.0 f.1) found None

abbrev pub unless_at_fault : {T : Type 0} → Kinds → Option T → Option T
unless_at_fault [] wanted = wanted
unless_at_fault (k ∷ ks) wanted = None

-- the mode that words ask for: a parse finds no fault in them, and finds its command and flags
abbrev pub asked_mode : List Text → Option Mode
asked_mode words = unless_at_fault (fault_of inspect words) (mode_in (subcommand_of inspect words))

-- the path of the database file that words ask about
abbrev pub asked_path : List Text → Option Text
asked_path words = unless_at_fault (fault_of inspect words) (path_in (subcommand_of inspect words))

-- the words ask for nothing that the program does
abbrev pub AskNothing : List Text → Type 0
AskNothing words = (asked_mode words ≡ None) × (asked_path words ≡ None)

abbrev pub mode_of : Asked → Option Mode
mode_of (asked.Work m) = Some m
mode_of _ = None

abbrev pub path_of : Asked → Option Text
path_of (asked.Store path) = Some (string_bytes path)
path_of _ = None

abbrev pub IsText : Asked → Type 0
IsText (asked.Text text) = ⊤
IsText _ = ⊥

abbrev pub IsOfText : ErrorKind → Type 0
IsOfText k = (k ≡ kind.DisplayHelp) ⊎ (k ≡ kind.DisplayVersion)

-- help or the version is among what a parse may answer at the words; it is all that it may answer
abbrev pub MayShowText : List Text → Type 0
MayShowText words = IsAmong kind.DisplayHelp (fault_of inspect words) ⊎ IsAmong kind.DisplayVersion (fault_of inspect words)

abbrev pub ShowsText : List Text → Type 0
ShowsText words = (fault_of inspect words ≡ kind.DisplayHelp ∷ []) ⊎ (fault_of inspect words ≡ kind.DisplayVersion ∷ [])
