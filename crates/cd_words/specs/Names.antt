-- Trusted: the names of the commands and of their options, and which command has which option.
use Rattle.std.specs.Prelude.{ℕ, ◌||◌, Bool, List, Option, Some, None, codes, if◌then◌else◌}
use Rattle.std.specs.Str.{bytes_eq}
use Rattle.cd_words.specs.declared.names.CommandName.{CommandName}
use Rattle.cd_words.specs.declared.names.CommandName.TheVariants as command
use Rattle.cd_words.specs.declared.names.OptionName.{OptionName}
use Rattle.cd_words.specs.declared.names.OptionName.TheVariants as option

abbrev pub command_named : List ℕ → Option CommandName
command_named word =
    if bytes_eq word (codes "zero") then Some command.Zero
    else if bytes_eq word (codes "replay") then Some command.Replay
    else if bytes_eq word (codes "run") then Some command.Run
    else if bytes_eq word (codes "check") then Some command.Check
    else if bytes_eq word (codes "export") then Some command.Export
    else if bytes_eq word (codes "gen") then Some command.Gen
    else if bytes_eq word (codes "migrate") then Some command.Migrate
    else None

abbrev pub option_named : List ℕ → Option OptionName
option_named name =
    if bytes_eq name (codes "workchain") then Some option.Workchain
    else if bytes_eq name (codes "file") then Some option.File
    else if bytes_eq name (codes "db") then Some option.Db
    else if bytes_eq name (codes "to") then Some option.To
    else if bytes_eq name (codes "id") then Some option.Id
    else if bytes_eq name (codes "max") then Some option.Max
    else if bytes_eq name (codes "number") then Some option.Number
    else None

abbrev pub name_of : OptionName → List ℕ
name_of option.Workchain = codes "workchain"
name_of option.File = codes "file"
name_of option.Db = codes "db"
name_of option.To = codes "to"
name_of option.Id = codes "id"
name_of option.Max = codes "max"
name_of option.Number = codes "number"

abbrev pub is_same : OptionName → OptionName → Bool
is_same a b = bytes_eq (name_of a) (name_of b)

-- the options of `zero`, of `replay` and `run`, of `check` and `migrate`, of `export` and of `gen`
abbrev pub takes : CommandName → OptionName → Bool
takes command.Zero o = is_same o option.Workchain || is_same o option.File || is_same o option.Db
takes command.Replay o = is_same o option.Db || is_same o option.To
takes command.Run o = is_same o option.Db || is_same o option.To
takes command.Check o = is_same o option.Db
takes command.Export o = is_same o option.Id || is_same o option.Max || is_same o option.Db || is_same o option.To
takes command.Gen o = is_same o option.Number
takes command.Migrate o = is_same o option.Db

-- the option without which a command can't be
abbrev pub needs : CommandName → Option OptionName
needs command.Export = Some option.Id
needs command.Gen = Some option.Number
needs _ = None
