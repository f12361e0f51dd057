-- Trusted: the database and the clients' files that words name.
use Rattle.std.specs.Prelude.{◌≡◌, ◌⊎◌, ℕ, List, [], map, Option, Some, None, string_bytes, option_map}
use Rattle.cd_words.specs.declared.command.Command.{Command}
use Rattle.cd_words.specs.declared.command.Command.TheVariants as command
use Rattle.cd_words.specs.Reading.{HasCommand}
use Rattle.cd_fan.specs.declared.file_client.FileFault.{FileFault}
use Rattle.cd_fan.specs.declared.file_client.FileFault.TheVariants as file
use Rattle.cd_keeper.specs.declared.fault.KeepFault.{KeepFault}
use Rattle.cd_keeper.specs.declared.fault.KeepFault.TheVariants as keep
use Rattle.cd_command.specs.declared.status.Status.{Status}
use Rattle.cd_command.specs.declared.status.Status.TheVariants as status

-- the status where the keeper over it can't be opened
abbrev pub keeper_status : KeepFault → Status
keeper_status keep.Failed = status.KeeperFault
keeper_status keep.Memory = status.Memory

-- the path that a command names
abbrev pub path_in : Command → Option (List ℕ)
path_in (command.Zero workchain file db) = option_map string_bytes db
path_in (command.Replay db to) = option_map string_bytes db
path_in (command.Run db to) = option_map string_bytes db
path_in (command.Check db) = option_map string_bytes db
path_in (command.Export id max db to) = option_map string_bytes db
path_in (command.Gen number) = None
path_in (command.Migrate db) = option_map string_bytes db

-- the words are a command that names this path; or no command that they are names one
abbrev pub IsDatabase : List (List ℕ) → Option (List ℕ) → Type 0
IsDatabase words (Some path) = (c : Command) × HasCommand words c × (path_in c ≡ Some path)
IsDatabase words None = (c : Command) → HasCommand words c → path_in c ≡ None

-- the status where a client's file can't be made
abbrev pub client_status : FileFault → Status
client_status file.Failed = status.ClientFault
client_status file.Memory = status.Memory

-- the paths of the files that a command sends to
abbrev pub files_in : Command → List (List ℕ)
files_in (command.Replay db to) = map string_bytes to.items
files_in (command.Run db to) = map string_bytes to.items
files_in (command.Export id max db to) = map string_bytes to.items
files_in _ = []

-- the words are a command that sends to these files; or they are no command, and name none
abbrev pub AreFiles : List (List ℕ) → List (List ℕ) → Type 0
AreFiles words paths = ((c : Command) × HasCommand words c × (paths ≡ files_in c))
    ⊎ (((c : Command) → HasCommand words c → ⊥) × (paths ≡ []))
