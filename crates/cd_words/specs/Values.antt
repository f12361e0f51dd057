-- Trusted: the command that a line spells, and which of its values is refused.
use Rattle.std.specs.Prelude.{◌≡◌, ◌⊎◌, ℕ, ℤ, pos, negsuc, List, [], ◌∷◌, map, replicate, true, Option, Some, None, option_map, String, string_bytes}
use Rattle.std.specs.Option.{option_map_or}
use Rattle.cd_base.specs.declared.hash.Hash256.{Hash256}
use Rattle.cd_block.specs.declared.block.BlockId.{BlockId}
use Rattle.cd_words.specs.declared.command.Command.{Command}
use Rattle.cd_words.specs.declared.command.Command.TheVariants as is
use Rattle.cd_words.specs.declared.names.CommandName.TheVariants as command
use Rattle.cd_words.specs.declared.names.OptionName.{OptionName}
use Rattle.cd_words.specs.declared.names.OptionName.TheVariants as option
use Rattle.cd_words.specs.Names.{needs}
use Rattle.cd_words.specs.Spelling.{HasSpelling, IsWorkchain, IsHex, IsId, IsMax, IsFeedNumber}
use Rattle.cd_words.specs.Lines.{Text, Given, Line, value_of, is_given, paths_of}

-- each value is one that its option may have
abbrev pub AreSpelt : Given → Type 0
AreSpelt [] = Unit {0}
AreSpelt (g ∷ given) = HasSpelling g.0 g.1 × AreSpelt given

-- of the values that are not, the first is of this option
abbrev pub IsFirstBad : OptionName → Given → Type 0
IsFirstBad option [] = ⊥
IsFirstBad option (g ∷ given) =
    ((g.0 ≡ option) × ¬ HasSpelling g.0 g.1) ⊎ (HasSpelling g.0 g.1 × IsFirstBad option given)

-- the option is given without which the command can't be
abbrev pub HasNeeded : Line → Type 0
HasNeeded line = option_map_or (λ option. is_given option line.given) (needs line.command) true ≡ true

-- the values of options, and what stands where an option isn't given: workchain -1, a hash of zeros, 2 MiB
abbrev pub WorkchainIs : Option Text → ℤ → Type 0
WorkchainIs None workchain = workchain ≡ negsuc 0
WorkchainIs (Some text) workchain = (n : ℕ) × IsWorkchain text n × (workchain ≡ pos n)

abbrev pub FileIs : Option Text → Hash256 → Type 0
FileIs None file = file ≡ record { 0 = replicate 32 0 }
FileIs (Some text) file = IsHex text file

abbrev pub IdIs : Option Text → BlockId → Type 0
IdIs None id = ⊥
IdIs (Some text) id = IsId text id

abbrev pub MaxIs : Option Text → ℕ → Type 0
MaxIs None max = max ≡ 2097152
MaxIs (Some text) max = IsMax text max

abbrev pub NumberIs : Option Text → ℕ → Type 0
NumberIs None number = ⊥
NumberIs (Some text) number = IsFeedNumber text number

abbrev pub DbIs : {Z : Type 0} → Given → Option (String Z) → Type 0
DbIs given db = option_map string_bytes db ≡ value_of option.Db given

abbrev pub ToAre : {Z : Type 0} → Given → List (String Z) → Type 0
ToAre given to = map string_bytes to ≡ paths_of given

-- the line is this command with these values
abbrev pub Spells : Line → Command → Type 0
Spells line (is.Zero workchain file db) = (line.command ≡ command.Zero)
    × WorkchainIs (value_of option.Workchain line.given) workchain
    × FileIs (value_of option.File line.given) file × DbIs line.given db
Spells line (is.Replay db to) = (line.command ≡ command.Replay) × DbIs line.given db × ToAre line.given to.items
Spells line (is.Run db to) = (line.command ≡ command.Run) × DbIs line.given db × ToAre line.given to.items
Spells line (is.Check db) = (line.command ≡ command.Check) × DbIs line.given db
Spells line (is.Export id max db to) = (line.command ≡ command.Export)
    × IdIs (value_of option.Id line.given) id × MaxIs (value_of option.Max line.given) max
    × DbIs line.given db × ToAre line.given to.items
Spells line (is.Gen number) = (line.command ≡ command.Gen) × NumberIs (value_of option.Number line.given) number
Spells line (is.Migrate db) = (line.command ≡ command.Migrate) × DbIs line.given db
