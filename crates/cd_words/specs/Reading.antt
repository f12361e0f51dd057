-- Trusted: what words are read as, and why they are refused.
use Rattle.std.specs.Prelude.{◌≡◌, List, [], ◌∷◌, codes, Some, None}
use Rattle.cd_words.specs.declared.command.Command.{Command}
use Rattle.cd_words.specs.declared.fault.WordFault.{WordFault}
use Rattle.cd_words.specs.declared.fault.WordFault.TheVariants as fault
use Rattle.cd_words.specs.Lines.{Text, Line, line_of, paths_of}
use Rattle.cd_words.specs.Values.{AreSpelt, IsFirstBad, HasNeeded, Spells}

-- the words are this line, and each of its values is one that its option may have
pub record IsSpeltLine (words : List Text) (line : Line) : Type 0 where
  pub line_is : line_of words ≡ Some line
  pub spelt : AreSpelt line.given
  pub needed : HasNeeded line

-- the words are a line of this command, with its values
abbrev pub HasCommand : List Text → Command → Type 0
HasCommand words command = (line : Line) × IsSpeltLine words line × Spells line command

-- the words are a line with these paths of `--to`
abbrev pub HasPaths : List Text → List Text → Type 0
HasPaths words paths = (line : Line) × IsSpeltLine words line × (paths ≡ paths_of line.given)

-- the words are no line; or the first value that its option can't have is of this one; or memory ran out
abbrev pub IsRefusal : List Text → WordFault → Type 0
IsRefusal words fault.Usage = line_of words ≡ None
IsRefusal words (fault.BadValue option) = (line : Line) × (line_of words ≡ Some line) × IsFirstBad option line.given
IsRefusal words fault.Memory = Unit {0}

abbrev pub BeginsWithRun : List Text → Type 0
BeginsWithRun [] = ⊥
BeginsWithRun (word ∷ words) = word ≡ codes "run"
