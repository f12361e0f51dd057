-- Vectors of the definitions: the modes that plain lines ask for, lines that show a text, and lines that are unknown.
use Rattle.std.proofs.Common.{◌≡◌, List, [], ◌∷◌, Some, None, map, codes, refl}
use Rattle.clap.specs.Words.{Text, fault_of}
use Rattle.clap.specs.declared.error.kind.ErrorKind.TheVariants as kind
use Rattle.clap.proofs.OnLiterals.{clap_on_literals}
use Rattle.inspect_words.specs.Commands.{inspect}
use Rattle.inspect_words.specs.Modes.{asked_mode}
use Rattle.inspect_words.specs.declared.mode.Mode.TheVariants as mode

abbrev raw : Text
raw = codes "--raw"

abbrev export : Text
export = codes "--export"

abbrev levels : Text
levels = codes "--levels"

abbrev bags_with : List Text → List Text
bags_with flags = codes "bags" ∷ flags

pub bags_modes : map (λ flags. asked_mode (bags_with flags))
    ([] ∷ (raw ∷ []) ∷ (export ∷ []) ∷ (levels ∷ []) ∷ (raw ∷ export ∷ []) ∷ (export ∷ raw ∷ []) ∷ (raw ∷ levels ∷ []) ∷ (levels ∷ raw ∷ []) ∷ [])
    ≡ map (λ m. Some m) (mode.Lines ∷ mode.Raw ∷ mode.Export ∷ mode.Levels ∷ mode.Export ∷ mode.Export ∷ mode.RawLevels ∷ mode.RawLevels ∷ [])
unfolding clap_on_literals
bags_modes = refl

pub updates_mode : asked_mode (codes "updates" ∷ []) ≡ Some mode.Updates
unfolding clap_on_literals
updates_mode = refl

pub merged_mode : asked_mode (codes "merged" ∷ []) ≡ Some mode.Merged
unfolding clap_on_literals
merged_mode = refl

pub feed_mode : asked_mode (codes "feed" ∷ []) ≡ Some mode.Feed
unfolding clap_on_literals
feed_mode = refl

pub unknown_lines : map asked_mode
    ([] ∷ (raw ∷ []) ∷ (codes "bag" ∷ []) ∷ bags_with (raw ∷ raw ∷ []) ∷ bags_with (levels ∷ export ∷ []) ∷ bags_with (codes "x" ∷ []) ∷ (codes "updates" ∷ raw ∷ []) ∷ [])
    ≡ None ∷ None ∷ None ∷ None ∷ None ∷ None ∷ None ∷ []
unfolding clap_on_literals
unknown_lines = refl

pub help_lines : map (fault_of inspect)
    ((codes "--help" ∷ []) ∷ (codes "-h" ∷ []) ∷ bags_with (codes "--help" ∷ []) ∷ bags_with (raw ∷ codes "-h" ∷ []) ∷ (codes "updates" ∷ codes "--help" ∷ []) ∷ [])
    ≡ (kind.DisplayHelp ∷ []) ∷ (kind.DisplayHelp ∷ []) ∷ (kind.DisplayHelp ∷ []) ∷ (kind.DisplayHelp ∷ []) ∷ (kind.DisplayHelp ∷ []) ∷ []
unfolding clap_on_literals
help_lines = refl

pub version_line : fault_of inspect (codes "--version" ∷ []) ≡ kind.DisplayVersion ∷ []
unfolding clap_on_literals
version_line = refl
