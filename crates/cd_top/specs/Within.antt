-- Inner: the values of a command's work.
use Rattle.std.specs.Prelude.{◌≤◌}
use Rattle.cd_slices.specs.declared.export.TheConstants.{MOST_SLICE}
use Rattle.cd_top.specs.declared.work.Work.{Work}
use Rattle.cd_top.specs.declared.work.Work.TheVariants as work

-- a piece of an export has a byte, and no more than a slice may have
abbrev pub IsWithin : Work → Type 0
IsWithin (work.Export id max) = (1 ≤ max) × (max ≤ MOST_SLICE)
IsWithin _ = Unit {0}
