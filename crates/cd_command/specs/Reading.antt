-- Trusted: what a call that reads its input to the end did to the source, by how that ended.
use Rattle.std.specs.Prelude.{◌≡◌, ℕ, ◌<◌, ◌≤◌, List, length, IfSome}
use Rattle.cd_base.specs.declared.source.Source.{Ghosts as SourceGhosts}
use Rattle.cd_base.specs.Counts.{Rose}
use Rattle.cd_base.specs.Told.{IsAtEnd}
use Rattle.cd_command.specs.declared.limits.TheConstants.{INPUT_LIMIT}
use Rattle.cd_command.specs.declared.status.Status.{Status}
use Rattle.cd_command.specs.declared.status.Status.TheVariants as status
use Rattle.cd_command.specs.declared.status.InputFault.TheVariants as input
use Rattle.cd_command.specs.Printing.{NoFault}

-- A source S is seen by what its trait tells of it, before the call and after it.
module _ {S : Type 0} (s : SourceGhosts S) where
  -- the input was these bytes, and was read to its end without a fault
  pub record IsInput (bytes : List ℕ) (old new : S) : Type 0 where
    pub all : IfSome (s.left old) (λ left. left ≡ bytes)
    pub end : IsAtEnd (s.left new)
    pub within : length bytes ≤ INPUT_LIMIT
    pub steady : NoFault (s.faults old) (s.faults new)

  -- it was longer than an input may be, and was read as far without a fault
  pub record IsLong (old new : S) : Type 0 where
    pub more : IfSome (s.left old) (λ left. INPUT_LIMIT < length left)
    pub steady : NoFault (s.faults old) (s.faults new)

  -- it was not read to its end, as this status says: it is too long, the source failed, or memory ran out
  abbrev pub IsUnread : S → S → Status → Type 0
  IsUnread old new (status.BadInput (input.Long limit)) = (limit ≡ INPUT_LIMIT) × IsLong old new
  IsUnread old new status.ReadFault = Rose (s.faults old) (s.faults new)
  IsUnread old new status.Memory = NoFault (s.faults old) (s.faults new)
  IsUnread old new _ = ⊥
