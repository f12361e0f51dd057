-- Trusted: what reading a source to its end does to the bytes that it has left, before and after.
use Rattle.std.specs.Prelude.{◌≡◌, ℕ, ◌+◌, ◌<◌, ◌≤◌, Option, List, length, IfSome}
use Rattle.cd_base.specs.declared.read_all_fault.ReadAllFault.{ReadAllFault}
use Rattle.cd_base.specs.declared.read_all_fault.ReadAllFault.TheVariants.{Failed, Long, Memory}
use Rattle.cd_base.specs.Told.{Gave, GaveSome, IsAtEnd}

-- these bytes are all that was left, and no more than the limit
pub record IsReadWhole (limit : ℕ) (old new : Option (List ℕ)) (bytes : List ℕ) : Type 0 where
  pub gave : Gave old new bytes
  pub end : IsAtEnd new
  pub all : IfSome old (λ left. left ≡ bytes)
  pub within : length bytes ≤ limit

-- more bytes were left than the limit, and one more than the limit are gone
pub record IsTooLong (limit : ℕ) (old new : Option (List ℕ)) : Type 0 where
  pub gave : GaveSome old new (λ bytes. length bytes ≡ limit + 1)
  pub more : IfSome old (λ left. limit < length left)

-- what is gone where reading stopped before the end
abbrev pub IsReadStopped : ℕ → Option (List ℕ) → Option (List ℕ) → ReadAllFault → Type 0
IsReadStopped limit old new Failed = GaveSome old new (λ bytes. length bytes ≤ limit)
IsReadStopped limit old new (Long stated) = (stated ≡ limit) × IsTooLong limit old new
IsReadStopped limit old new Memory = GaveSome old new (λ bytes. length bytes ≤ limit)
