-- Trusted: what clients got of a text, and how it ended for each.
use Rattle.std.specs.Prelude.{◌≡◌, ◌⊎◌, ℕ, ◌%◌, ◌<◌, Bool, true, false, List, length, take, All, count_by, Option, IfSome, Result, Err}
use Rattle.cd_event.specs.declared.faults.LookFault.TheVariants.{Keeper}
use Rattle.cd_fan.specs.declared.client_end.ClientEnd.{ClientEnd}
use Rattle.cd_fan.specs.declared.client_end.ClientEnd.TheVariants.{Done, Failed}
use Rattle.cd_fan.specs.declared.fan_fault.FanFault.{FanFault}
use Rattle.cd_fan.specs.declared.fan_fault.FanFault.TheVariants.{Look}
use Rattle.cd_fan.specs.Ends.{is_done}

-- the bytes begin a text
abbrev pub IsPrefix : List ℕ → List ℕ → Type 0
IsPrefix text bytes = (count : ℕ) × (bytes ≡ take count text)

module _ {C : Type 0} (got : C → Option (List ℕ)) where
  -- each client that tells has got exactly this text
  abbrev pub HaveGot : List ℕ → List C → Type 0
  HaveGot text clients = All (λ c. IfSome (got c) (λ bytes. bytes ≡ text)) clients

  -- each client that tells has got a prefix of it
  abbrev pub HaveGotPart : List ℕ → List C → Type 0
  HaveGotPart text clients = All (λ c. IfSome (got c) (IsPrefix text)) clients

  -- each client that tells has got so many bytes
  abbrev pub HaveGotBytes : ℕ → List C → Type 0
  HaveGotBytes count clients = All (λ c. IfSome (got c) (λ bytes. length bytes ≡ count)) clients

-- it ended well, after the whole text; or it failed, after a whole number of pieces or the whole text
abbrev pub IsEnd : ℕ → ℕ → ClientEnd → Type 0
IsEnd len max (Done bytes) = bytes ≡ len
IsEnd len max (Failed bytes) = (bytes ≡ len) ⊎ ((bytes < len) × (bytes % max ≡ 0))

-- an end for each client, and so many are left that ended well
pub record AreEnds (len max old new : ℕ) (ends : List ClientEnd) : Type 0 where
  pub count : length ends ≡ old
  pub done : count_by is_done ends ≡ new
  pub each : All (IsEnd len max) ends

-- whether a look failed by the keeper
abbrev pub is_fan_failed : {A : Type 0} → Result A FanFault → Bool
is_fan_failed (Err (Look Keeper)) = true
is_fan_failed _ = false
