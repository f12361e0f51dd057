-- Trusted: what a call on a keeper does to what the keeper tells.
use Rattle.std.specs.Prelude.{◌≡◌, ℕ, ◌≤◌, List, [], ◌∷◌, ◌++◌, Option, Some, None, Result, IfErr, OnOk}
use Rattle.std.specs.Option.{option_map}
use Rattle.cd_base.specs.Counts.{one_more, Rose}
use Rattle.cd_keeper.specs.Contents.{Contents, Change, changed}
use Rattle.cd_keeper.specs.declared.fault.KeepFault.{KeepFault}
use Rattle.cd_keeper.specs.declared.fault.KeepFault.TheVariants.{Failed, Memory}

-- a told trail, the contents after each batch, with those after one batch more
abbrev pub longer : Option (List Contents) → Option Contents → Option (List Contents)
longer None contents = None
longer (Some trail) None = None
longer (Some trail) (Some contents) = Some (trail ++ contents ∷ [])

module _ {S : Type 0} (held : S → Option Contents) (trail : S → Option (List Contents)) (batches : S → ℕ) where
  -- contents, trail and count of batches stay as they are
  pub record KeepsHeld (old new : S) : Type 0 where
    pub same_held : held new ≡ held old
    pub same_trail : trail new ≡ trail old
    pub same_batches : batches new ≡ batches old

  -- the change was made whole, and is one batch more
  pub record IsApplied (change : Change) (old new : S) : Type 0 where
    pub made : held new ≡ option_map (changed change) (held old)
    pub trailed : trail new ≡ longer (trail old) (held new)
    pub counted : batches new ≡ one_more (batches old)

-- a fault comes only where the count of faults rose; want of memory is free, and leaves the count
abbrev pub IsCaused : ℕ → ℕ → KeepFault → Type 0
IsCaused before now Failed = Rose before now
IsCaused before now Memory = now ≡ before

-- the count of faults didn't fall over the call, at an Ok it is as it was, and a fault comes only where it rose
pub record HasKeepCause {T : Type 0} (before now : ℕ) (result : Result T KeepFault) : Type 0 where
  pub later : before ≤ now
  pub steady : OnOk result (now ≡ before)
  pub caused : IfErr result (IsCaused before now)
