-- Trusted: what looks under one pin do to a worker's turns.
use Rattle.std.specs.Prelude.{◌≡◌, ℕ, ◌+◌, Bool, true, false, List, [], ◌∷◌, ◌++◌, map, sum}
use Rattle.cd_event.specs.declared.names.Who.{Who}
use Rattle.cd_event.specs.declared.entry.Entry.{Entry}
use Rattle.cd_event.specs.declared.event.Event.TheVariants as event
use Rattle.cd_event.specs.declared.entry.Reply.{Reply}
use Rattle.cd_event.specs.declared.entry.Reply.TheVariants as reply
use Rattle.cd_event.specs.declared.refusal.Refusal.TheVariants as refusal
use Rattle.cd_event.specs.Replies.{entry_of}
use Rattle.cd_event.specs.Pins.{Named}
use Rattle.cd_event.specs.Turning.{RisesOnly, counted}

module _ {H : Type 0} where
  -- the entry of a look for so many hashes
  abbrev pub look_with : Reply → Who → ℕ → ℕ → Entry H
  look_with answer who pin asked = entry_of who (event.Look pin asked) answer

  -- the entries of answered looks, one after another
  abbrev pub looks : Who → ℕ → List ℕ → List (Entry H)
  looks who pin asked = map (look_with reply.Looked who pin) asked

  abbrev pub failed_look : Who → ℕ → ℕ → Entry H
  failed_look who pin asked = look_with (reply.Refused refusal.Keeper) who pin asked

module _ {S H : Type 0} (worker faults : S → ℕ) (made : S → List (Entry H)) (goes : S → S → Type 0) (named : S → List Named) where
  -- the same worker with the same pins went on, and its keeper failed or didn't
  pub record SamePins (failed : Bool) (old new : S) : Type 0 where
    pub same_worker : worker new ≡ worker old
    pub went : goes old new
    pub same_named : named new ≡ named old
    pub caused : RisesOnly failed (faults old) (faults new)

  -- only looks of this name and pin were added, all of them answered
  pub record LooksOn (who : Who) (pin : ℕ) (old new : S) (asked_old asked_new : ℕ) : Type 0 where
    pub same : SamePins false old new
    pub asked : List ℕ
    pub added : made new ≡ made old ++ looks who pin asked
    pub counts : asked_new ≡ counted asked_old (sum asked)

  -- and at last one that the keeper failed
  pub record LooksAndFails (who : Who) (pin : ℕ) (old new : S) (asked_old asked_new : ℕ) : Type 0 where
    pub same : SamePins true old new
    pub asked : List ℕ
    pub last : ℕ
    pub added : made new ≡ made old ++ (looks who pin asked ++ failed_look who pin last ∷ [])
    pub counts : asked_new ≡ counted asked_old (sum asked + last)

  -- looks of this name and pin were added, and the last one failed or none
  abbrev pub LooksUnder : Bool → Who → ℕ → S → S → Type 0
  LooksUnder true who pin old new = (before after : ℕ) × LooksAndFails who pin old new before after
  LooksUnder false who pin old new = (before after : ℕ) × LooksOn who pin old new before after
