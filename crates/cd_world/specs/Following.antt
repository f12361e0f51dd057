-- Trusted: when an entry follows a world: its reply is the machine's, or that the keeper failed.
use Rattle.std.specs.Prelude.{◌≡◌, ℕ, ◌⊎◌, Bool, true, false, List, [], ◌∷◌, Option, Some, None}
use Rattle.cd_base.specs.declared.hash.Hash256.{Hash256}
use Rattle.cd_event.specs.declared.event.Event.{Event}
use Rattle.cd_event.specs.declared.event.Event.TheVariants.{Zero, Pin, Merge, Unpin, Expire}
use Rattle.cd_event.specs.declared.entry.Entry.{Entry}
use Rattle.cd_event.specs.declared.entry.Reply.TheVariants as reply
use Rattle.cd_event.specs.declared.refusal.Refusal.{Refusal}
use Rattle.cd_event.specs.declared.refusal.Refusal.TheVariants as refusal
use Rattle.cd_world.specs.declared.world.World.{World}
use Rattle.cd_world.specs.Machine.{refusal_of, reply_of, step_reply, after, makes_batch}

-- what cells refuse: another cell is held under a listed hash, or a count is full
abbrev pub IsOfCells : Refusal → Type 0
IsOfCells (refusal.Clash hash stored offered) = Unit {0}
IsOfCells (refusal.CountFull hash count) = Unit {0}
IsOfCells _ = ⊥

module _ {X : Type 0} where
  -- whether the event stores a state
  abbrev pub IsStoring : Event X → Type 0
  IsStoring (Zero id tops p) = Unit {0}
  IsStoring (Merge pin other id tops p) = Unit {0}
  IsStoring _ = ⊥

  -- the cells may refuse a state that is to be stored, and nothing else
  abbrev pub MayRefuse : Event X → Option Refusal → Type 0
  MayRefuse event None = Unit {0}
  MayRefuse event (Some r) = IsStoring event × IsOfCells r

  -- whether an event asks the keeper for something: a pin doesn't, nor what makes no batch
  abbrev pub asks_keeper : World → ℕ → Event X → Bool
  asks_keeper w worker (Pin id) = false
  asks_keeper w worker (Unpin pin) = makes_batch (reply_of {X = X} w worker (Unpin pin))
  asks_keeper w worker (Expire id) = makes_batch (reply_of {X = X} w worker (Expire id))
  asks_keeper w worker _ = true

  module _ (H : List ℕ → Hash256) where
    -- the keeper failed: the event asks it for something, and the world alone refuses nothing
    pub record IsFailed (w : World) (e : Entry X) : Type 0 where
      pub reply : e.reply ≡ reply.Refused refusal.Keeper
      pub allowed : refusal_of H w e.who.worker e.event ≡ None
      pub asks : asks_keeper w e.who.worker e.event ≡ true

    -- the entry follows the world, where the cells refuse so
    abbrev pub FollowsBy : World → Option Refusal → Entry X → Type 0
    FollowsBy w cells e = (e.reply ≡ step_reply H w e.who.worker e.event cells) ⊎ IsFailed w e

    -- the entry follows the world, whatever the cells refuse
    abbrev pub Follows : World → Entry X → Type 0
    Follows w e = (cells : Option Refusal) × MayRefuse e.event cells × FollowsBy w cells e

    -- each entry follows the world so far
    abbrev pub AllFollow : World → List (Entry X) → Type 0
    AllFollow w [] = Unit {0}
    AllFollow w (e ∷ es) = Follows w e × AllFollow (after w e) es
