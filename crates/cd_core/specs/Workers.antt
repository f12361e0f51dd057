-- Trusted: what one worker knows of a core by the entries, whoever made others: its own entries, and the pins that it
-- was given.
use Rattle.std.specs.Prelude.{◌≡◌, ℕ, nat_eq, Bool, if◌then◌else◌, List, [], ◌∷◌, ◌++◌, map, filter, Option}
use Rattle.std.specs.Option.{option_map, option_to_list}
use Rattle.cd_base.specs.declared.hash.Hash256.{Hash256}
use Rattle.cd_block.specs.declared.block.BlockId.{BlockId}
use Rattle.cd_keeper.specs.Contents.{Contents}
use Rattle.cd_event.specs.declared.entry.Entry.{Entry}
use Rattle.cd_event.specs.declared.entry.Reply.{Reply}
use Rattle.cd_event.specs.declared.entry.Reply.TheVariants as reply
use Rattle.cd_event.specs.declared.event.Event.{Event}
use Rattle.cd_event.specs.declared.event.Event.TheVariants as event
use Rattle.cd_event.specs.Pins.{Named}
use Rattle.cd_world.specs.declared.world.World.{World}
use Rattle.cd_world.specs.Standing.{kept_at}
use Rattle.cd_world.specs.Machine.{root_info, after}
use Rattle.cd_world.specs.Told.{ToldWorld, told_after}
use Rattle.cd_core.specs.declared.start.CoreStart.{CoreStart}
use Rattle.cd_core.specs.Cores.{CoreView, told_start}

-- what is named with a pin of a block: what the root of its state shows, and that state, where it is told
abbrev pub naming : World → Option ToldWorld → ℕ → BlockId → List Named
naming w t number id =
    map (λ d. record { number = number; root = root_info d; tree = option_map (λ u. u.state id) t })
    (option_to_list (kept_at w id))

module _ {X : Type 0} where
  -- an entry is the worker's own
  abbrev pub is_own : ℕ → Entry X → Bool
  is_own worker e = nat_eq e.who.worker worker

  -- the worker's own entries
  abbrev pub made_by : ℕ → List (Entry X) → List (Entry X)
  made_by worker journal = filter (is_own worker) journal

  -- the pin that an event so answered gave
  abbrev pub given : World → Option ToldWorld → Event X → Reply → List Named
  given w t (event.Pin id) (reply.Pinned number) = naming w t number id
  given w t _ _ = []

  -- a call's entries go on with the worker's own alone
  pub record GoesOn {K : Type 0} (worker : ℕ) (old new : CoreView K X) : Type 0 where
    pub start : new.start ≡ old.start
    pub more : List (Entry X)
    pub own : made_by worker more ≡ more
    pub journal : new.journal ≡ old.journal ++ more

  module _ (H : List ℕ → Hash256) where
    -- the pins that a worker was given, ended ones included
    abbrev pub named_from : ℕ → World → Option ToldWorld → List (Entry X) → List Named
    named_from worker w t [] = []
    named_from worker w t (e ∷ es) =
        (if is_own worker e then given w t e.event e.reply else [])
        ++ named_from worker (after w e) (option_map (λ u. told_after H u e) t) es

    abbrev pub named_by : {K : Type 0} → (K → Option Contents) → ℕ → CoreStart K → List (Entry X) → List Named
    named_by held worker start journal = named_from worker start.world.value (told_start held start) journal
