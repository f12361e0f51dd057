-- Trusted: what one turn of a shared core does to the history, and what its seats know of it.
use Rattle.std.specs.Prelude.{◌≡◌, ◌⊎◌, ℕ, ◌<◌, ◌≤◌, List, ◌++◌, All, Option}
use Rattle.cd_base.specs.declared.hash.Hash256.{Hash256}
use Rattle.cd_keeper.specs.Contents.{Contents}
use Rattle.cd_event.specs.declared.names.Who.{Who}
use Rattle.cd_event.specs.declared.event.Event.{Event}
use Rattle.cd_event.specs.declared.entry.Entry.{Entry}
use Rattle.cd_event.specs.declared.entry.Reply.{Reply}
use Rattle.cd_gate.specs.Gates.{SeatView}
use Rattle.cd_core.specs.declared.start.CoreStart.{CoreStart}
use Rattle.cd_core.specs.Cores.{IsCore}
use Rattle.cd_core.specs.Effects.{Adds}

-- the number of the worker who made an entry
abbrev pub worker_of : {X : Type 0} → Entry X → ℕ
worker_of e = e.who.worker

module _ {K X : Type 0} (held : K → Option Contents) (H : List ℕ → Hash256) (trail : K → Option (List Contents))
    (batches faults : K → ℕ) where
  -- a core that began so had these entries
  pub record IsJournal (start : CoreStart K) (journal : List (Entry X)) : Type 0 where
    pub keeper : K
    pub core : IsCore held H trail batches faults start journal keeper

  -- one call of the core, between what was its journal and what is
  pub record IsCoreTurn (start : CoreStart K) (before : List (Entry X)) (who : Who) (event : Event X)
      (answer : Option Reply) (now : List (Entry X)) : Type 0 where
    pub was : IsJournal start before
    pub adds : Adds held H start before who event answer now
    pub is : IsJournal start now

-- The same numbers of the same core, and more was seen: entries under the seat's lowest number, and others' entries.
pub record SeatGoesOn {X S : Type 0} (old new : SeatView (Entry X) S) : Type 0 where
  pub same : new ≡ record old { seen = new.seen }
  pub more : List (Entry X)
  pub seen : new.seen ≡ old.seen ++ more
  pub apart : All (λ e. (worker_of e ≡ old.lowest) ⊎ ((worker_of e < old.lowest) ⊎ (old.end ≤ worker_of e))) more
