-- The pins of a worker as the journal grows.
use Rattle.std.proofs.Common.{◌≡◌, ℕ, List, ◌++◌, Option, ap₂, ◌∙◌}
use Rattle.std.specs.Option.{option_map}
use Rattle.cd_base.specs.declared.hash.Hash256.{Hash256}
use Rattle.cd_keeper.specs.Contents.{Contents}
use Rattle.cd_event.specs.declared.entry.Entry.{Entry}
use Rattle.cd_event.specs.Pins.{Named}
use Rattle.cd_world.specs.Told.{told_replay}
use Rattle.cd_core.specs.declared.start.CoreStart.{CoreStart}
use Rattle.cd_core.specs.Cores.{CoreView, world_after, told_start}
use Rattle.cd_core.specs.Workers.{named_from, named_by}
use Rattle.cd_core.proofs.OwnPins.{named_from-append}
use Rattle.cd_replay.specs.Ran.{pins_in}

module _ {K X : Type 0} (digest : List ℕ → Hash256) (held : K → Option Contents) (worker : ℕ) (mid new : CoreView K X) (entries : List (Entry X)) (same : new.start ≡ mid.start) (journal : new.journal ≡ mid.journal ++ entries) where
  abbrev pub more_pins : List Named
  more_pins = named_from digest worker (world_after mid.start mid.journal) (option_map (λ u. told_replay digest u mid.journal) (told_start held mid.start)) entries

  pub pins_grow : pins_in digest held new worker ≡ pins_in digest held mid worker ++ more_pins
  pins_grow = ap₂ (λ (s : CoreStart K) (es : List (Entry X)). named_by digest held worker s es) same journal
      ∙ named_from-append digest worker mid.start.world.value (told_start held mid.start) mid.journal entries
