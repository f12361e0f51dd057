-- Trusted: a block with a live pin stays, and its tree never changes.
use Rattle.std.specs.Prelude.{◌≡◌, ℕ, Bool, false, not, ◌&&◌, ◌||◌, nat_eq, List, [], ◌∷◌, Some}
use Rattle.std.specs.List.{list_any}
use Rattle.std.specs.Option.{option_to_list}
use Rattle.cd_base.specs.declared.hash.Hash256.{Hash256}
use Rattle.cd_block.specs.declared.description.Descr.{Descr}
use Rattle.cd_event.specs.declared.event.Event.{Event}
use Rattle.cd_event.specs.declared.event.Event.TheVariants.{Merge, Unpin}
use Rattle.cd_event.specs.declared.entry.Entry.{Entry}
use Rattle.cd_world.specs.declared.world.World.{World}
use Rattle.cd_world.specs.declared.world.PinRow.{PinRow}
use Rattle.cd_world.specs.Standing.{pin_at, block_at}
use Rattle.cd_world.specs.Machine.{is_refused, replay}
use Rattle.cd_world.specs.Following.{AllFollow}
use Rattle.cd_world.specs.Told.{ToldWorld, told_replay}

-- the same block, but that it may be leaving
abbrev pub IsStill : Descr → Descr → Type 0
IsStill was now = now ≡ record was { leaving = now.leaving }

module _ {X : Type 0} where
  -- an event that asks for the end of the pin with this number
  abbrev pub ends : ℕ → Event X → Bool
  ends pin (Merge number other id tops p) = nat_eq number pin || list_any (λ n. nat_eq n pin) (option_to_list other)
  ends pin (Unpin number) = nat_eq number pin
  ends pin _ = false

  -- the entry ends the worker's pin
  abbrev pub ends_pin : ℕ → ℕ → Entry X → Bool
  ends_pin worker pin e = not (is_refused e.reply) && (nat_eq e.who.worker worker && ends pin e.event)

  -- no entry does
  abbrev pub NoneEnds : ℕ → ℕ → List (Entry X) → Type 0
  NoneEnds worker pin [] = Unit {0}
  NoneEnds worker pin (e ∷ es) = (ends_pin worker pin e ≡ false) × NoneEnds worker pin es

-- a worker's pin and its block
pub record IsHeld (w : World) (worker pin : ℕ) (row : PinRow) (d : Descr) : Type 0 where
  pub is_row : pin_at w worker pin ≡ Some row
  pub is_block : block_at w row.block ≡ Some d

-- A block with a live pin stays, whatever entries follow that don't end the pin: the same block, but that it may be
-- leaving by then.
abbrev pub PinStays : (List ℕ → Hash256) → Type 0 → Type 0
PinStays H X = (w : World) (es : List (Entry X)) (worker pin : ℕ) (row : PinRow) (d : Descr)
    → AllFollow H w es → NoneEnds worker pin es → IsHeld w worker pin row d
    → (now : Descr) × IsHeld (replay w es) worker pin row now × IsStill d now

-- And its tree never changes.
abbrev pub TreeStays : (List ℕ → Hash256) → Type 0 → Type 0
TreeStays H X = (t : ToldWorld) (es : List (Entry X)) (worker pin : ℕ) (row : PinRow) (d : Descr)
    → AllFollow H t.world es → NoneEnds worker pin es → IsHeld t.world worker pin row d
    → (told_replay H t es).state row.block ≡ t.state row.block
