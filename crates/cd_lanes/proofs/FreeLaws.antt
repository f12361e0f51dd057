-- A feed that is done leaves no pin behind, and so no leaving block.
use Rattle.std.proofs.Common.{◌≡◌, ℕ, Bool, true, false, ◌||◌, List, [], ◌∷◌, Contains, None, refl, sym, ap, ◌∙◌}
use Rattle.std.specs.List.{list_any}
use Rattle.std.proofs.lemmas.Bool.{and_from, true≢false}
use Rattle.std.proofs.lemmas.Bool.Decides.{Decides-eqb}
use Rattle.std.proofs.lemmas.List.Elements.{All-contains}
use Rattle.cd_base.specs.declared.hash.Hash256.{Hash256}
use Rattle.cd_block.specs.declared.description.Descr.{Descr}
use Rattle.cd_event.specs.declared.entry.Entry.{Entry}
use Rattle.cd_event.specs.Pins.{is_live}
use Rattle.cd_world.specs.declared.world.PinRow.{PinRow}
use Rattle.cd_world.specs.declared.world.World.{World}
use Rattle.cd_world.specs.Following.{AllFollow}
use Rattle.cd_world.specs.Machine.{replay}
use Rattle.cd_world.specs.Standing.{is_pin, is_pinned}
use Rattle.cd_world.proofs.Orders.{All-from_Contains}
use Rattle.cd_core.specs.Workers.{made_by}
use Rattle.cd_core.proofs.Tracking.{tracks-on, tracks-none}
use Rattle.cd_run.proofs.EndedPins.{cut_ends}
use Rattle.cd_lanes.specs.NoPins.{LeavesFree}
use Rattle.cd_lanes.proofs.LeavingLaws.{LeavingPinned, leaving_replay}

-- a pin that is there has a worker and a number
no_pin_there : (pins : List PinRow) → ((worker number : ℕ) → list_any (is_pin worker number) pins ≡ true → ⊥) → pins ≡ []
no_pin_there [] none = refl
no_pin_there (r ∷ rs) none =
    let itself : is_pin r.worker r.pin r ≡ true = and_from _ _ ((Decides-eqb r.pin r.pin).1 refl) ((Decides-eqb r.worker r.worker).1 refl) in
    absurd (none r.worker r.pin (ap (λ b. b || list_any (is_pin r.worker r.pin) rs) itself))

module _ (H : List ℕ → Hash256) (X : Type 0) where
  -- a pin that is there is live by its worker's entries
  is_live-there : (w : World) (journal : List (Entry X)) → w.pins ≡ [] → AllFollow H w journal → (worker number : ℕ)
      → (let v = replay w journal in list_any (is_pin worker number) v.pins ≡ true) → is_live number (made_by worker journal) ≡ true
  is_live-there w journal none follow worker number there =
      (tracks-on worker H journal w None [] [] (tracks-none worker H w None none) tt follow).back number there

  pub leaves_free : LeavesFree H X
  leaves_free pins phases w journal tidy free follow cut good = record { no_pins = gone; none_leaving = All-from_Contains (λ d. d.leaving ≡ false) (let v = replay w journal in v.blocks) (λ d in'. kept d in' d.leaving refl) }
    where
      gone : (let v = replay w journal in v.pins) ≡ []
      gone = no_pin_there (let v = replay w journal in v.pins) (λ worker number there.
          true≢false (sym (is_live-there w journal free.no_pins follow worker number there) ∙ cut_ends X H number pins 0 phases journal cut good worker))

      first : LeavingPinned w
      first d in' leaving = absurd (true≢false (sym leaving ∙ All-contains (λ x. x.leaving ≡ false) w.blocks d free.none_leaving in'))

      kept : (d : Descr) → Contains (let v = replay w journal in v.blocks) d → (b : Bool) → d.leaving ≡ b → d.leaving ≡ false
      kept d in' false is = is
      kept d in' true is = absurd (true≢false (sym (leaving_replay H w journal follow tidy first d in' is) ∙ ap (λ (rs : List PinRow). is_pinned rs d.id) gone))
