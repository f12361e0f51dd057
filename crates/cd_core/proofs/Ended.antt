-- A pin ends, as a step of the machine.
use Rattle.std.proofs.Common.{◌≡◌, ℕ, ◌≤◌, Bool, true, false, zero, suc, List, [], ◌∷◌, map, Option, Some, refl, sym, ap, ◌∙◌, subst}
use Rattle.std.specs.Prelude.{◌||◌, slice_get, remove, Err}
use Rattle.std.specs.List.{filter, list_any}
use Rattle.std.proofs.lemmas.Option.{none-some, same_Some}
use Rattle.cd_base.specs.declared.hash.Hash256.{Hash256}
use Rattle.cd_block.specs.declared.description.Descr.{Descr}
use Rattle.cd_cell.specs.Tree.{Tree}
use Rattle.cd_keeper.specs.Contents.{Contents}
use Rattle.cd_keeper.specs.Keeping.{KeepsHeld}
use Rattle.cd_record.specs.declared.limits.TheConstants.{GREATEST_COUNT}
use Rattle.cd_event.specs.declared.names.Who.{Who}
use Rattle.cd_event.specs.declared.event.Event.TheVariants.{Unpin}
use Rattle.cd_event.specs.declared.entry.Reply.TheVariants as reply
use Rattle.cd_event.specs.declared.faults.UnpinFault.{UnpinFault}
use Rattle.cd_event.specs.declared.faults.UnpinFault.TheVariants as unpin
use Rattle.cd_event.specs.Replies.{unpin_reply}
use Rattle.cd_event.specs.Turning.{RisesOnly}
use Rattle.cd_world.specs.declared.world.World.{World}
use Rattle.cd_world.specs.declared.world.PinRow.{PinRow}
use Rattle.cd_world.specs.Standing.{pin_at}
use Rattle.cd_world.specs.Changes.{goes_with, is_collected, pins_without, without_pin}
use Rattle.cd_world.specs.Machine.{no_pin, is_pin_collected, moved}
use Rattle.cd_world.specs.Told.{ToldWorld, block_of, shown}
use Rattle.cd_count.specs.Changes.{AreDeadCells}
use Rattle.cd_core.specs.Effects.{AreCollected, collected_by}
use Rattle.cd_core.specs.Cores.{IsWritable}
use Rattle.cd_core.specs.Steps.{Did, Batches, told_without, is_keeper_fault, IsOutsideFault}
use Rattle.cd_core.proofs.Apart.{goes-at}
use Rattle.cd_core.proofs.Doings.{memory-did, failed-did, quiet-did, batch-did, contents-blocks}
use Rattle.cd_core.proofs.Unpinned.{unpinned, still-blocks}

-- one that passes is found
pub any-at : {A : Type 0} (p : A → Bool) (xs : List A) (i : ℕ) (x : A) → slice_get xs i ≡ Some x → p x ≡ true → list_any p xs ≡ true
any-at p [] i x at pass = absurd (none-some x at)
any-at p (y ∷ ys) zero x at pass = ap (λ b. b || list_any p ys) (ap p (same_Some y x at) ∙ pass)
any-at p (y ∷ ys) (suc i) x at pass = by (p y) (any-at p ys i x at pass)
  where
    by : (b : Bool) → list_any p ys ≡ true → (b || list_any p ys) ≡ true
    by true rest = refl
    by false rest = rest

-- a block goes with the pin
pub collects : (w : World) (worker pin : ℕ) (row : PinRow) (place : ℕ) (d : Descr) → pin_at w worker pin ≡ Some row → slice_get w.blocks place ≡ Some d → goes_with w row d ≡ true
    → is_pin_collected w (pin_at w worker pin) ≡ true
collects w worker pin row place d at here goes = ap (is_pin_collected w) at ∙ any-at (goes_with w row) w.blocks place d here goes

-- the cells that go are those of the block that goes
pub collected-cells : (H : List ℕ → Hash256) (w : World) (t : ToldWorld) (worker pin : ℕ) (row : PinRow) (dead : List Tree) → t.world ≡ w → pin_at w worker pin ≡ Some row
    → AreCollected H t worker pin dead → (let all = shown t in AreDeadCells H all.blocks (map (block_of t) (filter (goes_with t.world row) t.world.blocks)) dead)
collected-cells H w t worker pin row dead same at are =
    subst (λ o. let all = shown t in AreDeadCells H all.blocks (collected_by H t o) dead) (subst (λ v. pin_at v worker pin ≡ Some row) (sym same) at) are

pub keeps-itself : {K : Type 0} (held : K → Option Contents) (trail : K → Option (List Contents)) (batches : K → ℕ) (k : K) → KeepsHeld held trail batches k k
keeps-itself held trail batches k = record { same_held = refl; same_trail = refl; same_batches = refl }

module _ {K : Type 0} (X : Type 0) (held : K → Option Contents) (H : List ℕ → Hash256) (trail : K → Option (List Contents)) (batches faults : K → ℕ)
    (limit : ℕ) (low : limit ≤ GREATEST_COUNT) (w : World) (k k' : K) (who : Who) (pin : ℕ) (row : PinRow) (ready : IsWritable w)
    (at : pin_at w who.worker pin ≡ Some row) where
  -- no block goes
  pub still-did : (pins : List PinRow) → pins ≡ pins_without row w.pins → is_collected w row ≡ false
      → Did held H trail {X = X} batches faults limit w k who (Unpin pin) (Some (reply.Unpinned false)) (record { blocks = w.blocks; pins = pins; next = w.next }) k
  still-did pins are none =
      quiet-did held H trail batches faults limit low w (record { blocks = w.blocks; pins = pins; next = w.next }) k k who (Unpin pin) (reply.Unpinned false)
      ready tt (ap no_pin at) (ap reply.Unpinned (sym (ap (is_pin_collected w) at ∙ none))) refl
      (ap (λ ps. record { blocks = w.blocks; pins = ps; next = w.next }) are ∙ sym (unpinned X w who.worker pin row at ∙ still-blocks w row none))
      refl (keeps-itself held trail batches k) refl
      (λ t same.
      let at_t = subst (λ v. pin_at v who.worker pin ≡ Some row) (sym same) at in
      let none_t = subst (λ v. is_collected v row ≡ false) (sym same) none in
      (refl, tt, ap (λ (v : World). let s = shown (record { world = v; state = t.state }) in s.blocks) (sym (unpinned X t.world who.worker pin row at_t ∙ still-blocks t.world row none_t))))

  module _ (place : ℕ) (d : Descr) (here : slice_get w.blocks place ≡ Some d) (goes : goes_with w row d ≡ true) where
    pin-collected : is_pin_collected w (pin_at w who.worker pin) ≡ true
    pin-collected = collects w who.worker pin row place d at here goes

    -- the block went
    pub gone-did : (blocks : List Descr) (pins : List PinRow) → blocks ≡ remove w.blocks place → pins ≡ pins_without row w.pins
        → Batches held H trail batches w (told_without row) k k' → faults k' ≡ faults k
        → Did held H trail {X = X} batches faults limit w k who (Unpin pin) (Some (reply.Unpinned true)) (record { blocks = blocks; pins = pins; next = w.next }) k'
    gone-did blocks pins blocks_are pins_are made steady =
        let both = goes-at w row place d ready here goes in
        let left : record { blocks = blocks; pins = pins; next = w.next } ≡ without_pin w row =
        ap (λ (bs : List Descr). record { blocks = bs; pins = pins; next = w.next }) (blocks_are ∙ both.1)
        ∙ ap (λ ps. let v = without_pin w row in record { blocks = v.blocks; pins = ps; next = w.next }) pins_are in
        batch-did held H trail batches faults limit low w (record { blocks = blocks; pins = pins; next = w.next }) k k' who (Unpin pin) (reply.Unpinned true)
        ready tt (ap no_pin at) (ap reply.Unpinned (sym pin-collected)) refl
        (left ∙ sym (unpinned X w who.worker pin row at))
        refl made.change made.applied steady
        (λ t contents same said so.
        let at_t = subst (λ v. pin_at v who.worker pin ≡ Some row) (sym same) at in
        let leads = made.leads t contents same said so in (
          refl,
          tt,
          contents-blocks H (shown (told_without row t)) (shown (record { world = moved {X = X} t.world who.worker (Unpin pin); state = t.state })) _
              (ap (λ (v : World). let s = shown (record { world = v; state = t.state }) in s.blocks) (sym (unpinned X t.world who.worker pin row at_t))) leads.0,
          leads.1,
        ))

    -- it didn't
    pub ungone-did : (A : Type 0) (fault : UnpinFault) → KeepsHeld held trail batches k k' → IsOutsideFault {A = A} (Err fault) → RisesOnly (is_keeper_fault {A = A} (Err fault)) (faults k) (faults k')
        → Did held H trail {X = X} batches faults limit w k who (Unpin pin) (unpin_reply (Err fault)) w k'
    ungone-did A unpin.NoPin keeps outside caused = absurd outside
    ungone-did A unpin.Keeper keeps outside caused =
        failed-did held H trail batches faults limit w k k' who (Unpin pin) ready (ap no_pin at) pin-collected keeps caused.later (caused.rose refl)
    ungone-did A unpin.Memory keeps outside caused = memory-did held H trail batches faults limit w k k' who (Unpin pin) ready keeps (caused.steady refl)
