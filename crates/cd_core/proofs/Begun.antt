-- A pin begins and a look is answered, as steps of the machine.
use Rattle.std.proofs.Common.{◌≡◌, ℕ, ◌+◌, ◌≤◌, true, false, not, nat_lt, List, [], ◌∷◌, ◌++◌, map, Option, Some, None, refl, ap, ◌∙◌}
use Rattle.std.specs.Prelude.{IfSome, Result, Ok, Err}
use Rattle.std.specs.Option.{option_map, option_and_then}
use Rattle.std.specs.FinMap as finite
use Rattle.cd_base.specs.declared.hash.Hash256.{Hash256}
use Rattle.cd_block.specs.declared.block.BlockId.{BlockId}
use Rattle.cd_block.specs.declared.description.Descr.{Descr}
use Rattle.cd_cell.specs.FaceView.{FaceView}
use Rattle.cd_cell.specs.Tree.{Tree, face_of}
use Rattle.cd_keeper.specs.Contents.{Contents}
use Rattle.cd_keeper.specs.Keeping.{KeepsHeld}
use Rattle.cd_record.specs.declared.record.Record.{Record}
use Rattle.cd_record.specs.declared.record_fault.RecordFault.{RecordFault}
use Rattle.cd_record.specs.RecordReading.{record_in}
use Rattle.cd_record.specs.declared.limits.TheConstants.{GREATEST_COUNT}
use Rattle.cd_event.specs.declared.names.Who.{Who}
use Rattle.cd_event.specs.declared.event.Event.TheVariants.{Pin, Look}
use Rattle.cd_event.specs.declared.entry.Reply.TheVariants as reply
use Rattle.cd_event.specs.declared.refusal.Refusal.TheVariants as refusal
use Rattle.cd_base.specs.Counts.{Rose}
use Rattle.cd_world.specs.declared.world.World.{World}
use Rattle.cd_world.specs.declared.world.PinRow.{PinRow}
use Rattle.cd_world.specs.Standing.{kept_at, pin_at, pins_of}
use Rattle.cd_world.specs.Changes.{row_of}
use Rattle.cd_world.specs.Machine.{unpinnable, refused_if, no_pin}
use Rattle.cd_world.specs.Told.{ToldWorld, shown, seen, held}
use Rattle.cd_world.specs.Unfolded.{face_in, face_read}
use Rattle.cd_count.specs.Reading.{as_read}
use Rattle.cd_count.specs.PlanWorlds.{record_of_cell}
use Rattle.cd_count.proofs.Readable.{readable}
use Rattle.cd_core.specs.Cores.{IsWritable, Holds}
use Rattle.cd_core.specs.Steps.{Did}
use Rattle.cd_core.proofs.Doings.{memory-did, refused-did, failed-did, quiet-did}
use Rattle.cd_core.proofs.Ended.{keeps-itself}
use Rattle.cd_core.proofs.Unpinned.{of-some}

module _ {K : Type 0} (X : Type 0) (held_in : K → Option Contents) (H : List ℕ → Hash256) (trail : K → Option (List Contents)) (batches faults : K → ℕ)
    (limit : ℕ) (low : limit ≤ GREATEST_COUNT) (w : World) (k : K) (who : Who) (ready : IsWritable w) where
  -- ---- a pin

  pub unknown-did : (id : BlockId) → kept_at w id ≡ None → Did held_in H trail {X = X} batches faults limit w k who (Pin id) (Some (reply.Refused refusal.UnknownBlock)) w k
  unknown-did id none = refused-did held_in H trail batches faults limit w k k who (Pin id) refusal.UnknownBlock ready (ap (unpinnable w who.worker) none) refl (keeps-itself held_in trail batches k) refl

  pub full-did : (id : BlockId) (d : Descr) → kept_at w id ≡ Some d → nat_lt (pins_of w who.worker) 64 ≡ false
      → Did held_in H trail {X = X} batches faults limit w k who (Pin id) (Some (reply.Refused refusal.PinsFull)) w k
  full-did id d kept full =
      refused-did held_in H trail batches faults limit w k k who (Pin id) refusal.PinsFull ready
      (ap (unpinnable w who.worker) kept ∙ ap (λ b. refused_if (not b) refusal.PinsFull) full) refl (keeps-itself held_in trail batches k) refl

  pub begun-did : (id : BlockId) (d : Descr) (pins : List PinRow) → kept_at w id ≡ Some d → nat_lt (pins_of w who.worker) 64 ≡ true → pins ≡ w.pins ++ row_of w.next who.worker id ∷ []
      → Did held_in H trail {X = X} batches faults limit w k who (Pin id) (Some (reply.Pinned w.next)) (record { blocks = w.blocks; pins = pins; next = w.next + 1 }) k
  begun-did id d pins kept few are =
      quiet-did held_in H trail batches faults limit low w (record { blocks = w.blocks; pins = pins; next = w.next + 1 }) k k who (Pin id) (reply.Pinned w.next)
      ready tt (ap (unpinnable w who.worker) kept ∙ ap (λ b. refused_if (not b) refusal.PinsFull) few) refl refl
      (ap (λ ps. record { blocks = w.blocks; pins = ps; next = w.next + 1 }) are) refl (keeps-itself held_in trail batches k) refl (λ t same. (refl, tt, refl))

  -- ---- a look

  module _ (k' : K) (pin n : ℕ) (row : PinRow) (at : pin_at w who.worker pin ≡ Some row) (keeps : KeepsHeld held_in trail batches k k') where
    pub looked-did : faults k' ≡ faults k → Did held_in H trail {X = X} batches faults limit w k who (Look pin n) (Some reply.Looked) w k'
    looked-did same =
        quiet-did held_in H trail batches faults limit low w w k k' who (Look pin n) reply.Looked ready tt (ap no_pin at) refl refl refl refl keeps same (λ t is. (refl, tt, refl))

    pub unlooked-did : faults k ≤ faults k' → Rose (faults k) (faults k') → Did held_in H trail {X = X} batches faults limit w k who (Look pin n) (Some (reply.Refused refusal.Keeper)) w k'
    unlooked-did later rose = failed-did held_in H trail batches faults limit w k k' who (Look pin n) ready (ap no_pin at) refl keeps later rose

    pub forgot-did : faults k' ≡ faults k → Did held_in H trail {X = X} batches faults limit w k who (Look pin n) None w k'
    forgot-did same = memory-did held_in H trail batches faults limit w k k' who (Look pin n) ready keeps same

  pub nowhere-did : (pin n : ℕ) → pin_at w who.worker pin ≡ None → Did held_in H trail {X = X} batches faults limit w k who (Look pin n) (Some (reply.Refused refusal.NoPin)) w k
  nowhere-did pin n none = refused-did held_in H trail batches faults limit w k k who (Look pin n) refusal.NoPin ready (ap no_pin none) refl (keeps-itself held_in trail batches k) refl

-- ---- what is seen

face-read : (o : Option (List ℕ)) → option_and_then (λ bytes. face_read (record_in bytes)) o ≡ option_map (λ (r : Record). r.face) (option_and_then (λ bytes. as_read (record_in bytes)) o)
face-read None = refl
face-read (Some bytes) = by (record_in bytes)
  where
    by : (x : Result Record RecordFault) → face_read x ≡ option_map (λ (r : Record). r.face) (as_read x)
    by (Ok r) = refl
    by (Err e) = refl

face-of-cell : (H : List ℕ → Hash256) (t : ToldWorld) (hash : List ℕ) (o : Option Tree) → option_map (λ (r : Record). r.face) (option_map (record_of_cell H (shown t) hash) o) ≡ option_map (face_of H) o
face-of-cell H t hash None = refl
face-of-cell H t hash (Some s) = refl

same-map : {A B : Type 0} (f g : A → B) → ((x : A) → f x ≡ g x) → (xs : List A) → map f xs ≡ map g xs
same-map f g same [] = refl
same-map f g same (x ∷ xs) = ap (λ y. y ∷ map f xs) (same x) ∙ ap (λ ys. g x ∷ ys) (same-map f g same xs)

-- the faces that are read are those of the held cells
pub faces-seen : {K : Type 0} (held_in : K → Option Contents) (H : List ℕ → Hash256) (t : ToldWorld) (k : K) (hashes : List Hash256) (found : List (Option FaceView))
    → Holds held_in H t k → IfSome (held_in k) (λ contents. found ≡ map (λ hash. face_in contents hash.0) hashes) → found ≡ map (seen H t) hashes
faces-seen held_in H t k hashes found h told =
    of-some (held_in k) h.contents _ h.is_held told
    ∙ same-map (λ (hash : Hash256). face_in h.contents hash.0) (seen H t)
    (λ hash. face-read (finite.get (let c = h.contents in c.cells) hash.0) ∙ ap (option_map (λ (r : Record). r.face)) (readable H t h.contents h.are hash.0) ∙ face-of-cell H t hash.0 (finite.get (held H t) hash.0)) hashes
