-- The records of a sound world's contents are read as the counts and faces of its cells.
use Rattle.std.proofs.Common.{◌≡◌, ℕ, Bool, true, false, cond, List, Option, Some, None, Contains, refl, sym, ap, ◌∙◌, subst, inl}
use Rattle.std.specs.Prelude.{Result, Ok, Err}
use Rattle.std.specs.Option.{option_map, option_and_then}
use Rattle.std.specs.FinMap as finite
use Rattle.std.proofs.lemmas.Bool.{true≢false}
use Rattle.std.proofs.lemmas.Option.{none-some, same_Some}
use Rattle.cd_base.specs.declared.hash.Hash256.{Hash256}
use Rattle.cd_base.specs.Numbers.{IsBytes}
use Rattle.cd_cell.specs.FaceView.{FaceView}
use Rattle.cd_cell.specs.Tree.{Tree, face_of}
use Rattle.cd_keeper.specs.Contents.{Contents}
use Rattle.cd_record.specs.declared.record.Record.{Record}
use Rattle.cd_record.specs.declared.record_fault.RecordFault.{RecordFault}
use Rattle.cd_record.specs.Records.{IsRecord}
use Rattle.cd_record.specs.RecordText.{record_text}
use Rattle.cd_record.specs.RecordReading.{record_in}
use Rattle.cd_record.proofs.RecordLaws.{record_again, is_found, text-injective}
use Rattle.cd_world.specs.Image.{is_version_1, renewed, plain_record}
use Rattle.cd_world.specs.Told.{ToldWorld, shown, held, count}
use Rattle.cd_world.proofs.Held.{rep_bytes}
use Rattle.cd_world.proofs.Plain.{contents-cell, image-cell}
use Rattle.cd_world.proofs.EqualImages.{cells_of, held_is_cell, record_of, IsRecord-cell}
use Rattle.cd_count.specs.PlanWorlds.{record_of_cell, IsReadable}
use Rattle.cd_count.specs.Reading.{as_read, stored_in}
use Rattle.cd_count.specs.SoundContents.{AreSoundContents}

-- a record of the second version is none of the first
not-first : (count : ℕ) (face : FaceView) → is_version_1 (record_text count face) ≡ false
unfolding record_text
not-first count face = refl

-- what in version 2 is a record's text is read as that record
record-read : (r : Record) → IsRecord r → (bytes : List ℕ) → IsBytes bytes → plain_record bytes ≡ record_text r.count r.face → as_read (record_in bytes) ≡ Some r
record-read r fit bytes fits plain = by (is_version_1 bytes) refl plain
  where
    renewed-read : (x : Result Record RecordFault) → x ≡ record_in bytes → is_version_1 bytes ≡ true → renewed bytes x ≡ record_text r.count r.face → as_read x ≡ Some r
    renewed-read (Err e) at first is = absurd (true≢false (sym first ∙ ap is_version_1 is ∙ not-first r.count r.face))
    renewed-read (Ok x) at first is =
        let read = is_found bytes (Ok x) fits at in
        ap (λ (y : Record). Some y) (text-injective x r (record_text r.count r.face) read.0 fit (inl (sym is)) (inl refl))

    by : (b : Bool) → is_version_1 bytes ≡ b → cond b (renewed bytes (record_in bytes)) bytes ≡ record_text r.count r.face → as_read (record_in bytes) ≡ Some r
    by true first is = renewed-read (record_in bytes) refl first is
    by false other is = ap as_read (ap record_in is ∙ record_again r fit)

module _ (H : List ℕ → Hash256) (t : ToldWorld) (contents : Contents) (so : AreSoundContents H t contents) where
  plain-at : (q : List ℕ) (o : Option Tree) → finite.get (held H t) q ≡ o
      → option_map plain_record (finite.get contents.cells q) ≡ option_map (λ s. record_text (count H t q) (face_of H s)) o
  plain-at q o at =
      contents-cell H (shown t) contents so.are q ∙ image-cell H (shown t) q ∙ ap (option_map (λ (s : Tree). record_text (count H t q) (face_of H s))) at

  nothing : (o : Option (List ℕ)) → option_map plain_record o ≡ None → option_and_then (λ bytes. as_read (record_in bytes)) o ≡ None
  nothing None e = refl
  nothing (Some bytes) e = absurd (none-some _ (sym e))

  stored-cell : (s : Tree) → Contains (cells_of H t) s → finite.get (held H t) (rep_bytes H s) ≡ Some s → stored_in contents (rep_bytes H s) ≡ Some (record_of_cell H (shown t) (rep_bytes H s) s)
  stored-cell s h at = by (finite.get contents.cells (rep_bytes H s)) refl (plain-at (rep_bytes H s) (Some s) at)
    where
      by : (o : Option (List ℕ)) → finite.get contents.cells (rep_bytes H s) ≡ o → option_map plain_record o ≡ Some (record_text (count H t (rep_bytes H s)) (face_of H s))
          → option_and_then (λ bytes. as_read (record_in bytes)) o ≡ Some (record_of_cell H (shown t) (rep_bytes H s) s)
      by None there is = absurd (none-some _ is)
      by (Some bytes) there is =
          record-read (record_of H so.wide t s) (IsRecord-cell H so.wide t so.sound s h) bytes (so.bytes (rep_bytes H s) bytes there) (same_Some (plain_record bytes) _ is)

  pub readable : IsReadable H (shown t) contents
  readable q = by (finite.get (held H t) q) refl
    where
      by : (o : Option Tree) → finite.get (held H t) q ≡ o → stored_in contents q ≡ option_map (record_of_cell H (shown t) q) o
      by None at = nothing (finite.get contents.cells q) (plain-at q None at)
      by (Some s) at =
          let is = held_is_cell H t q s at in
          subst (λ (k : List ℕ). finite.get (held H t) k ≡ Some s → stored_in contents k ≡ Some (record_of_cell H (shown t) k s)) is.1 (stored-cell s is.0) at
