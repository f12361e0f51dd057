-- A record that is read is spelled so, and what is spelled so is read.
use Rattle.std.proofs.Common.{◌≡◌, ℕ, ◌+◌, ◌*◌, ◌/◌, ◌%◌, ◌^◌, ◌<◌, ◌≤◌, Bool, true, false, eqb, List, [], ◌∷◌, ◌++◌, length, Option, Some, None, Result, Ok, Err, refl, sym, ap, subst, ◌∙◌, eq-eqb, ◌⊎◌, inl, inr, ⊎_elim, arith}
use Rattle.std.specs.Prelude.{IfOk, if◌then◌else◌}
use Rattle.std.specs.List.{flat_map, AllByRecursion}
use Rattle.std.proofs.lemmas.Bool.{eqb-true, eqb-false}
use Rattle.std.proofs.lemmas.List.{append-nil, nil_from_length}
use Rattle.cd_base.specs.Numbers.{IsBytes, big}
use Rattle.cd_cell.specs.declared.info.ChildInfo.{ChildInfo}
use Rattle.cd_cell.specs.declared.cell_fault.CellFault.{CellFault}
use Rattle.cd_cell.specs.BitText.{is_odd, data_of}
use Rattle.cd_cell.specs.FaceView.{FaceView}
use Rattle.cd_cell.specs.Levels.{mask_of_face, descriptor1, descriptor2}
use Rattle.cd_cell.specs.CellFaults.{face_fault}
use Rattle.cd_cell.specs.Steady.{IsSteady}
use Rattle.cd_cell.proofs.FitLemmas.{face_fault-fit, fit_from_no_fault}
use Rattle.cd_record.specs.declared.limits.TheConstants.{GREATEST_COUNT}
use Rattle.cd_record.specs.declared.record.Record.{Record}
use Rattle.cd_record.specs.declared.record_fault.RecordFault.{RecordFault}
use Rattle.cd_record.specs.declared.record_fault.RecordFault.TheVariants.{Extra, Form}
use Rattle.cd_record.specs.RecordText.{kid_text, face_text, record_text, record_text_v1}
use Rattle.cd_record.specs.Records.{IsInfo, IsRecord, IsTextOf}
use Rattle.cd_record.specs.RecordReading.{version_at, count_len, count_at, descriptor_at, bits_at, kid_at, record_of, record_in}
use Rattle.cd_base.specs.Reading.{Gives, each_at}
use Rattle.cd_base.proofs.ReadingLaws.{by_ok, ok_is, kept_by_test}
use Rattle.cd_record.proofs.Fields.{IsVersion, version_takes, version_again-1, version_again-2, count_takes, count_again, descriptor_takes, descriptor_again, bits_take, bits_again}
use Rattle.cd_record.proofs.KidReading.{kids_again, kids_take, all_kids, all_steady, all_infos}

-- the fields one behind the other
joined : ℕ → ℕ → ℕ → ℕ → List Bool → List ChildInfo → List ℕ
joined version len count descriptor bits kids = version ∷ (big len count ++ (descriptor ∷ (descriptor2 bits ∷ data_of bits ++ flat_map kid_text kids)))

text_is : (count : ℕ) (f : FaceView) → record_text count f ≡ joined 2 8 count (descriptor1 f (mask_of_face f)) f.bits f.kids
unfolding record_text face_text joined
text_is count f = refl

text_v1-is : (count : ℕ) (f : FaceView) → record_text_v1 count f ≡ joined 1 4 count (descriptor1 f (mask_of_face f)) f.bits f.kids
unfolding record_text_v1 face_text joined
text_v1-is count f = refl

-- the first descriptor tells the flag, the number of references and the mask
pub record Tells (d kids mask : ℕ) (exotic : Bool) : Type 0 where
  pub refs : d % 8 ≡ kids
  pub flag : is_odd (d / 8) ≡ exotic
  pub mask_is : d / 32 ≡ mask
  pub not_stored : is_odd (d / 16) ≡ false

descriptor-tells : (kids mask : ℕ) (exotic : Bool) → kids ≤ 4 → Tells (kids + (if exotic then 8 else 0) + 32 * mask) kids mask exotic
descriptor-tells kids mask true few =
    let flag : (kids + 8 + 32 * mask) / 8 % 2 ≡ 1 = omega arith in
    let stored : (kids + 8 + 32 * mask) / 16 % 2 ≡ 0 = omega arith in
    record { refs = omega arith; flag = rw flag refl; mask_is = omega arith; not_stored = rw stored refl }
descriptor-tells kids mask false few =
    let flag : (kids + 0 + 32 * mask) / 8 % 2 ≡ 0 = omega arith in
    let stored : (kids + 0 + 32 * mask) / 16 % 2 ≡ 0 = omega arith in
    record { refs = omega arith; flag = rw flag refl; mask_is = omega arith; not_stored = rw stored refl }

-- a first descriptor without stored hashes is that of what it tells
descriptor-is : (d : ℕ) (exotic : Bool) → is_odd (d / 8) ≡ exotic → is_odd (d / 16) ≡ false → d % 8 + (if exotic then 8 else 0) + 32 * (d / 32) ≡ d
descriptor-is d true flag stored = omega (arith, eqb-true _ _ flag, eqb-false _ _ stored)
descriptor-is d false flag stored = omega (arith, eqb-false _ _ flag, eqb-false _ _ stored)

-- ---- what is spelled is read

record_of-good : (count mask : ℕ) (f : FaceView) (fault : Option CellFault) → fault ≡ None → mask_of_face f ≡ mask → record_of count mask f fault ≡ Ok (record { count = count; face = f })
record_of-good count mask f None e is = rw (is, eq-eqb mask mask refl) refl
record_of-good count mask f (Some fault) e is = absurd cc

-- the greatest count has eight bytes
below_greatest : (count : ℕ) → count ≤ GREATEST_COUNT → count < 256 ^ 8
below_greatest count few = omega arith

joined-read : (version len count d : ℕ) (bits : List Bool) (kids : List ChildInfo) → ((rest : List ℕ) → version_at (version ∷ rest) ≡ Ok (version, rest)) → count_len version ≡ len
    → 1 ≤ count → count ≤ GREATEST_COUNT → count < 256 ^ len → is_odd (d / 16) ≡ false → d % 8 ≡ length kids → length kids ≤ 4 → length bits ≤ 1023
    → AllByRecursion IsSteady kids → AllByRecursion IsInfo kids
    → record_in (joined version len count d bits kids) ≡ record_of count (d / 32) (record { exotic = is_odd (d / 8); bits = bits; kids = kids }) (face_fault (record { exotic = is_odd (d / 8); bits = bits; kids = kids }))
unfolding record_in joined
joined-read version len count d bits kids known wide some few small stored refs four short steady infos =
    let last : each_at kid_at (length kids) (flat_map kid_text kids) ≡ Ok (kids, []) = ap (each_at kid_at (length kids)) (sym (append-nil (flat_map kid_text kids))) ∙ kids_again kids [] (all_kids kids steady infos) in
    rw (
      known (big len count ++ (d ∷ (descriptor2 bits ∷ data_of bits ++ flat_map kid_text kids))),
      wide,
      count_again len count (d ∷ (descriptor2 bits ∷ data_of bits ++ flat_map kid_text kids)) some few small,
      descriptor_again d (descriptor2 bits ∷ data_of bits ++ flat_map kid_text kids) stored (omega arith),
      bits_again bits (flat_map kid_text kids) short,
      refs,
      last,
    ) refl

module _ (r : Record) (fit : IsRecord r) where
  spelled-read : (version len : ℕ) → ((rest : List ℕ) → version_at (version ∷ rest) ≡ Ok (version, rest)) → count_len version ≡ len → r.count < 256 ^ len
      → record_in (joined version len r.count (descriptor1 r.face (mask_of_face r.face)) r.face.bits r.face.kids) ≡ Ok r
  spelled-read version len known wide small =
      let f = r.face in
      let mask = mask_of_face f in
      let tells = descriptor-tells (length f.kids) mask f.exotic fit.face.kids in
      let d = descriptor1 f mask in
      let with_flag : Bool → FaceView = λ e. record { exotic = e; bits = f.bits; kids = f.kids } in
      joined-read version len r.count d f.bits f.kids known wide fit.some fit.few small tells.not_stored tells.refs fit.face.kids fit.face.bits fit.steady fit.infos
      ∙ ap (λ m. record_of r.count m (with_flag (is_odd (d / 8))) (face_fault (with_flag (is_odd (d / 8))))) tells.mask_is
      ∙ ap (λ e. record_of r.count mask (with_flag e) (face_fault (with_flag e))) tells.flag
      ∙ record_of-good r.count mask f (face_fault f) (face_fault-fit f fit.face.fit) refl

  pub record_again : record_in (record_text r.count r.face) ≡ Ok r
  record_again =
      let small : r.count < 256 ^ 8 = below_greatest r.count fit.few in
      ap record_in (text_is r.count r.face) ∙ spelled-read 2 8 version_again-2 refl small

  pub record_again-v1 : r.count < 2 ^ 32 → record_in (record_text_v1 r.count r.face) ≡ Ok r
  record_again-v1 small = ap record_in (text_v1-is r.count r.face) ∙ spelled-read 1 4 version_again-1 refl small

  -- in either version
  pub text_again : (bytes : List ℕ) → IsTextOf r bytes → record_in bytes ≡ Ok r
  text_again bytes text = ⊎_elim (λ is. ap record_in is ∙ record_again) (λ v1. ap record_in v1.1 ∙ record_again-v1 v1.0) text

-- ---- what is read is spelled so

ended : (b : Bool) (x : Result Record RecordFault) (r : Record) → (if b then x else Err Extra) ≡ Ok r → (b ≡ true) × (x ≡ Ok r)
ended true x r e = (refl, e)
ended false x r e = absurd cc

abbrev pub IsRead : List ℕ → Record → Type 0
IsRead bytes r = IsRecord r × IsTextOf r bytes

record_of-takes : (count mask : ℕ) (f : FaceView) (fault : Option CellFault) (r : Record) → record_of count mask f fault ≡ Ok r → (fault ≡ None) × (mask_of_face f ≡ mask) × (record { count = count; face = f } ≡ r)
record_of-takes count mask f None r e =
    let g = kept_by_test (eqb (mask_of_face f) mask) Form (record { count = count; face = f }) r e in (refl, eqb-true _ _ g.0, g.1)
record_of-takes count mask f (Some fault) r e = absurd cc

-- the fields of a version are its text
spelled : (version count : ℕ) (bytes : List ℕ) (f : FaceView) → IsVersion version → count < 256 ^ count_len version
    → bytes ≡ joined version (count_len version) count (descriptor1 f (mask_of_face f)) f.bits f.kids → IsTextOf (record { count = count; face = f }) bytes
spelled version count bytes f (inl one) small is =
    let v1 : (count < 256 ^ 4) × (bytes ≡ joined 1 4 count (descriptor1 f (mask_of_face f)) f.bits f.kids) = subst (λ n. (count < 256 ^ count_len n) × (bytes ≡ joined n (count_len n) count (descriptor1 f (mask_of_face f)) f.bits f.kids)) one (small, is) in
    inr (v1.0, v1.1 ∙ sym (text_v1-is count f))
spelled version count bytes f (inr two) small is =
    inl (subst (λ n. bytes ≡ joined n (count_len n) count (descriptor1 f (mask_of_face f)) f.bits f.kids) two is ∙ sym (text_is count f))

record_takes : (bytes : List ℕ) (r : Record) → IsBytes bytes → record_in bytes ≡ Ok r → IsRead bytes r
unfolding record_in joined
record_takes bytes r fits e =
    by_ok (version_at bytes) _ r e (λ version e0 k0.
    by_ok (count_at (count_len version.0) version.1) _ r k0 (λ count e1 k1.
    by_ok (descriptor_at count.1) _ r k1 (λ d e2 k2.
    by_ok (bits_at d.1) _ r k2 (λ bits e3 k3.
    by_ok (each_at kid_at (d.0 % 8) bits.1) _ r k3 (λ kids e4 k4.
    let face : FaceView = record { exotic = is_odd (d.0 / 8); bits = bits.0; kids = kids.0 } in
    let g = ended (eqb (length kids.1) 0) (record_of count.0 (d.0 / 32) face (face_fault face)) r k4 in
    let t0 = version_takes bytes version fits e0 in
    let t1 = count_takes (count_len version.0) version.1 count t0.0.rest_fits e1 in
    let t2 = descriptor_takes count.1 d t1.0.rest_fits e2 in
    let t3 = bits_take d.1 bits t2.0.rest_fits e3 in
    let t4 = kids_take (d.0 % 8) bits.1 kids t3.0.rest_fits e4 in
    let nothing : kids.1 ≡ [] = nil_from_length kids.1 (eqb-true _ _ g.0) in
    let last : bits.1 ≡ flat_map kid_text kids.0 = t4.0.parts ∙ ap (λ (x : List ℕ). flat_map kid_text kids.0 ++ x) nothing ∙ append-nil (flat_map kid_text kids.0) in
    let judgement = record_of-takes count.0 (d.0 / 32) face (face_fault face) r g.1 in
    let described : d.0 ≡ descriptor1 face (mask_of_face face) =
    sym (descriptor-is d.0 (is_odd (d.0 / 8)) refl t2.1)
    ∙ ap (λ n. n + (if is_odd (d.0 / 8) then 8 else 0) + 32 * (d.0 / 32)) (sym t4.1)
    ∙ ap (λ m. length kids.0 + (if is_odd (d.0 / 8) then 8 else 0) + 32 * m) (sym judgement.1) in
    let bytes_are : bytes ≡ joined version.0 (count_len version.0) count.0 d.0 bits.0 kids.0 =
    t0.0.parts ∙ ap (λ (x : List ℕ). version.0 ∷ x) (t1.0.parts ∙ ap (λ (x : List ℕ). big (count_len version.0) count.0 ++ x) (t2.0.parts ∙ ap (λ (x : List ℕ). d.0 ∷ x) (t3.0.parts ∙ ap (λ (x : List ℕ). descriptor2 bits.0 ∷ data_of bits.0 ++ x) last))) in
    let fit : IsRecord (record { count = count.0; face = face }) = record {
      some = t1.1;
      few = t1.2;
      face = record { bits = t3.1; kids = omega (arith, t4.1, t2.2); fit = fit_from_no_fault face judgement.0 };
      steady = all_steady kids.0 t4.2;
      infos = all_infos kids.0 t4.2;
    } in
    let read : IsRead bytes (record { count = count.0; face = face }) = (fit, spelled version.0 count.0 bytes face t0.1 t1.3 (bytes_are ∙ ap (λ n. joined version.0 (count_len version.0) count.0 n bits.0 kids.0) described)) in
    subst (IsRead bytes) judgement.2 read)))))

-- what a call gave is what reading gives
pub given-is : (r read : Result Record RecordFault) → Gives (λ found. found) r read → r ≡ read
given-is (Ok x) read given = sym given
given-is (Err e) read given = sym given

pub is_found : (bytes : List ℕ) (r : Result Record RecordFault) → IsBytes bytes → r ≡ record_in bytes → IfOk r (IsRead bytes)
is_found bytes (Ok r) fits is = record_takes bytes r fits (sym is)
is_found bytes (Err e) fits is = tt

-- no two records share a text
pub text-injective : (a b : Record) (bytes : List ℕ) → IsRecord a → IsRecord b → IsTextOf a bytes → IsTextOf b bytes → a ≡ b
text-injective a b bytes fa fb ta tb = ok_is a b (sym (text_again a fa bytes ta) ∙ text_again b fb bytes tb)
