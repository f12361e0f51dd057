-- A field that is read is the field that was written, and what was written is read again.
use Rattle.std.proofs.Common.{◌≡◌, ℕ, ◌+◌, ◌-◌, ◌/◌, ◌%◌, ◌^◌, ◌<◌, ◌≤◌, Bool, true, false, not, ◌&&◌, ◌||◌, cond, ltb, eqb, List, [], ◌∷◌, ◌++◌, length, get_or, take, drop, Result, Ok, Err, refl, sym, ap, subst, ◌∙◌, ◌⊎◌, inl, inr, ⊎_elim, arith}
use Rattle.std.proofs.lemmas.Bool.{or_cases, eqb-true, eqb-false, ltb-false, le-ltb, ne_eqb}
use Rattle.std.proofs.lemmas.List.{take_at, drop_at, take-append-drop, length-append, length-take}
use Rattle.cd_base.specs.Numbers.{IsBytes, big}
use Rattle.cd_base.specs.Reading.{part_at, byte_at, number_at}
use Rattle.cd_base.proofs.NumberLaws.{IsBytes-cons}
use Rattle.cd_base.proofs.ReadingLaws.{by_ok, no_fault, kept_by_test, Takes, TakesByte, part_takes, part_again, byte_takes, number_takes, number_again}
use Rattle.cd_cell.specs.BitText.{data_of, data_bits, is_odd, IsBitData}
use Rattle.cd_cell.specs.Levels.{descriptor2}
use Rattle.cd_cell.proofs.BitLemmas.{length-data_of}
use Rattle.cd_cell.proofs.DataBits.{data_of-data_bits, data_bits-few, descriptor2-data_bits_whole, descriptor2-data_bits_cut, data_bits-data_of, IsBitData-data_of}
use Rattle.cd_record.specs.declared.limits.TheConstants.{GREATEST_COUNT}
use Rattle.cd_record.specs.declared.record_fault.RecordFault.{RecordFault}
use Rattle.cd_record.specs.declared.record_fault.RecordFault.TheVariants.{Version, Cut, Form}
use Rattle.cd_record.specs.RecordReading.{version_at, count_at, descriptor_at, bits_at, mask_at, lacks_completion}

pub same_cons : (a b : ℕ) (xs ys : List ℕ) → a ≡ b → xs ≡ ys → ◌≡◌ {A = List ℕ} (a ∷ xs) (b ∷ ys)
same_cons a b xs ys e f = rw (e, f) refl

-- ---- version and count

no_or : (a b : Bool) → (a || b) ≡ false → (a ≡ false) × (b ≡ false)
no_or true b h = absurd cc
no_or false b h = (refl, h)

-- a version: 01 or 02
abbrev pub IsVersion : ℕ → Type 0
IsVersion version = (version ≡ 1) ⊎ (version ≡ 2)

either : (n : ℕ) → (eqb n 1 || eqb n 2) ≡ true → IsVersion n
either n h = ⊎_elim (λ one. inl (eqb-true n 1 one)) (λ two. inr (eqb-true n 2 two)) (or_cases (eqb n 1) (eqb n 2) h)

pub version_takes : (bytes : List ℕ) (x : ℕ × List ℕ) → IsBytes bytes → version_at bytes ≡ Ok x → TakesByte bytes x.0 x.1 × IsVersion x.0
unfolding version_at
version_takes bytes x fits e =
    by_ok (byte_at Cut bytes) _ x e (λ version e0 k0.
    let t = byte_takes Cut bytes version fits e0 in
    let g = kept_by_test (eqb version.0 1 || eqb version.0 2) (Version version.0) version x k0 in
    subst (λ (y : ℕ × List ℕ). TakesByte bytes y.0 y.1 × IsVersion y.0) g.1 (t, either version.0 g.0))

pub version_again-1 : (rest : List ℕ) → version_at (1 ∷ rest) ≡ Ok (1, rest)
unfolding version_at byte_at
version_again-1 rest = refl

pub version_again-2 : (rest : List ℕ) → version_at (2 ∷ rest) ≡ Ok (2, rest)
unfolding version_at byte_at
version_again-2 rest = refl

pub count_takes : (len : ℕ) (bytes : List ℕ) (x : ℕ × List ℕ) → IsBytes bytes → count_at len bytes ≡ Ok x
    → Takes bytes (big len x.0) x.1 × (1 ≤ x.0) × (x.0 ≤ GREATEST_COUNT) × (x.0 < 256 ^ len)
unfolding count_at
count_takes len bytes x fits e =
    by_ok (number_at Cut len bytes) _ x e (λ count e0 k0.
    let t = number_takes Cut len bytes count fits e0 in
    let g = no_fault (eqb count.0 0 || ltb GREATEST_COUNT count.0) Form count x k0 in
    let h = no_or _ _ g.0 in
    let some : 1 ≤ count.0 = omega (arith, eqb-false _ _ h.0) in
    subst (λ (y : ℕ × List ℕ). Takes bytes (big len y.0) y.1 × (1 ≤ y.0) × (y.0 ≤ GREATEST_COUNT) × (y.0 < 256 ^ len)) g.1
    (t.0, some, ltb-false GREATEST_COUNT count.0 h.1, t.1))

pub count_again : (len count : ℕ) (rest : List ℕ) → 1 ≤ count → count ≤ GREATEST_COUNT → count < 256 ^ len → count_at len (big len count ++ rest) ≡ Ok (count, rest)
unfolding count_at
count_again len count rest some few small =
    let not_none : eqb count 0 ≡ false = ne_eqb count 0 (λ h. omega arith) in
    rw (number_again Cut len count rest small, not_none, le-ltb GREATEST_COUNT count few) refl

-- ---- the first descriptor

pub descriptor_takes : (bytes : List ℕ) (x : ℕ × List ℕ) → IsBytes bytes → descriptor_at bytes ≡ Ok x → TakesByte bytes x.0 x.1 × (is_odd (x.0 / 16) ≡ false) × (x.0 % 8 ≤ 4)
unfolding descriptor_at
descriptor_takes bytes x fits e =
    by_ok (byte_at Cut bytes) _ x e (λ d e0 k0.
    let g = no_fault (is_odd (d.0 / 16) || ltb 4 (d.0 % 8)) Form d x k0 in
    let h = no_or _ _ g.0 in
    subst (λ (y : ℕ × List ℕ). TakesByte bytes y.0 y.1 × (is_odd (y.0 / 16) ≡ false) × (y.0 % 8 ≤ 4)) g.1 (byte_takes Cut bytes d fits e0, h.0, ltb-false _ _ h.1))

pub descriptor_again : (d : ℕ) (rest : List ℕ) → is_odd (d / 16) ≡ false → d % 8 ≤ 4 → descriptor_at (d ∷ rest) ≡ Ok (d, rest)
unfolding descriptor_at byte_at
descriptor_again d rest not_stored few = rw (not_stored, le-ltb 4 (d % 8) few) refl

-- ---- the data

-- the second descriptor is even where the bits fill their bytes
even-by : (n : ℕ) (whole : Bool) → eqb (n % 8) 0 ≡ whole → not (is_odd (n / 8 + (n + 7) / 8)) ≡ whole
even-by n true is =
    let even : (n / 8 + (n + 7) / 8) % 2 ≡ 0 = omega (arith, eqb-true _ _ is) in rw even refl
even-by n false is =
    let odd : (n / 8 + (n + 7) / 8) % 2 ≡ 1 = omega (arith, eqb-false _ _ is) in rw odd refl

no_and : (a b : Bool) → not a ≡ true → (a && b) ≡ false
no_and true b h = absurd cc
no_and false b h = refl

no_last : (a b : Bool) → b ≡ false → (a && b) ≡ false
no_last true b h = h
no_last false b h = refl

completed : (d : ℕ) (part : List ℕ) (whole : Bool) → IsBytes part → length part ≡ (d + 1) / 2 → d < 256 → eqb (d % 2) 1 ≡ not whole → lacks_completion d part ≡ false → IsBitData whole part × (descriptor2 (data_bits whole part) ≡ d)
completed d part true fits len small is held =
    let even : d % 2 ≡ 0 = omega (arith, eqb-false _ _ is) in
    (omega arith, descriptor2-data_bits_whole part fits ∙ omega arith)
completed d part false fits len small is held =
    let odd : d % 2 ≡ 1 = eqb-true _ _ is in
    let tag : eqb (get_or part (length part - 1) 0 % 128) 0 ≡ false = rw is at held in
    let cut : IsBitData false part = (omega arith, omega arith, eqb-false _ _ tag) in
    (cut, omega (arith, descriptor2-data_bits_cut part fits cut))

odd-not : (b : Bool) → b ≡ not (not b)
odd-not true = refl
odd-not false = refl

pub bits_take : (bytes : List ℕ) (x : List Bool × List ℕ) → IsBytes bytes → bits_at bytes ≡ Ok x → Takes bytes (descriptor2 x.0 ∷ data_of x.0) x.1 × (length x.0 ≤ 1023)
unfolding bits_at
bits_take bytes x fits e =
    by_ok (byte_at Cut bytes) _ x e (λ d e0 k0.
    by_ok (part_at Cut ((d.0 + 1) / 2) d.1) _ x k0 (λ part e1 k1.
    let t0 = byte_takes Cut bytes d fits e0 in
    let t1 = part_takes Cut ((d.0 + 1) / 2) d.1 part t0.rest_fits e1 in
    let whole = not (is_odd d.0) in
    let g = no_fault (lacks_completion d.0 part.0) Form (data_bits whole part.0, part.1) x k1 in
    let held = completed d.0 part.0 whole t1.0.text_fits t1.1 t0.small (odd-not (is_odd d.0)) g.0 in
    let text : part.0 ≡ data_of (data_bits whole part.0) = sym (data_of-data_bits part.0 t1.0.text_fits whole held.0) in
    let first : Takes bytes (d.0 ∷ part.0) part.1 = record {
      parts = t0.parts ∙ ap (λ (w : List ℕ). d.0 ∷ w) t1.0.parts;
      text_fits = IsBytes-cons d.0 part.0 t0.small t1.0.text_fits;
      rest_fits = t1.0.rest_fits;
    } in
    let same : d.0 ∷ part.0 ≡ descriptor2 (data_bits whole part.0) ∷ data_of (data_bits whole part.0) = same_cons _ _ _ _ (sym held.1) text in
    subst (λ (y : List Bool × List ℕ). Takes bytes (descriptor2 y.0 ∷ data_of y.0) y.1 × (length y.0 ≤ 1023)) g.1
    (subst (λ (w : List ℕ). Takes bytes w part.1) same first, data_bits-few part.0 t1.0.text_fits whole held.0)))

lacks-data_of : (bits : List Bool) (whole : Bool) → IsBitData whole (data_of bits) → not (is_odd (descriptor2 bits)) ≡ whole → lacks_completion (descriptor2 bits) (data_of bits) ≡ false
lacks-data_of bits true held even = no_and (is_odd (descriptor2 bits)) _ even
lacks-data_of bits false held odd = no_last (is_odd (descriptor2 bits)) _ (ne_eqb _ 0 held.2)

pub bits_again : (bits : List Bool) (rest : List ℕ) → length bits ≤ 1023 → bits_at (descriptor2 bits ∷ data_of bits ++ rest) ≡ Ok (bits, rest)
unfolding bits_at byte_at
bits_again bits rest few =
    let len : length (data_of bits) ≡ (descriptor2 bits + 1) / 2 = omega (arith, length-data_of bits) in
    let whole = even-by (length bits) _ refl in
    rw (part_again Cut ((descriptor2 bits + 1) / 2) (data_of bits) rest len, lacks-data_of bits _ (IsBitData-data_of bits few) whole, whole, data_bits-data_of bits few) refl

-- ---- a child's mask

pub mask_takes : (bytes : List ℕ) (x : ℕ × List ℕ) → IsBytes bytes → mask_at bytes ≡ Ok x → TakesByte bytes x.0 x.1 × (x.0 ≤ 7)
unfolding mask_at
mask_takes bytes x fits e =
    by_ok (byte_at Cut bytes) _ x e (λ m e0 k0.
    let g = no_fault (ltb 7 m.0) Form m x k0 in
    subst (λ (y : ℕ × List ℕ). TakesByte bytes y.0 y.1 × (y.0 ≤ 7)) g.1 (byte_takes Cut bytes m fits e0, ltb-false _ _ g.0))

pub mask_again : (mask : ℕ) (rest : List ℕ) → mask ≤ 7 → mask_at (mask ∷ rest) ≡ Ok (mask, rest)
unfolding mask_at byte_at
mask_again mask rest small = rw (le-ltb 7 mask small) refl
