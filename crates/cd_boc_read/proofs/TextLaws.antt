-- The text of a cell that is read is the text that was written, and what was written is read again.
use Rattle.std.proofs.Common.{◌≡◌, ◌≢◌, ℕ, zero, suc, ◌+◌, ◌-◌, ◌*◌, ◌/◌, ◌%◌, ◌^◌, ◌<◌, ◌≤◌, Bool, true, false, not, ◌&&◌, ◌||◌, cond, eqb, leb, ltb, List, [], ◌∷◌, ◌++◌, length, get_or, subst, Option, Some, None, Ok, refl, sym, ap, ap₂, ◌∙◌, append_assoc, arith}
use Rattle.std.specs.Prelude.{IfSome, is_some}
use Rattle.std.specs.Option.{unwrap_or}
use Rattle.std.specs.List.{list_all}
use Rattle.std.specs.Int.{w8, trailing_zeros}
use Rattle.std.proofs.lemmas.Bool.{eqb-true, eqb-false, eq-eqb, ne_eqb, leb-true, le-leb, ltb-true, lt-ltb, false≢true}
use Rattle.std.proofs.lemmas.List.{nil_from_length}
use Rattle.cd_base.specs.Numbers.{IsBytes}
use Rattle.cd_cell.specs.BitText.{data_of, data_bits}
use Rattle.cd_cell.specs.Levels.{descriptor2}
use Rattle.cd_cell.proofs.BitLemmas.{data_of-whole, data_of-completed, kept-few, length-first_bits, length-data_of, bits_of_whole_data, bits_of_cut_data}
use Rattle.cd_boc_write.specs.Frames.{numbers_text}
use Rattle.cd_boc_write.specs.CellTexts.{Text, first_descriptor, cell_text}
use Rattle.cd_boc_read.specs.declared.bag_fault.BagFault.{BagFault}
use Rattle.cd_boc_read.specs.declared.bag_fault.BagFault.TheVariants.{Descriptor, Completion, Order}
use Rattle.cd_boc_read.specs.Grammar.{IsText, stored_len}
use Rattle.cd_boc_read.specs.Reading.{numbers_at, stored_bytes, is_completed, is_later, text_of, parts_at, text_at}
use Rattle.cd_base.specs.Reading.{part_at}
use Rattle.cd_boc_read.proofs.NumberFields.{both}
use Rattle.cd_boc_read.proofs.FlagBits.{flag_value, bit, bit-lt, bit-back, bit-times}
use Rattle.cd_boc_read.proofs.FieldLaws.{numbers_take, numbers_again}
use Rattle.cd_base.proofs.ReadingLaws.{ok_is, by_ok, by_test, Takes, Takes-then, Takes-same, part_takes, part_again}
use Rattle.cd_boc_read.proofs.HeaderLaws.{AreBelow}

-- ---- the data

-- the bits that data spell
pub record AreBits (whole : Bool) (held : List ℕ) (bits : List Bool) : Type 0 where
  pub few : length bits ≤ 1023
  pub text : data_of bits ≡ held
  pub whole_is : eqb (length bits % 8) 0 ≡ whole

pub whole_bits : (held : List ℕ) → IsBytes held → length held ≤ 127 → AreBits true held (data_bits true held)
whole_bits held fits short =
    let counted = length-first_bits (8 * length held) held (omega arith) in
    record { few = omega (arith, counted); text = data_of-whole held fits; whole_is = eq-eqb _ _ (omega (arith, counted)) }

pub cut_bits : (held : List ℕ) → IsBytes held → 0 < length held → length held ≤ 128 → get_or held (length held - 1) 0 % 128 ≢ 0 → AreBits false held (data_bits false held)
cut_bits held fits some short tagged =
    let last = get_or held (length held - 1) 0 in
    let few = kept-few held last fits some refl tagged in
    let counted : length (data_bits false held) ≡ 8 * length held - 1 - trailing_zeros w8 last = length-first_bits (8 * length held - 1 - trailing_zeros w8 last) held (omega arith) in
    record {
      few = omega (arith, counted);
      text = data_of-completed held last fits some refl tagged;
      whole_is = ne_eqb _ _ (λ (h : length (data_bits false held) % 8 ≡ 0). omega (arith, few, some, counted, h));
    }

not-true : (b : Bool) → not b ≡ true → b ≡ false
not-true true e = absurd (false≢true e)
not-true false e = refl

-- the data that a second descriptor announces
held_bits : (second : ℕ) (held : List ℕ) (whole : Bool) → eqb (second % 2) 0 ≡ whole → second < 256 → IsBytes held → length held ≡ (second + 1) / 2
    → (whole || not (eqb (get_or held (length held - 1) 0 % 128) 0)) ≡ true → AreBits whole held (data_bits whole held)
held_bits second held true is small fits counted completed =
    let even : second % 2 ≡ 0 = eqb-true (second % 2) 0 is in
    whole_bits held fits (omega arith)
held_bits second held false is small fits counted completed =
    let odd : second % 2 ≢ 0 = eqb-false (second % 2) 0 is in
    let last = get_or held (length held - 1) 0 in
    cut_bits held fits (omega arith) (omega arith) (eqb-false (last % 128) 0 (not-true (eqb (last % 128) 0) completed))

second_whole : (n second : ℕ) → (n + 7) / 8 ≡ (second + 1) / 2 → n % 8 ≡ 0 → second % 2 ≡ 0 → n / 8 + (n + 7) / 8 ≡ second
second_whole n second len a b = omega arith

second_cut : (n second : ℕ) → (n + 7) / 8 ≡ (second + 1) / 2 → n % 8 ≢ 0 → second % 2 ≢ 0 → n / 8 + (n + 7) / 8 ≡ second
second_cut n second len a b = omega arith

second_is : (n second : ℕ) (whole : Bool) → (n + 7) / 8 ≡ (second + 1) / 2 → eqb (n % 8) 0 ≡ whole → eqb (second % 2) 0 ≡ whole → n / 8 + (n + 7) / 8 ≡ second
second_is n second true len a b = second_whole n second len (eqb-true _ _ a) (eqb-true _ _ b)
second_is n second false len a b = second_cut n second len (eqb-false _ _ a) (eqb-false _ _ b)

-- the second descriptor of the bits that were read
descriptor2-read : (second : ℕ) (held : List ℕ) (bits : List Bool) → length held ≡ (second + 1) / 2 → AreBits (eqb (second % 2) 0) held bits → descriptor2 bits ≡ second
descriptor2-read second held bits counted h =
    second_is (length bits) second (eqb (second % 2) 0) (sym (length-data_of bits) ∙ ap length h.text ∙ counted) h.whole_is refl

even_whole : (n : ℕ) → n % 8 ≡ 0 → (n / 8 + (n + 7) / 8) % 2 ≡ 0
even_whole n whole = omega arith

odd_cut : (n : ℕ) → n % 8 ≢ 0 → (n / 8 + (n + 7) / 8) % 2 ≢ 0
odd_cut n cut even = omega arith

whole_is : (n : ℕ) (whole : Bool) → eqb (n % 8) 0 ≡ whole → eqb ((n / 8 + (n + 7) / 8) % 2) 0 ≡ whole
whole_is n true is = eq-eqb _ _ (even_whole n (eqb-true _ _ is))
whole_is n false is = ne_eqb _ _ (odd_cut n (eqb-false _ _ is))

len_is : (n : ℕ) → (n / 8 + (n + 7) / 8 + 1) / 2 ≡ (n + 7) / 8
len_is n = omega arith

-- the data of some bits are read as those bits
pub record AreRead (bits : List Bool) : Type 0 where
  pub counted : length (data_of bits) ≡ (descriptor2 bits + 1) / 2
  pub completed : is_completed (descriptor2 bits) (data_of bits) ≡ true
  pub same : data_bits (eqb (descriptor2 bits % 2) 0) (data_of bits) ≡ bits

bits_by : (bits : List Bool) (whole : Bool) → length bits ≤ 1023 → eqb (length bits % 8) 0 ≡ whole
    → ((whole || not (eqb (get_or (data_of bits) (length (data_of bits) - 1) 0 % 128) 0)) ≡ true) × (data_bits whole (data_of bits) ≡ bits)
bits_by bits true few is = (refl, (bits_of_whole_data bits (data_of bits) few refl (eqb-true _ _ is)).1)
bits_by bits false few is =
    let r = bits_of_cut_data bits (data_of bits) (get_or (data_of bits) (length (data_of bits) - 1) 0) few refl (eqb-false _ _ is) refl in
    (ap not (ne_eqb _ _ r.tagged), r.same)

pub bits_read : (bits : List Bool) → length bits ≤ 1023 → AreRead bits
unfolding is_completed
bits_read bits few =
    let w = whole_is (length bits) (eqb (length bits % 8) 0) refl in
    let b = bits_by bits (eqb (length bits % 8) 0) few refl in
    record {
      counted = length-data_of bits ∙ sym (len_is (length bits));
      completed = ap (λ whole. whole || not (eqb (get_or (data_of bits) (length (data_of bits) - 1) 0 % 128) 0)) w ∙ b.0;
      same = ap (λ whole. data_bits whole (data_of bits)) w ∙ b.1;
    }

-- ---- the first descriptor

is_some-cond : {A : Type 0} (b : Bool) (x : A) → is_some (cond b (Some x) None) ≡ b
is_some-cond true x = refl
is_some-cond false x = refl

first_sum : (first : ℕ) → first % 8 + 8 * (first / 8 % 2) + 16 * (first / 16 % 2) + 32 * (first / 32) ≡ first
first_sum first = omega arith

first_is : (first second : ℕ) (stored held refs : List ℕ) → length refs ≡ first % 8 → first_descriptor (text_of first second stored held refs) ≡ first
unfolding text_of
first_is first second stored held refs counted =
    rw (counted, is_some-cond (eqb (first / 16 % 2) 1) stored, flag_value (first / 8 % 2) 8 (omega arith), flag_value (first / 16 % 2) 16 (omega arith)) (first_sum first)

record AreParts (first count exotic stored mask : ℕ) : Type 0 where
  count_is : first % 8 ≡ count
  exotic_is : first / 8 % 2 ≡ exotic
  stored_is : first / 16 % 2 ≡ stored
  mask_is : first / 32 ≡ mask

parts_of : (count exotic stored mask : ℕ) → count ≤ 4 → exotic < 2 → stored < 2 → AreParts (count + 8 * exotic + 16 * stored + 32 * mask) count exotic stored mask
parts_of count exotic stored mask a b c = record { count_is = omega arith; exotic_is = omega arith; stored_is = omega arith; mask_is = omega arith }

first_parts : (t : Text) → length t.entry.refs ≤ 4 → AreParts (first_descriptor t) (length t.entry.refs) (bit t.entry.exotic) (bit (is_some t.stored)) t.mask
first_parts t few =
    rw (bit-times t.entry.exotic 8, bit-times (is_some t.stored) 16) (parts_of (length t.entry.refs) (bit t.entry.exotic) (bit (is_some t.stored)) t.mask few (bit-lt t.entry.exotic) (bit-lt (is_some t.stored)))

-- ---- the references

abbrev pub AreLater : ℕ → ℕ → List ℕ → Type 0
AreLater cells number refs = (p : ℕ) → p < length refs → (number < get_or refs p 0) × (get_or refs p 0 < cells)

later_more : (cells number r : ℕ) (refs : List ℕ) → number < r → r < cells → AreLater cells number refs → AreLater cells number (r ∷ refs)
later_more cells number r refs a b h zero in' = (a, b)
later_more cells number r refs a b h (suc p) in' = h p (omega arith)

pub later_each : (cells number : ℕ) (refs : List ℕ) → list_all (is_later cells number) refs ≡ true → AreLater cells number refs
unfolding is_later
later_each cells number [] e = λ p in'. absurd (omega arith)
later_each cells number (r ∷ refs) e =
    let k = both (ltb number r && ltb r cells) (list_all (is_later cells number) refs) e in
    let f = both (ltb number r) (ltb r cells) k.0 in
    later_more cells number r refs (ltb-true number r f.0) (ltb-true r cells f.1) (later_each cells number refs k.1)

pub each_later : (cells number : ℕ) (refs : List ℕ) → AreLater cells number refs → list_all (is_later cells number) refs ≡ true
unfolding is_later
each_later cells number [] h = refl
each_later cells number (r ∷ refs) h =
    let first : (number < r) × (r < cells) = h 0 (omega arith) in
    rw (lt-ltb number r first.0, lt-ltb r cells first.1) (each_later cells number refs (λ p in'. h (suc p) (omega arith)))

-- ---- the parts behind the descriptors

-- what stands behind the descriptors
abbrev pub tail_text : ℕ → Text → List ℕ
tail_text size t = unwrap_or t.stored [] ++ data_of t.entry.bits ++ numbers_text size t.entry.refs

stored_text_is : (b : Bool) (stored : List ℕ) (len : ℕ) → length stored ≡ cond b len 0 → stored ≡ unwrap_or (cond b (Some stored) None) []
stored_text_is true stored len is = refl
stored_text_is false stored len is = nil_from_length stored is

stored_len_is : (b : Bool) (stored : List ℕ) (len : ℕ) → length stored ≡ cond b len 0 → IfSome (cond b (Some stored) None) (λ bytes. length bytes ≡ len)
stored_len_is true stored len is = is
stored_len_is false stored len is = tt

pub record IsRead (size cells number first second : ℕ) (bytes : List ℕ) (x : Text × List ℕ) : Type 0 where
  pub takes : Takes bytes (tail_text size x.0) x.1
  pub first_is : first_descriptor x.0 ≡ first
  pub second_is : descriptor2 x.0.entry.bits ≡ second
  pub text : IsText cells number x.0

pub parts_take : (fault : BagFault) (size cells number first second : ℕ) (bytes : List ℕ) (x : Text × List ℕ) → IsBytes bytes → first < 256 → second < 256 → first % 8 ≤ 4
    → parts_at fault size cells number first second bytes ≡ Ok x → IsRead size cells number first second bytes x
unfolding parts_at text_of is_completed
parts_take fault size cells number first second bytes x fits small_first small_second few e =
    by_ok (part_at fault (stored_bytes first) bytes) _ x e (λ stored e0 k0.
    by_ok (part_at fault ((second + 1) / 2) stored.1) _ x k0 (λ held e1 k1.
    by_ok (numbers_at fault size (first % 8) held.1) _ x k1 (λ refs e2 k2.
    by_test (is_completed second held.0) (Completion number) _ x k2 (λ completed k3.
    by_test (list_all (is_later cells number) refs.0) (Order number) _ x k3 (λ later k4.
    let t0 = part_takes fault (stored_bytes first) bytes stored fits e0 in
    let t1 = part_takes fault ((second + 1) / 2) stored.1 held t0.0.rest_fits e1 in
    let t2 = numbers_take fault size (first % 8) held.1 refs t1.0.rest_fits e2 in
    let bits = data_bits (eqb (second % 2) 0) held.0 in
    let b : AreBits (eqb (second % 2) 0) held.0 bits = held_bits second held.0 (eqb (second % 2) 0) refl small_second t1.0.text_fits t1.1 completed in
    let l = later_each cells number refs.0 later in
    let has_stored = eqb (first / 16 % 2) 1 in
    let front : Takes bytes (unwrap_or (cond has_stored (Some stored.0) None) []) stored.1 =
    Takes-same bytes stored.0 (unwrap_or (cond has_stored (Some stored.0) None) []) stored.1 (stored_text_is has_stored stored.0 (stored_len (first / 32)) t0.1) t0.0
    in
    let middle : Takes stored.1 (data_of bits) held.1 = Takes-same stored.1 held.0 (data_of bits) held.1 (sym b.text) t1.0 in
    let two = Takes-then bytes (unwrap_or (cond has_stored (Some stored.0) None) []) stored.1 (data_of bits) held.1 front middle in
    let all = Takes-then bytes (unwrap_or (cond has_stored (Some stored.0) None) [] ++ data_of bits) held.1 (numbers_text size refs.0) refs.1 two t2.0 in
    let text : IsText cells number (text_of first second stored.0 held.0 refs.0) = record {
      few_bits = b.few;
      few_refs = omega (arith, t2.1, few);
      mask = omega (arith, small_first);
      stored = stored_len_is has_stored stored.0 (stored_len (first / 32)) t0.1;
      later = λ p in'. (l p in').0;
      there = λ p in'. (l p in').1;
    } in
    let read : IsRead size cells number first second bytes (text_of first second stored.0 held.0 refs.0, refs.1) = record {
      takes = all;
      first_is = first_is first second stored.0 held.0 refs.0 t2.1;
      second_is = descriptor2-read second held.0 bits t1.1 b;
      text = text;
    } in
    subst (IsRead size cells number first second bytes) (ok_is (text_of first second stored.0 held.0 refs.0, refs.1) x k4) read)))))

three : (a b c rest : List ℕ) → (a ++ b ++ c) ++ rest ≡ a ++ (b ++ (c ++ rest))
three a b c rest = simp append_assoc

parts_read : (fault : BagFault) (size cells number first second : ℕ) (stored held refs rest : List ℕ) → length stored ≡ stored_bytes first → length held ≡ (second + 1) / 2 → length refs ≡ first % 8
    → AreBelow (256 ^ size) refs → is_completed second held ≡ true → list_all (is_later cells number) refs ≡ true
    → parts_at fault size cells number first second (stored ++ (held ++ (numbers_text size refs ++ rest))) ≡ Ok (text_of first second stored held refs, rest)
unfolding parts_at
parts_read fault size cells number first second stored held refs rest a b c fit completed later =
    rw (
      part_again fault (stored_bytes first) stored (held ++ (numbers_text size refs ++ rest)) a,
      part_again fault ((second + 1) / 2) held (numbers_text size refs ++ rest) b,
      sym c,
      numbers_again fault size refs rest fit,
      completed,
      later,
    ) refl

-- ---- the text

two_bytes : (a b : ℕ) (rest : List ℕ) → a < 256 → b < 256 → IsBytes rest → IsBytes (a ∷ b ∷ rest)
two_bytes a b rest p q h zero = p
two_bytes a b rest p q h (suc zero) = q
two_bytes a b rest p q h (suc (suc i)) = h i

pub text_takes : (fault : BagFault) (size cells number : ℕ) (bytes : List ℕ) (x : Text × List ℕ) → IsBytes bytes → text_at fault size cells number bytes ≡ Ok x
    → Takes bytes (cell_text size x.0) x.1 × IsText cells number x.0
unfolding text_at cell_text
text_takes fault size cells number [] x fits e = absurd cc
text_takes fault size cells number (first ∷ []) x fits e = absurd cc
text_takes fault size cells number (first ∷ second ∷ bytes) x fits e =
    by_test (leb (first % 8) 4) (Descriptor number) _ x e (λ few k.
    let small_first : first < 256 = fits 0 in
    let small_second : second < 256 = fits 1 in
    let r = parts_take fault size cells number first second bytes x (λ i. fits (suc (suc i))) small_first small_second (leb-true (first % 8) 4 few) k in
    let whole : Takes (first ∷ second ∷ bytes) (first ∷ second ∷ tail_text size x.0) x.1 = record {
      parts = ap (λ (w : List ℕ). first ∷ second ∷ w) r.takes.parts;
      text_fits = two_bytes first second (tail_text size x.0) small_first small_second r.takes.text_fits;
      rest_fits = r.takes.rest_fits;
    } in
    let spelt : ◌≡◌ {A = List ℕ} (first ∷ second ∷ tail_text size x.0) (first_descriptor x.0 ∷ descriptor2 x.0.entry.bits ∷ tail_text size x.0) =
    ap₂ (λ (a b : ℕ). a ∷ b ∷ tail_text size x.0) (sym r.first_is) (sym r.second_is)
    in
    (Takes-same (first ∷ second ∷ bytes) (first ∷ second ∷ tail_text size x.0) (first_descriptor x.0 ∷ descriptor2 x.0.entry.bits ∷ tail_text size x.0) x.1 spelt whole, r.text))

stored_again : (o : Option (List ℕ)) → cond (is_some o) (Some (unwrap_or o [])) None ≡ o
stored_again None = refl
stored_again (Some bytes) = refl

stored_counted : (o : Option (List ℕ)) (len : ℕ) → IfSome o (λ bytes. length bytes ≡ len) → length (unwrap_or o []) ≡ cond (is_some o) len 0
stored_counted None len h = refl
stored_counted (Some bytes) len h = h

text_of-text : (t : Text) → length t.entry.refs ≤ 4 → length t.entry.bits ≤ 1023 → text_of (first_descriptor t) (descriptor2 t.entry.bits) (unwrap_or t.stored []) (data_of t.entry.bits) t.entry.refs ≡ t
unfolding text_of
text_of-text t few_refs few_bits =
    let p = first_parts t few_refs in
    let b = bits_read t.entry.bits few_bits in
    rw (p.exotic_is, p.stored_is, p.mask_is, bit-back t.entry.exotic, bit-back (is_some t.stored), stored_again t.stored, b.same) refl

stored_bytes-text : (t : Text) → length t.entry.refs ≤ 4 → stored_bytes (first_descriptor t) ≡ cond (is_some t.stored) (stored_len t.mask) 0
stored_bytes-text t few =
    let p = first_parts t few in
    rw (p.stored_is, p.mask_is, bit-back (is_some t.stored)) refl

pub text_again : (fault : BagFault) (size cells number : ℕ) (t : Text) (rest : List ℕ) → cells ≤ 256 ^ size → IsText cells number t → text_at fault size cells number (cell_text size t ++ rest) ≡ Ok (t, rest)
unfolding text_at cell_text
text_again fault size cells number t rest fit h =
    let p = first_parts t h.few_refs in
    let b = bits_read t.entry.bits h.few_bits in
    let first = first_descriptor t in
    let second = descriptor2 t.entry.bits in
    let few : leb (first % 8) 4 ≡ true = le-leb (first % 8) 4 (omega (arith, p.count_is, h.few_refs)) in
    let later = each_later cells number t.entry.refs (λ q in'. (h.later q in', h.there q in')) in
    let read = parts_read fault size cells number first second (unwrap_or t.stored []) (data_of t.entry.bits) t.entry.refs rest (stored_counted t.stored (stored_len t.mask) h.stored ∙ sym (stored_bytes-text t h.few_refs))
    b.counted (sym p.count_is) (λ q in'. omega (arith, h.there q in', fit)) b.completed later in
    rw few
    (ap (parts_at fault size cells number first second) (three (unwrap_or t.stored []) (data_of t.entry.bits) (numbers_text size t.entry.refs) rest)
    ∙ read
    ∙ ap (λ (u : Text). Ok (u, rest)) (text_of-text t h.few_refs h.few_bits))
