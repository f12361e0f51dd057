-- Bits to bytes and back.
use Rattle.std.proofs.Common.{◌≡◌, ℕ, zero, suc, ◌+◌, ◌-◌, ◌*◌, ◌/◌, ◌%◌, ◌^◌, ◌<◌, ◌≤◌, Bool, true, false, List, [], ◌∷◌, ◌++◌, length, take, drop, get_or, replicate, refl, sym, ap, ap₂, ◌∙◌, zero-add, arith, eqb, eq-eqb, ◌≢◌, not, ◌||◌, ⊎_elim, if◌then◌else◌, ◌==◌, nat_eq, nat_lt, nat_le, append_assoc, length-drop, slice_get, slice_index, bit_and, bit_or, set, Some, length-append}
use Rattle.std.proofs.lemmas.Bool.{ne_eqb, eqb-true, leb-true, eqb-false, not-true, ltb-true, cond-true, cond-false, agree_below, agree_below_at, or_cases}
use Rattle.std.specs.Int.{w8, trailing_zeros}
use Rattle.std.specs.Int.Count.{count_trailing_zeros}
use Rattle.std.specs.List.{flat_map}
use Rattle.std.proofs.lemmas.List.{drop-drop, take_at, get_or_append_left, get_or-take, drop-replicate, set_at, length-take-le, take_all, take_more, append-nil}
use Rattle.std.proofs.lemmas.Option.{slice_get-get_or}
use Rattle.std.proofs.lemmas.Nat.Bits.{shr_and_one}
use Rattle.std.specs.Int.{div_ceil}
use Rattle.std.specs.Str.{bytes_eq}
use Rattle.std.specs.Cmp.Lexicographic.{bytes_decides}
use Rattle.std.proofs.lemmas.Bool.Decides.{same_from_decides}
use Rattle.cd_cell.specs.Equality.{same_bits, same_bits-Decides}
use Rattle.cd_cell.specs.BitText.{is_odd, bit_value, number_from, byte_of_bits, packed, byte_count, data_of, bits_of_byte, first_bits, filled, IsBitText}

bit_value-le : (b : Bool) → bit_value b ≤ 1
bit_value-le true = omega arith
bit_value-le false = omega arith

is_odd-twice : (n : ℕ) (b : Bool) → is_odd (2 * n + bit_value b) ≡ b
is_odd-twice n true = eq-eqb _ _ (omega arith)
is_odd-twice n false = ne_eqb _ _ (λ h. omega arith)

half : (n : ℕ) (b : Bool) → (2 * n + bit_value b) / 2 ≡ n
half n b = omega (arith, bit_value-le b)

half4 : (n : ℕ) (b : Bool) → (2 * n + bit_value b) / 4 ≡ n / 2
half4 n b = omega (arith, bit_value-le b)

half8 : (n : ℕ) (b : Bool) → (2 * n + bit_value b) / 8 ≡ n / 4
half8 n b = omega (arith, bit_value-le b)

half16 : (n : ℕ) (b : Bool) → (2 * n + bit_value b) / 16 ≡ n / 8
half16 n b = omega (arith, bit_value-le b)

half32 : (n : ℕ) (b : Bool) → (2 * n + bit_value b) / 32 ≡ n / 16
half32 n b = omega (arith, bit_value-le b)

half64 : (n : ℕ) (b : Bool) → (2 * n + bit_value b) / 64 ≡ n / 32
half64 n b = omega (arith, bit_value-le b)

half128 : (n : ℕ) (b : Bool) → (2 * n + bit_value b) / 128 ≡ n / 64
half128 n b = omega (arith, bit_value-le b)

-- the bits of a number that bits spell
ruleset spelt = (half, half4, half8, half16, half32, half64, half128, is_odd-twice)

pub data_of-eight : (a b c d e f g h : Bool) (bs : List Bool) → data_of (a ∷ b ∷ c ∷ d ∷ e ∷ f ∷ g ∷ h ∷ bs) ≡ number_from 0 (a ∷ b ∷ c ∷ d ∷ e ∷ f ∷ g ∷ h ∷ []) ∷ data_of bs
unfolding packed
data_of-eight a b c d e f g h bs =
    let all : List Bool = a ∷ b ∷ c ∷ d ∷ e ∷ f ∷ g ∷ h ∷ bs in
    let counted : byte_count (length all) ≡ suc (byte_count (length bs)) = omega arith in
    ap (λ n. packed n all) counted

-- the bits are those of their bytes
pub first_bits-data_of : (bs : List Bool) (bytes : List ℕ) → first_bits (length bs) (data_of bs ++ bytes) ≡ bs
unfolding packed
first_bits-data_of [] bytes = refl
first_bits-data_of (a ∷ []) bytes = simp spelt
first_bits-data_of (a ∷ b ∷ []) bytes = simp spelt
first_bits-data_of (a ∷ b ∷ c ∷ []) bytes = simp spelt
first_bits-data_of (a ∷ b ∷ c ∷ d ∷ []) bytes = simp spelt
first_bits-data_of (a ∷ b ∷ c ∷ d ∷ e ∷ []) bytes = simp spelt
first_bits-data_of (a ∷ b ∷ c ∷ d ∷ e ∷ f ∷ []) bytes = simp spelt
first_bits-data_of (a ∷ b ∷ c ∷ d ∷ e ∷ f ∷ g ∷ []) bytes = simp spelt
first_bits-data_of (a ∷ b ∷ c ∷ d ∷ e ∷ f ∷ g ∷ h ∷ bs) bytes =
    rw (data_of-eight a b c d e f g h bs) (simp spelt (ap (λ r. a ∷ b ∷ c ∷ d ∷ e ∷ f ∷ g ∷ h ∷ r) (first_bits-data_of bs bytes)))

pub length-packed : (n : ℕ) (bs : List Bool) → length (packed n bs) ≡ n
unfolding packed
length-packed zero bs = refl
length-packed (suc n) bs = ap suc (length-packed n (drop 8 bs))

pub length-data_of : (bs : List Bool) → length (data_of bs) ≡ byte_count (length bs)
length-data_of bs = length-packed (byte_count (length bs)) bs

-- a test of each byte, tried on all of them
byte_of_bits-byte : (byte : ℕ) → byte < 256 → byte_of_bits (bits_of_byte byte) ≡ byte
byte_of_bits-byte byte small = eqb-true _ _ (agree_below_at (λ b. eqb (byte_of_bits (bits_of_byte b)) b) (λ _. true) 256 byte refl small)

-- the first bits of a byte, completed
abbrev pub cut_byte : ℕ → ℕ → ℕ
cut_byte kept byte = byte_of_bits (take kept (bits_of_byte byte))

-- the bits before the lowest one that is set, completed, are the byte
pub cut_byte-trailing_zeros : (byte : ℕ) → byte < 256 → byte % 128 ≢ 0 → cut_byte (7 - trailing_zeros w8 byte) byte ≡ byte
unfolding count_trailing_zeros
cut_byte-trailing_zeros byte small some =
    let test = agree_below_at (λ b. eqb (b % 128) 0 || eqb (cut_byte (7 - trailing_zeros w8 b) b) b) (λ _. true) 256 byte refl small in
    ⊎_elim (λ h. absurd (some (eqb-true _ _ h))) (λ h. eqb-true _ _ h) (or_cases _ _ test)

-- what is kept of a byte of which fewer than eight bits are taken
abbrev pub last_byte : ℕ → ℕ → List ℕ
last_byte kept byte = if kept == 0 then [] else cut_byte kept byte ∷ []

data_of-take : (kept byte : ℕ) (bs : List Bool) → kept < 8 → data_of (take kept (bits_of_byte byte ++ bs)) ≡ last_byte kept byte
unfolding packed
data_of-take zero byte bs few = refl
data_of-take (suc zero) byte bs few = refl
data_of-take (suc (suc zero)) byte bs few = refl
data_of-take (suc (suc (suc zero))) byte bs few = refl
data_of-take (suc (suc (suc (suc zero)))) byte bs few = refl
data_of-take (suc (suc (suc (suc (suc zero))))) byte bs few = refl
data_of-take (suc (suc (suc (suc (suc (suc zero)))))) byte bs few = refl
data_of-take (suc (suc (suc (suc (suc (suc (suc zero))))))) byte bs few = refl
data_of-take (suc (suc (suc (suc (suc (suc (suc (suc kept)))))))) byte bs few = absurd (omega arith)

-- the data of the first bits of some bytes: the full bytes, and what is kept of the next one
pub data_of-first_bits : (full kept : ℕ) (bytes : List ℕ) → ((i : ℕ) → get_or bytes i 0 < 256) → kept < 8 → 8 * full + kept ≤ 8 * length bytes →
    data_of (first_bits (8 * full + kept) bytes) ≡ take full bytes ++ last_byte kept (get_or bytes full 0)
unfolding packed
data_of-first_bits zero kept [] small few enough =
    let none : kept ≡ 0 = omega arith in rw none refl
data_of-first_bits zero kept (byte ∷ bytes) small few enough = rw zero-add (data_of-take kept byte (flat_map bits_of_byte bytes) few)
data_of-first_bits (suc full) kept [] small few enough = absurd (omega arith)
data_of-first_bits (suc full) kept (byte ∷ bytes) small few enough =
    let later = data_of-first_bits full kept bytes (λ i. small (suc i)) few (omega arith) in
    let counted : 8 * suc full + kept ≡ suc (suc (suc (suc (suc (suc (suc (suc (8 * full + kept)))))))) = omega arith in
    rw counted
    (data_of-eight _ _ _ _ _ _ _ _ (first_bits (8 * full + kept) bytes) ∙ ap₂ (λ (b : ℕ) (bs : List ℕ). b ∷ bs) (byte_of_bits-byte byte (small 0)) later)

pub length-flat_map-bits : (bytes : List ℕ) → length (flat_map bits_of_byte bytes) ≡ 8 * length bytes
length-flat_map-bits [] = refl
length-flat_map-bits (byte ∷ bytes) = omega (arith, length-flat_map-bits bytes)

-- the bit in a place of a byte
bit_of_byte : (byte at : ℕ) (bs : List Bool) → at < 8 → get_or (bits_of_byte byte ++ bs) at false ≡ is_odd (byte / 2 ^ (7 - at))
bit_of_byte byte zero bs h = refl
bit_of_byte byte (suc zero) bs h = refl
bit_of_byte byte (suc (suc zero)) bs h = refl
bit_of_byte byte (suc (suc (suc zero))) bs h = refl
bit_of_byte byte (suc (suc (suc (suc zero)))) bs h = refl
bit_of_byte byte (suc (suc (suc (suc (suc zero))))) bs h = refl
bit_of_byte byte (suc (suc (suc (suc (suc (suc zero)))))) bs h = refl
bit_of_byte byte (suc (suc (suc (suc (suc (suc (suc zero))))))) bs h =
    let lowest : byte ≡ byte / 1 = omega arith in ap is_odd lowest
bit_of_byte byte (suc (suc (suc (suc (suc (suc (suc (suc at)))))))) bs h = absurd (omega arith)

-- the bit in a place of some bytes
pub bit_of_bytes : (full at : ℕ) (bytes : List ℕ) → at < 8 → full < length bytes → get_or (flat_map bits_of_byte bytes) (8 * full + at) false ≡ is_odd (get_or bytes full 0 / 2 ^ (7 - at))
bit_of_bytes full at [] h inside = absurd (omega arith)
bit_of_bytes zero at (byte ∷ bytes) h inside = rw zero-add (bit_of_byte byte at (flat_map bits_of_byte bytes) h)
bit_of_bytes (suc full) at (byte ∷ bytes) h inside =
    let counted : 8 * suc full + at ≡ suc (suc (suc (suc (suc (suc (suc (suc (8 * full + at)))))))) = omega arith in
    rw counted (bit_of_bytes full at bytes h (omega arith))

-- a byte of the data
get_or-packed : (n at : ℕ) (bs : List Bool) → at < n → get_or (packed n bs) at 0 ≡ byte_of_bits (take 8 (drop (8 * at) bs))
unfolding packed
get_or-packed zero at bs h = absurd (omega arith)
get_or-packed (suc n) zero bs h = refl
get_or-packed (suc n) (suc at) bs h =
    let counted : 8 + 8 * at ≡ 8 * suc at = omega arith in
    get_or-packed n at (drop 8 bs) (omega arith) ∙ ap (λ (xs : List Bool). byte_of_bits (take 8 xs)) (drop-drop (8 * at) 8 bs ∙ ap (λ n. drop n bs) counted)

pub get_or-data_of : (at : ℕ) (bs : List Bool) → 8 * at < length bs → get_or (data_of bs) at 0 ≡ byte_of_bits (take 8 (drop (8 * at) bs))
get_or-data_of at bs h = get_or-packed _ at bs (omega arith)

pub length-first_bits : (count : ℕ) (bytes : List ℕ) → count ≤ 8 * length bytes → length (first_bits count bytes) ≡ count
length-first_bits count bytes enough = length-take-le count (flat_map bits_of_byte bytes) (omega (arith, length-flat_map-bits bytes))

-- the text of the first bits of some bytes has the same first bits
pub first_bits-filled : (count : ℕ) (bytes text : List ℕ) → count ≤ 8 * length bytes → text ≡ filled (data_of (first_bits count bytes)) → first_bits count text ≡ first_bits count bytes
first_bits-filled count bytes text enough is =
    let bs = first_bits count bytes in
    let counted = length-first_bits count bytes enough in
    rw is (ap (λ n. first_bits n (filled (data_of bs))) (sym counted) ∙ first_bits-data_of bs (replicate (128 - length (data_of bs)) 0))

pub IsBitText-filled : (count : ℕ) (bytes text : List ℕ) → count ≤ 1023 → count ≤ 8 * length bytes → text ≡ filled (data_of (first_bits count bytes)) → IsBitText text count
IsBitText-filled count bytes text few enough is =
    let same = first_bits-filled count bytes text enough is in
    record {
      few = few;
      counted = ap length same ∙ length-first_bits count bytes enough;
      text = is ∙ ap (λ xs. filled (data_of xs)) (sym same);
    }

-- the data stand in front of the text
pub take-text : (count : ℕ) (text : List ℕ) → IsBitText text count → take (div_ceil count 8) text ≡ data_of (first_bits count text)
take-text count text kept =
    let bs = first_bits count text in
    let front : length (data_of bs) ≡ div_ceil count 8 = omega (arith, length-data_of bs, kept.counted) in
    ap (take (div_ceil count 8)) kept.text ∙ take_at (data_of bs) _ _ front

-- a full byte of the text
pub get_or-text : (count at : ℕ) (text : List ℕ) → IsBitText text count → 8 * at + 8 ≤ count → get_or text at 0 ≡ get_or (data_of (first_bits count text)) at 0
get_or-text count at text kept full =
    let bs = first_bits count text in
    ap (λ xs. get_or xs at 0) kept.text ∙ get_or_append_left (data_of bs) _ 0 at (omega (arith, length-data_of bs, kept.counted))

-- a bit, as it is read from its byte
pub slice_get-first_bits : (count at : ℕ) (bytes : List ℕ) → at < count → count ≤ 8 * length bytes → Some (nat_eq (bit_and (slice_index bytes (at / 8) / 2 ^ (7 - at % 8)) 1) 1) ≡ slice_get (first_bits count bytes) at
slice_get-first_bits count at bytes below enough =
    let place : 8 * (at / 8) + at % 8 ≡ at = omega arith in
    let there = bit_of_bytes (at / 8) (at % 8) bytes (omega arith) (omega arith) in
    let bit : get_or (first_bits count bytes) at false ≡ is_odd (slice_index bytes (at / 8) / 2 ^ (7 - at % 8)) =
    get_or-take count (flat_map bits_of_byte bytes) at false below ∙ ap (λ n. get_or (flat_map bits_of_byte bytes) n false) (sym place) ∙ there in
    rw (shr_and_one (slice_index bytes (at / 8)) (7 - at % 8))
    (ap Some (sym bit) ∙ sym (slice_get-get_or (first_bits count bytes) at false (omega (arith, length-first_bits count bytes enough))))

-- the code's mask, on each byte and each number of bits
pub cut_byte-masked : (byte kept : ℕ) → byte < 256 → kept < 8 → bit_or (bit_and byte (255 - (128 / 2 ^ kept - 1))) (128 / 2 ^ kept) ≡ cut_byte kept byte
cut_byte-masked byte kept small few =
    let same = λ (k b : ℕ). eqb (bit_or (bit_and b (255 - (128 / 2 ^ k - 1))) (128 / 2 ^ k)) (cut_byte k b) in
    let tried : agree_below (λ k. agree_below (same k) (λ _. true) 256) (λ _. true) 8 ≡ true = refl in
    eqb-true _ _ (agree_below_at (same kept) (λ _. true) 256 byte (agree_below_at (λ k. agree_below (same k) (λ _. true) 256) (λ _. true) 8 kept tried few) small)

-- the code's text of a whole number of bytes, and with a last byte behind them
module _ (count : ℕ) (bytes text : List ℕ) (small : (i : ℕ) → get_or bytes i 0 < 256) (few : count ≤ 1023) (enough : count ≤ 8 * length bytes) (put : text ≡ take (count / 8) bytes ++ drop (0 + length (take (count / 8) bytes)) (replicate 128 0)) where
  front : length (take (count / 8) bytes) ≡ count / 8
  front = length-take-le (count / 8) bytes (omega arith)

  zeros : text ≡ take (count / 8) bytes ++ replicate (128 - count / 8) 0
  zeros = put ∙ ap (λ n. take (count / 8) bytes ++ drop n (replicate 128 0)) (zero-add (length (take (count / 8) bytes)) ∙ front) ∙ ap (λ xs. take (count / 8) bytes ++ xs) (drop-replicate (count / 8) 128 0)

  split : data_of (first_bits count bytes) ≡ take (count / 8) bytes ++ last_byte (count % 8) (get_or bytes (count / 8) 0)
  split =
      let place : count ≡ 8 * (count / 8) + count % 8 = omega arith in
      ap (λ n. data_of (first_bits n bytes)) place ∙ data_of-first_bits (count / 8) (count % 8) bytes small (omega arith) (omega arith)

  pub text-whole : count % 8 ≡ 0 → text ≡ filled (data_of (first_bits count bytes))
  text-whole whole =
      let none : last_byte (count % 8) (get_or bytes (count / 8) 0) ≡ [] = cond-true _ _ _ (eq-eqb _ _ whole) in
      let same : data_of (first_bits count bytes) ≡ take (count / 8) bytes = split ∙ ap (λ xs. take (count / 8) bytes ++ xs) none ∙ append-nil (take (count / 8) bytes) in
      rw (same, front) zeros

  pub text-cut : 0 < count % 8 → set text (count / 8) (cut_byte (count % 8) (get_or bytes (count / 8) 0)) ≡ filled (data_of (first_bits count bytes))
  text-cut some =
      let last = cut_byte (count % 8) (get_or bytes (count / 8) 0) in
      let one : last_byte (count % 8) (get_or bytes (count / 8) 0) ≡ last ∷ [] = cond-false _ _ _ (ne_eqb (count % 8) 0 (λ h. omega arith)) in
      let same : data_of (first_bits count bytes) ≡ take (count / 8) bytes ++ last ∷ [] = split ∙ ap (λ xs. take (count / 8) bytes ++ xs) one in
      let counted : length (take (count / 8) bytes ++ last ∷ []) ≡ count / 8 + 1 = omega (arith, front, length-append (take (count / 8) bytes) (last ∷ [])) in
      let more : 128 - count / 8 ≡ suc (128 - (count / 8 + 1)) = omega arith in
      rw (same, counted)
      (ap (λ xs. set xs (count / 8) last) (zeros ∙ ap (λ n. take (count / 8) bytes ++ replicate n 0) more) ∙ set_at (take (count / 8) bytes) 0 _ last _ front ∙ sym (append_assoc (take (count / 8) bytes) (last ∷ []) _))

-- whole bytes are the data of their bits
pub data_of-whole : (bytes : List ℕ) → ((i : ℕ) → get_or bytes i 0 < 256) → data_of (first_bits (8 * length bytes) bytes) ≡ bytes
data_of-whole bytes small =
    let place : 8 * length bytes ≡ 8 * length bytes + 0 = omega arith in
    ap (λ n. data_of (first_bits n bytes)) place ∙ data_of-first_bits (length bytes) 0 bytes small (omega arith) (omega arith) ∙ append-nil (take (length bytes) bytes) ∙ take_all (length bytes) bytes (omega arith)

trailing_zeros-few : (byte : ℕ) → byte < 256 → byte % 128 ≢ 0 → trailing_zeros w8 byte < 7
unfolding count_trailing_zeros
trailing_zeros-few byte small some =
    let test = agree_below_at (λ b. eqb (b % 128) 0 || nat_lt (trailing_zeros w8 b) 7) (λ _. true) 256 byte refl small in
    ⊎_elim (λ h. absurd (some (eqb-true _ _ h))) (λ h. ltb-true _ _ h) (or_cases _ _ test)

-- bytes whose last one was completed are the data of the bits before the lowest one that is set there
module _ (bytes : List ℕ) (last : ℕ) (small : (i : ℕ) → get_or bytes i 0 < 256) (some : 0 < length bytes) (is : last ≡ get_or bytes (length bytes - 1) 0) (some_tag : last % 128 ≢ 0) where
  last_small : last < 256
  last_small = rw is (small (length bytes - 1))

  pub kept-few : trailing_zeros w8 last < 7
  kept-few = trailing_zeros-few last last_small some_tag

  pub data_of-completed : data_of (first_bits (8 * length bytes - 1 - trailing_zeros w8 last) bytes) ≡ bytes
  data_of-completed =
      let kept = 7 - trailing_zeros w8 last in
      let place : 8 * length bytes - 1 - trailing_zeros w8 last ≡ 8 * (length bytes - 1) + kept = omega (arith, kept-few) in
      let one : last_byte kept last ≡ last ∷ [] = cond-false _ _ _ (ne_eqb kept 0 (λ h. omega (arith, kept-few))) ∙ ap (λ b. b ∷ []) (cut_byte-trailing_zeros last last_small some_tag) in
      let end : length bytes - 1 + 1 ≡ length bytes = omega arith in
      ap (λ n. data_of (first_bits n bytes)) place
      ∙ data_of-first_bits (length bytes - 1) kept bytes small (omega (arith, kept-few)) (omega (arith, kept-few))
      ∙ ap (λ b. take (length bytes - 1) bytes ++ last_byte kept b) (sym is)
      ∙ ap (λ xs. take (length bytes - 1) bytes ++ xs) (one ∙ ap (λ b. b ∷ []) is)
      ∙ sym (take_more bytes (length bytes - 1) 0 (omega arith)) ∙ ap (λ n. take n bytes) end ∙ take_all (length bytes) bytes (omega arith)

-- bits of one number with one text are one
pub same_from_data_of : (a b : List Bool) → length a ≡ length b → data_of a ≡ data_of b → a ≡ b
same_from_data_of a b counted same =
    let whole = λ (bs : List Bool). first_bits-data_of bs [] in
    sym (whole a) ∙ ap₂ (λ (n : ℕ) (bytes : List ℕ). first_bits n (bytes ++ [])) counted same ∙ whole b

pub bytes_eq-data_of : (a b : List Bool) → length a ≡ length b → bytes_eq (data_of a) (data_of b) ≡ same_bits a b
bytes_eq-data_of a b counted =
    let bytes = bytes_decides (data_of a) (data_of b) in
    same_from_decides _ (same_bits a b) (λ h. same_from_data_of a b counted (bytes.0 h), λ h. bytes.1 (ap data_of h)) (same_bits-Decides a b)

-- ---- bits by their data

-- the bit behind the last one of a byte that was completed
tagged : (bs : List Bool) → length bs < 8 → byte_of_bits bs % 2 ^ (8 - length bs) ≡ 2 ^ (7 - length bs)
tagged [] few = refl
tagged (a ∷ []) few = omega arith
tagged (a ∷ b ∷ []) few = omega arith
tagged (a ∷ b ∷ c ∷ []) few = omega arith
tagged (a ∷ b ∷ c ∷ d ∷ []) few = omega arith
tagged (a ∷ b ∷ c ∷ d ∷ e ∷ []) few = omega arith
tagged (a ∷ b ∷ c ∷ d ∷ e ∷ f ∷ []) few = omega arith
tagged (a ∷ b ∷ c ∷ d ∷ e ∷ f ∷ g ∷ []) few = omega arith
tagged (a ∷ b ∷ c ∷ d ∷ e ∷ f ∷ g ∷ h ∷ bs) few = absurd (omega arith)

small_byte : (bs : List Bool) → length bs < 8 → byte_of_bits bs < 256
small_byte [] few = omega arith
small_byte (a ∷ []) few = omega (arith, bit_value-le a)
small_byte (a ∷ b ∷ []) few = omega (arith, bit_value-le a, bit_value-le b)
small_byte (a ∷ b ∷ c ∷ []) few = omega (arith, bit_value-le a, bit_value-le b, bit_value-le c)
small_byte (a ∷ b ∷ c ∷ d ∷ []) few = omega (arith, bit_value-le a, bit_value-le b, bit_value-le c, bit_value-le d)
small_byte (a ∷ b ∷ c ∷ d ∷ e ∷ []) few = omega (arith, bit_value-le a, bit_value-le b, bit_value-le c, bit_value-le d, bit_value-le e)
small_byte (a ∷ b ∷ c ∷ d ∷ e ∷ f ∷ []) few = omega (arith, bit_value-le a, bit_value-le b, bit_value-le c, bit_value-le d, bit_value-le e, bit_value-le f)
small_byte (a ∷ b ∷ c ∷ d ∷ e ∷ f ∷ g ∷ []) few = omega (arith, bit_value-le a, bit_value-le b, bit_value-le c, bit_value-le d, bit_value-le e, bit_value-le f, bit_value-le g)
small_byte (a ∷ b ∷ c ∷ d ∷ e ∷ f ∷ g ∷ h ∷ bs) few = absurd (omega arith)

-- the bits before the lowest one that is set in a byte that was completed
kept_of_byte : (bs : List Bool) → length bs < 8 → 7 - trailing_zeros w8 (byte_of_bits bs) ≡ length bs
unfolding count_trailing_zeros
kept_of_byte bs few =
    let test = λ (k b : ℕ). not (eqb (b % 2 ^ (8 - k)) (2 ^ (7 - k))) || eqb (7 - trailing_zeros w8 b) k in
    let tried : agree_below (λ k. agree_below (test k) (λ _. true) 256) (λ _. true) 8 ≡ true = refl in
    let found = agree_below_at (test (length bs)) (λ _. true) 256 (byte_of_bits bs) (agree_below_at (λ k. agree_below (test k) (λ _. true) 256) (λ _. true) 8 (length bs) tried few) (small_byte bs few) in
    ⊎_elim (λ no. absurd (eqb-false _ _ (not-true _ no) (tagged bs few))) (λ yes. eqb-true _ _ yes) (or_cases _ _ found)

no_tag : (byte : ℕ) → byte < 256 → byte % 128 ≡ 0 → 7 ≤ trailing_zeros w8 byte
unfolding count_trailing_zeros
no_tag byte small none =
    let found = agree_below_at (λ b. not (eqb (b % 128) 0) || nat_le 7 (trailing_zeros w8 b)) (λ _. true) 256 byte refl small in
    ⊎_elim (λ no. absurd (eqb-false _ _ (not-true _ no) none)) (λ yes. leb-true _ _ yes) (or_cases _ _ found)

-- a last byte that was completed, after the full bytes
module _ (bs : List Bool) (cut : length bs % 8 ≢ 0) where
  ends : length (data_of bs) - 1 ≡ length bs / 8
  ends = omega (arith, length-data_of bs, cut)

  rest : length (drop (8 * (length bs / 8)) bs) ≡ length bs % 8
  rest = simp length-drop (omega arith)

  last_is : get_or (data_of bs) (length (data_of bs) - 1) 0 ≡ byte_of_bits (drop (8 * (length bs / 8)) bs)
  last_is =
      rw ends
      (get_or-data_of (length bs / 8) bs (omega (arith, cut)) ∙ ap (λ (xs : List Bool). byte_of_bits xs) (take_all 8 (drop (8 * (length bs / 8)) bs) (omega (arith, rest))))

  kept_is : 7 - trailing_zeros w8 (get_or (data_of bs) (length (data_of bs) - 1) 0) ≡ length bs % 8
  kept_is = rw last_is (kept_of_byte (drop (8 * (length bs / 8)) bs) (omega (arith, rest)) ∙ rest)

  -- the code counts the bits
  pub length-completed : 8 * length (data_of bs) - 1 - trailing_zeros w8 (get_or (data_of bs) (length (data_of bs) - 1) 0) ≡ length bs
  length-completed = omega (arith, kept_is, length-data_of bs, cut)

  pub completed_is_tagged : get_or (data_of bs) (length (data_of bs) - 1) 0 % 128 ≢ 0
  completed_is_tagged = λ h.
      let small : get_or (data_of bs) (length (data_of bs) - 1) 0 < 256 = rw last_is (small_byte (drop (8 * (length bs / 8)) bs) (omega (arith, rest))) in
      omega (arith, kept_is, no_tag _ small h, cut)

-- the bits of these data are found, whole or not
pub bits_of_whole_data : (bs : List Bool) (bytes : List ℕ) → length bs ≤ 1023 → data_of bs ≡ bytes → length bs % 8 ≡ 0 → (length bytes ≤ 127) × (first_bits (8 * length bytes) bytes ≡ bs)
bits_of_whole_data bs bytes few is whole =
    let counted : 8 * length bytes ≡ length bs = omega (arith, ap length is, length-data_of bs) in
    (omega (arith, counted), rw (counted, ← is, ← append-nil (data_of bs)) (first_bits-data_of bs []))

pub bits_of_cut_data : (bs : List Bool) (bytes : List ℕ) (last : ℕ) → length bs ≤ 1023 → data_of bs ≡ bytes → length bs % 8 ≢ 0 → last ≡ get_or bytes (length bytes - 1) 0 →
    record { short : length bytes ≤ 128; tagged : last % 128 ≢ 0; same : first_bits (8 * length bytes - 1 - trailing_zeros w8 last) bytes ≡ bs }
bits_of_cut_data bs bytes last few is cut at_end =
    let end : last ≡ get_or (data_of bs) (length (data_of bs) - 1) 0 = at_end ∙ ap (λ xs. get_or xs (length xs - 1) 0) (sym is) in
    let counted : 8 * length bytes - 1 - trailing_zeros w8 last ≡ length bs =
    ap (λ xs. 8 * length xs - 1 - trailing_zeros w8 last) (sym is) ∙ ap (λ n. 8 * length (data_of bs) - 1 - trailing_zeros w8 n) end ∙ length-completed bs cut in
    record {
      short = omega (arith, ap length is, length-data_of bs);
      tagged = λ h. completed_is_tagged bs cut (ap (λ n. n % 128) (sym end) ∙ h);
      same = rw (counted, ← is, ← append-nil (data_of bs)) (first_bits-data_of bs []);
    }
