-- CRC-32C by bits is linear, so that it can go by bytes and a table.
use Rattle.std.proofs.Common.{◌≡◌, ℕ, zero, suc, ◌+◌, ◌*◌, ◌/◌, ◌%◌, ◌^◌, ◌<◌, ◌≤◌, List, [], ◌∷◌, ◌++◌, length, get_or, drop, fold, bit_and, bit_xor, refl, ap, sym, ◌∙◌, arith}
use Rattle.std.specs.Int.Bits.{xor_assoc, xor_self, xor_zero_r, xor_shifted}
use Rattle.std.proofs.lemmas.Nat.{xor_comm, xor_shr, xor_mod, and_mask, mod_below, shr_split, pow_pos}
use Rattle.std.proofs.Math.Nat.{div-div-eq-div-mul, pow-suc, mul_assoc, zero-mul, zero-add, suc-add}
use Rattle.std.proofs.lemmas.List.Sums.{fold-append}
use Rattle.cd_base.specs.Numbers.{from_little, IsBytes}
use Rattle.cd_base.proofs.NumberLaws.{IsBytes-take}
use Rattle.cd_base.specs.Checksum.{crc_bit, crc_bits, crc_byte, crc32c, crc32c_after, turned_back}

xor_exchange : (a b c d : ℕ) → bit_xor (bit_xor a b) (bit_xor c d) ≡ bit_xor (bit_xor a c) (bit_xor b d)
xor_exchange a b c d =
    xor_assoc a b (bit_xor c d)
    ∙ ap (bit_xor a) (sym (xor_assoc b c d) ∙ ap (λ x. bit_xor x d) (xor_comm b c) ∙ xor_assoc c b d)
    ∙ sym (xor_assoc a c (bit_xor b d))

xor_times : (p q n : ℕ) → p < 2 → q < 2 → bit_xor p q * n ≡ bit_xor (p * n) (q * n)
xor_times zero q n hp hq = ap (λ x. bit_xor x (q * n)) (sym (zero-mul n))
xor_times (suc zero) zero n hp hq = sym (xor_zero_r (1 * n)) ∙ ap (bit_xor (1 * n)) (sym (zero-mul n))
xor_times (suc zero) (suc zero) n hp hq = zero-mul n ∙ sym (xor_self (1 * n))
xor_times (suc zero) (suc (suc q)) n hp hq = absurd (omega arith)
xor_times (suc (suc p)) q n hp hq = absurd (omega arith)

crc_bit-xor : (a b : ℕ) → crc_bit (bit_xor a b) ≡ bit_xor (crc_bit a) (crc_bit b)
crc_bit-xor a b =
    ap (λ low. bit_xor (bit_xor a b / 2) (low * 0x82f63b78)) (xor_mod a b 1)
    ∙ ap (λ high. bit_xor high (bit_xor (a % 2) (b % 2) * 0x82f63b78)) (xor_shr a b 1)
    ∙ ap (bit_xor (bit_xor (a / 2) (b / 2))) (xor_times (a % 2) (b % 2) 0x82f63b78 (omega arith) (omega arith))
    ∙ xor_exchange (a / 2) (b / 2) (a % 2 * 0x82f63b78) (b % 2 * 0x82f63b78)

pub crc_bits-xor : (n a b : ℕ) → crc_bits n (bit_xor a b) ≡ bit_xor (crc_bits n a) (crc_bits n b)
unfolding crc_bits
crc_bits-xor zero a b = refl
crc_bits-xor (suc n) a b = ap (crc_bits n) (crc_bit-xor a b) ∙ crc_bits-xor n (crc_bit a) (crc_bit b)

-- bits that are all zero drop out
pub crc_bits-shifted : (n a : ℕ) → crc_bits n (a * 2 ^ n) ≡ a
unfolding crc_bits
crc_bits-shifted zero a = omega arith
crc_bits-shifted (suc n) a =
    let whole : a * 2 ^ suc n ≡ a * 2 ^ n * 2 = ap (λ m. a * m) (pow-suc 2 n) ∙ sym (mul_assoc a (2 ^ n) 2) in
    let high : a * 2 ^ suc n / 2 ≡ a * 2 ^ n = omega arith in
    let low : a * 2 ^ suc n % 2 ≡ 0 = omega arith in
    let out : crc_bit (a * 2 ^ suc n) ≡ a * 2 ^ n = rw (high, low) (xor_zero_r (a * 2 ^ n)) in
    ap (crc_bits n) out ∙ crc_bits-shifted n a

-- the low bits go round the polynomial, and the others move down
pub crc_bits-parts : (k n : ℕ) → crc_bits k n ≡ bit_xor (crc_bits k (n % 2 ^ k)) (n / 2 ^ k)
crc_bits-parts k n =
    let high = n / 2 ^ k in
    let low = n % 2 ^ k in
    let parts : n ≡ bit_xor (high * 2 ^ k) low = sym (shr_split n k) ∙ sym (xor_shifted high k low (mod_below n (2 ^ k) (pow_pos k))) in
    ap (crc_bits k) parts ∙ crc_bits-xor k (high * 2 ^ k) low ∙ ap (λ x. bit_xor x (crc_bits k low)) (crc_bits-shifted k high)
    ∙ xor_comm high (crc_bits k low)

-- bits after bits
pub crc_bits-add : (k n register : ℕ) → crc_bits (k + n) register ≡ crc_bits n (crc_bits k register)
unfolding crc_bits
crc_bits-add zero n register = ap (λ m. crc_bits m register) (zero-add n)
crc_bits-add (suc k) n register = ap (λ m. crc_bits m register) (suc-add k n) ∙ crc_bits-add k n (crc_bit register)

-- a byte goes through a table of its own place, and the others go on below it
pub crc_bits-byte : (k n : ℕ) → crc_bits (8 + k) n ≡ bit_xor (crc_bits (8 + k) (n % 256)) (crc_bits k (n / 256))
crc_bits-byte k n =
    crc_bits-add 8 k n ∙ ap (crc_bits k) (crc_bits-parts 8 n) ∙ crc_bits-xor k (crc_bits 8 (n % 256)) (n / 256)
    ∙ ap (λ x. bit_xor x (crc_bits k (n / 256))) (sym (crc_bits-add 8 k (n % 256)))

-- one byte more above the register's first one
crc_bits-next : (register byte high : ℕ) → byte < 256 → crc_bits 8 (bit_xor register (byte + 256 * high)) ≡ bit_xor (crc_byte register byte) high
crc_bits-next register byte high h =
    let sum : byte + 256 * high ≡ high * 2 ^ 8 + byte = omega arith in
    let parts : byte + 256 * high ≡ bit_xor byte (high * 2 ^ 8) = sum ∙ sym (xor_shifted high 8 byte h) ∙ xor_comm (high * 2 ^ 8) byte in
    ap (λ x. crc_bits 8 (bit_xor register x)) parts ∙ ap (crc_bits 8) (sym (xor_assoc register byte (high * 2 ^ 8)))
    ∙ crc_bits-xor 8 (bit_xor register byte) (high * 2 ^ 8) ∙ ap (bit_xor (crc_byte register byte)) (crc_bits-shifted 8 high)

-- bytes one after another are their number at once
pub fold-crc_byte : (register : ℕ) (bytes : List ℕ) → IsBytes bytes → fold crc_byte register bytes ≡ crc_bits (8 * length bytes) (bit_xor register (from_little bytes))
unfolding crc_bits from_little
fold-crc_byte register [] h = sym (xor_zero_r register)
fold-crc_byte register (byte ∷ bytes) h =
    let bits : 8 * length (byte ∷ bytes) ≡ 8 + 8 * length bytes = omega arith in
    let x = bit_xor register (byte + 256 * from_little bytes) in
    fold-crc_byte (crc_byte register byte) bytes (λ i. h (suc i))
    ∙ ap (crc_bits (8 * length bytes)) (sym (crc_bits-next register byte (from_little bytes) (h 0)))
    ∙ sym (crc_bits-add 8 (8 * length bytes) x) ∙ ap (λ n. crc_bits n x) (sym bits)

-- four bytes of the register, each through the table of its place
pub crc_bits-four : (n : ℕ) → n < 2 ^ 32 → crc_bits 32 n ≡ bit_xor (bit_xor (bit_xor (crc_bits 32 (n % 256)) (crc_bits 24 (n / 256 % 256))) (crc_bits 16 (n / 65536 % 256))) (crc_bits 8 (n / 16777216 % 256))
crc_bits-four n h =
    let second : n / 256 / 256 ≡ n / 65536 = div-div-eq-div-mul n 256 256 in
    let third : n / 65536 / 256 ≡ n / 16777216 = div-div-eq-div-mul n 65536 256 in
    let last : n / 16777216 % 256 ≡ n / 16777216 = omega arith in
    let a = crc_bits 32 (n % 256) in
    let b = crc_bits 24 (n / 256 % 256) in
    let c = crc_bits 16 (n / 65536 % 256) in
    let d = crc_bits 8 (n / 16777216 % 256) in
    crc_bits-byte 24 n ∙ ap (bit_xor a) (crc_bits-byte 16 (n / 256) ∙ ap (λ x. bit_xor b (crc_bits 16 x)) second ∙ ap (bit_xor b) (crc_bits-byte 8 (n / 65536) ∙ ap (λ x. bit_xor c (crc_bits 8 x)) (third ∙ sym last)))
    ∙ sym (xor_assoc a b (bit_xor c d)) ∙ sym (xor_assoc (bit_xor a b) c d)

-- four bytes at once, as the code takes them
pub fold-crc_byte_four : (register word : ℕ) (bytes : List ℕ) → IsBytes bytes → 4 ≤ length bytes
    → word ≡ get_or bytes 0 0 + get_or bytes 1 0 * 256 + get_or bytes 2 0 * 65536 + get_or bytes 3 0 * 16777216
    → fold crc_byte (crc_bits 32 (bit_xor register word)) (drop 4 bytes) ≡ fold crc_byte register bytes
unfolding from_little
fold-crc_byte_four register word (a ∷ b ∷ c ∷ d ∷ bytes) h l e =
    let four = a ∷ b ∷ c ∷ d ∷ [] in
    let same : word ≡ from_little four = omega arith in
    ap (λ r. fold crc_byte r bytes) (ap (λ w. crc_bits 32 (bit_xor register w)) same ∙ sym (fold-crc_byte register four (IsBytes-take 4 (a ∷ b ∷ c ∷ d ∷ bytes) h)))
fold-crc_byte_four register word [] h l e = absurd (omega arith)
fold-crc_byte_four register word (a ∷ []) h l e = absurd (omega arith)
fold-crc_byte_four register word (a ∷ b ∷ []) h l e = absurd (omega arith)
fold-crc_byte_four register word (a ∷ b ∷ c ∷ []) h l e = absurd (omega arith)

-- one byte of the register, as the code takes it
pub crc_byte-table : (register byte : ℕ) → byte < 256 → crc_byte register byte ≡ bit_xor (crc_bits 8 (bit_and (bit_xor register byte) 255)) (register / 256)
crc_byte-table register byte h =
    let n = bit_xor register byte in
    let low : n % 256 ≡ bit_and n 255 = sym (and_mask n 8) in
    let none : byte / 256 ≡ 0 = omega arith in
    let high : n / 256 ≡ register / 256 = xor_shr register byte 8 ∙ ap (bit_xor (register / 256)) none ∙ xor_zero_r (register / 256) in
    crc_bits-parts 8 n ∙ ap (λ x. bit_xor (crc_bits 8 x) (n / 256)) low ∙ ap (bit_xor (crc_bits 8 (bit_and n 255))) high

-- the checksum of joined bytes, piece by piece
pub crc32c-append : (front bytes : List ℕ) → crc32c_after (crc32c front) bytes ≡ crc32c (front ++ bytes)
crc32c-append front bytes =
    ap (λ register. bit_xor (fold crc_byte register bytes) 0xffffffff) (turned_back (fold crc_byte 0xffffffff front))
    ∙ ap (λ register. bit_xor register 0xffffffff) (sym (fold-append crc_byte 0xffffffff front bytes))
