-- Numbers as bytes, at every width: how many bytes they are, what number they are, and which bytes a number has.
use Rattle.std.proofs.Common.{◌≡◌, ℕ, zero, suc, ◌+◌, ◌*◌, ◌/◌, ◌%◌, ◌^◌, ◌<◌, ◌≤◌, ◌-◌, min, replicate, List, [], ◌∷◌, ◌++◌, length, get_or, take, drop, reverse, refl, ap, sym, ◌∙◌, ⊎_elim, arith}
use Rattle.std.proofs.lemmas.Bool.{cases_lt}
use Rattle.std.proofs.lemmas.List.{replicate_more, take_at, drop_at, length-take-le, take-append-drop, drop_more, length-take, length-drop, reverse-append, reverse-reverse, length-reverse}
use Rattle.std.proofs.lemmas.List.Sums.{fold_push, fold_more}
use Rattle.std.proofs.Math.Nat.{div-div-eq-div-mul, div-eq_of_lt, one-le-pow, pow-suc, pow-succ'}
use Rattle.std.specs.Int.{byte_at, bytes_low_first, bytes_high_first}
use Rattle.cd_base.specs.Numbers.{little, big, from_little, from_big, IsBytes}

-- ---- how many bytes

pub length-little : (n value : ℕ) → length (little n value) ≡ n
unfolding little
length-little zero value = refl
length-little (suc n) value = ap suc (length-little n (value / 256))

pub length-big : (n value : ℕ) → length (big n value) ≡ n
length-big n value = length-reverse (little n value) ∙ length-little n value

-- ---- the number read back

pub from_little-little : (n value : ℕ) → value < 256 ^ n → from_little (little n value) ≡ value
unfolding little from_little
from_little-little zero value h = omega arith
from_little-little (suc n) value h =
    let low : value / 256 < 256 ^ n = omega (arith, pow-succ' 256 n) in
    omega (arith, from_little-little n (value / 256) low)

-- the highest byte comes last
pub from_big-push : (bytes : List ℕ) (byte : ℕ) → from_big (bytes ++ byte ∷ []) ≡ 256 * from_big bytes + byte
from_big-push bytes byte = fold_push (λ value byte. 256 * value + byte) 0 bytes byte

pub from_big-reverse : (bytes : List ℕ) → from_big (reverse bytes) ≡ from_little bytes
unfolding from_little
from_big-reverse [] = refl
from_big-reverse (byte ∷ bytes) =
    ap from_big (reverse-append (byte ∷ []) bytes) ∙ from_big-push (reverse bytes) byte ∙ omega (arith, from_big-reverse bytes)

pub from_little-reverse : (bytes : List ℕ) → from_little (reverse bytes) ≡ from_big bytes
from_little-reverse bytes = sym (from_big-reverse (reverse bytes)) ∙ ap from_big (reverse-reverse bytes)

pub from_big-big : (n value : ℕ) → value < 256 ^ n → from_big (big n value) ≡ value
from_big-big n value h = from_big-reverse (little n value) ∙ from_little-little n value h

-- ---- bytes

pub IsBytes-little : (n value : ℕ) → IsBytes (little n value)
unfolding little
IsBytes-little zero value i = omega arith
IsBytes-little (suc n) value zero = omega arith
IsBytes-little (suc n) value (suc i) = IsBytes-little n (value / 256) i

IsBytes-push : (bytes : List ℕ) (byte : ℕ) → IsBytes bytes → byte < 256 → IsBytes (bytes ++ byte ∷ [])
IsBytes-push [] byte h b zero = b
IsBytes-push [] byte h b (suc i) = omega arith
IsBytes-push (x ∷ bytes) byte h b zero = h 0
IsBytes-push (x ∷ bytes) byte h b (suc i) = IsBytes-push bytes byte (λ k. h (suc k)) b i

pub IsBytes-reverse : (bytes : List ℕ) → IsBytes bytes → IsBytes (reverse bytes)
IsBytes-reverse [] h = h
IsBytes-reverse (byte ∷ bytes) h = λ i.
    rw (reverse-append (byte ∷ []) bytes) (IsBytes-push (reverse bytes) byte (IsBytes-reverse bytes (λ k. h (suc k))) (h 0) i)

pub IsBytes-big : (n value : ℕ) → IsBytes (big n value)
IsBytes-big n value = IsBytes-reverse (little n value) (IsBytes-little n value)

pub IsBytes-take : (n : ℕ) (bytes : List ℕ) → IsBytes bytes → IsBytes (take n bytes)
IsBytes-take zero bytes h i = omega arith
IsBytes-take (suc n) [] h i = h i
IsBytes-take (suc n) (byte ∷ bytes) h zero = h 0
IsBytes-take (suc n) (byte ∷ bytes) h (suc i) = IsBytes-take n bytes (λ k. h (suc k)) i

pub IsBytes-drop : (n : ℕ) (bytes : List ℕ) → IsBytes bytes → IsBytes (drop n bytes)
IsBytes-drop zero bytes h = h
IsBytes-drop (suc n) [] h = h
IsBytes-drop (suc n) (byte ∷ bytes) h = IsBytes-drop n bytes (λ k. h (suc k))

pub IsBytes-cons : (byte : ℕ) (bytes : List ℕ) → byte < 256 → IsBytes bytes → IsBytes (byte ∷ bytes)
IsBytes-cons byte bytes small h zero = small
IsBytes-cons byte bytes small h (suc i) = h i

pub IsBytes-append : (xs ys : List ℕ) → IsBytes xs → IsBytes ys → IsBytes (xs ++ ys)
IsBytes-append [] ys h k = k
IsBytes-append (x ∷ xs) ys h k = IsBytes-cons x (xs ++ ys) (h 0) (IsBytes-append xs ys (λ i. h (suc i)) k)

-- ---- the spelling of the number read

pub from_little-lt : (bytes : List ℕ) (n : ℕ) → IsBytes bytes → length bytes ≤ n → from_little bytes < 256 ^ n
unfolding from_little
from_little-lt [] n h e = one-le-pow n 256 (omega arith)
from_little-lt (byte ∷ bytes) zero h e = omega arith
from_little-lt (byte ∷ bytes) (suc n) h e =
    omega (arith, h 0, from_little-lt bytes n (λ i. h (suc i)) (omega arith), pow-succ' 256 n)

pub from_big-lt : (bytes : List ℕ) (n : ℕ) → IsBytes bytes → length bytes ≤ n → from_big bytes < 256 ^ n
from_big-lt bytes n h e =
    rw (← from_little-reverse bytes) (from_little-lt (reverse bytes) n (IsBytes-reverse bytes h) (omega (arith, length-reverse bytes)))

pub little-from_little : (bytes : List ℕ) → IsBytes bytes → little (length bytes) (from_little bytes) ≡ bytes
unfolding little from_little
little-from_little [] h = refl
little-from_little (byte ∷ bytes) h =
    let low : (byte + 256 * from_little bytes) % 256 ≡ byte = omega (arith, h 0) in
    let high : (byte + 256 * from_little bytes) / 256 ≡ from_little bytes = omega (arith, h 0) in
    let rest = little-from_little bytes (λ i. h (suc i)) in
    rw (low, high, rest) refl

pub big-from_big : (bytes : List ℕ) → IsBytes bytes → big (length bytes) (from_big bytes) ≡ bytes
big-from_big bytes h =
    let turned : little (length bytes) (from_big bytes) ≡ reverse bytes =
    rw (← from_little-reverse bytes, ← length-reverse bytes) (little-from_little (reverse bytes) (IsBytes-reverse bytes h)) in
    ap reverse turned ∙ reverse-reverse bytes

-- ---- one number, one spelling

pub same_from_little : (n a b : ℕ) → a < 256 ^ n → b < 256 ^ n → little n a ≡ little n b → a ≡ b
same_from_little n a b ha hb e = sym (from_little-little n a ha) ∙ ap from_little e ∙ from_little-little n b hb

pub same_from_big : (n a b : ℕ) → a < 256 ^ n → b < 256 ^ n → big n a ≡ big n b → a ≡ b
same_from_big n a b ha hb e = sym (from_big-big n a ha) ∙ ap from_big e ∙ from_big-big n b hb

-- ---- a number at the front of bytes

-- what is spelled there is read
pub from_little-front : (n value : ℕ) (rest : List ℕ) → value < 256 ^ n → from_little (take n (little n value ++ rest)) ≡ value
from_little-front n value rest h = ap from_little (take_at (little n value) rest n (length-little n value)) ∙ from_little-little n value h

pub from_big-front : (n value : ℕ) (rest : List ℕ) → value < 256 ^ n → from_big (take n (big n value ++ rest)) ≡ value
from_big-front n value rest h = ap from_big (take_at (big n value) rest n (length-big n value)) ∙ from_big-big n value h

-- the bytes after it
pub drop-little_front : (n value : ℕ) (rest : List ℕ) → drop n (little n value ++ rest) ≡ rest
drop-little_front n value rest = drop_at (little n value) rest n (length-little n value)

pub drop-big_front : (n value : ℕ) (rest : List ℕ) → drop n (big n value ++ rest) ≡ rest
drop-big_front n value rest = drop_at (big n value) rest n (length-big n value)

-- what is read there is spelled so
pub little-front : (n : ℕ) (bytes : List ℕ) → IsBytes bytes → n ≤ length bytes → little n (from_little (take n bytes)) ++ drop n bytes ≡ bytes
little-front n bytes h e =
    let width : length (take n bytes) ≡ n = length-take-le n bytes e in
    let spelt = rw width at (little-from_little (take n bytes) (IsBytes-take n bytes h)) in
    ap (λ front. front ++ drop n bytes) spelt ∙ take-append-drop n bytes

pub big-front : (n : ℕ) (bytes : List ℕ) → IsBytes bytes → n ≤ length bytes → big n (from_big (take n bytes)) ++ drop n bytes ≡ bytes
big-front n bytes h e =
    let width : length (take n bytes) ≡ n = length-take-le n bytes e in
    let spelt = rw width at (big-from_big (take n bytes) (IsBytes-take n bytes h)) in
    ap (λ front. front ++ drop n bytes) spelt ∙ take-append-drop n bytes

-- ---- narrower and wider spellings

-- the low bytes, and then those of the rest
pub little-add : (n k value : ℕ) → little (n + k) value ≡ little n value ++ little k (value / 256 ^ n)
unfolding little
little-add zero k value =
    let count : 0 + k ≡ k = omega arith in
    let rest : value ≡ value / 1 = omega arith in
    ap (λ m. little m value) count ∙ ap (little k) rest
little-add (suc n) k value =
    let count : suc n + k ≡ suc (n + k) = omega arith in
    let rest : value / 256 / 256 ^ n ≡ value / 256 ^ suc n =
    div-div-eq-div-mul value 256 (256 ^ n) ∙ ap (λ m. value / m) (sym (pow-succ' 256 n)) in
    ap (λ m. little m value) count
    ∙ ap (λ bytes. value % 256 ∷ bytes) (little-add n k (value / 256) ∙ ap (λ v. little n (value / 256) ++ little k v) rest)

pub big-add : (n k value : ℕ) → big (n + k) value ≡ big k (value / 256 ^ n) ++ big n value
big-add n k value = ap reverse (little-add n k value) ∙ reverse-append (little n value) (little k (value / 256 ^ n))

-- std's spellings are these, at every width
byte_at-div : (i value : ℕ) → byte_at i value ≡ value / 256 ^ i % 256
byte_at-div zero value = omega arith
byte_at-div (suc i) value = refl

pub bytes_low_first-little : (i n value : ℕ) → bytes_low_first i n value ≡ little n (value / 256 ^ i)
unfolding little
bytes_low_first-little i zero value = refl
bytes_low_first-little i (suc n) value =
    let rest : value / 256 ^ suc i ≡ value / 256 ^ i / 256 =
    ap (λ m. value / m) (pow-suc 256 i) ∙ sym (div-div-eq-div-mul value (256 ^ i) 256) in
    ap (λ b. b ∷ bytes_low_first (suc i) n value) (byte_at-div i value)
    ∙ ap (λ bytes. value / 256 ^ i % 256 ∷ bytes) (bytes_low_first-little (suc i) n value ∙ ap (little n) rest)

pub bytes_high_first-big : (n value : ℕ) → bytes_high_first n value ≡ big n value
unfolding little
bytes_high_first-big zero value = refl
bytes_high_first-big (suc n) value =
    let count : n + 1 ≡ suc n = omega arith in
    ap (λ b. b ∷ bytes_high_first n value) (byte_at-div n value)
    ∙ ap (λ bytes. value / 256 ^ n % 256 ∷ bytes) (bytes_high_first-big n value)
    ∙ sym (big-add n 1 value) ∙ ap (λ m. big m value) count

-- the low bytes are the end of a wider spelling
pub drop-big : (n m value : ℕ) → n ≤ m → drop (m - n) (big m value) ≡ big n value
drop-big n m value h =
    let width : m ≡ n + (m - n) = omega arith in
    let k = m - n in
    ap (λ w. drop k (big w value)) width ∙ ap (drop k) (big-add n k value)
    ∙ drop_at (big k (value / 256 ^ n)) (big n value) k (length-big k (value / 256 ^ n))

-- a wider spelling begins with zeros
little-zero : (n : ℕ) → little n 0 ≡ replicate n 0
unfolding little
little-zero zero = refl
little-zero (suc n) = ap (λ bytes. 0 ∷ bytes) (little-zero n)

reverse-replicate : {A : Type 0} → (n : ℕ) (x : A) → reverse (replicate n x) ≡ replicate n x
reverse-replicate zero x = refl
reverse-replicate (suc n) x =
    let one : n + 1 ≡ suc n = omega arith in
    reverse-append (x ∷ []) (replicate n x) ∙ ap (λ xs. xs ++ x ∷ []) (reverse-replicate n x)
    ∙ replicate_more n x ∙ ap (λ m. replicate m x) one

pub big-wider : (n k value : ℕ) → value < 256 ^ n → big (n + k) value ≡ replicate k 0 ++ big n value
big-wider n k value h =
    big-add n k value ∙ ap (λ high. high ++ big n value)
    (ap (big k) (div-eq_of_lt h) ∙ ap reverse (little-zero k) ∙ reverse-replicate k 0)

-- in so many bytes, from the eight of a u64
pub big-from_eight : (n value : ℕ) → value < 256 ^ 8 → replicate (n - min n 8) 0 ++ drop (8 - min n 8) (big 8 value) ≡ big n value
big-from_eight n value h = ⊎_elim (wide n value h) (narrow n value) (cases_lt 8 n)
  where
    wide : (n value : ℕ) → value < 256 ^ 8 → 8 < n → replicate (n - min n 8) 0 ++ drop (8 - min n 8) (big 8 value) ≡ big n value
    wide n value h over =
        let zeros : n - min n 8 ≡ n - 8 = omega arith in
        let none : 8 - min n 8 ≡ 0 = omega arith in
        let width : 8 + (n - 8) ≡ n = omega arith in
        rw (zeros, none) (sym (big-wider 8 (n - 8) value h) ∙ ap (λ m. big m value) width)

    narrow : (n value : ℕ) → n ≤ 8 → replicate (n - min n 8) 0 ++ drop (8 - min n 8) (big 8 value) ≡ big n value
    narrow n value within =
        let none : n - min n 8 ≡ 0 = omega arith in
        let from : 8 - min n 8 ≡ 8 - n = omega arith in
        rw (none, from) (drop-big n 8 value within)

-- ---- the loops that read a number

pub from_big-more : (bytes : List ℕ) (i : ℕ) → i < length bytes → from_big (take (i + 1) bytes) ≡ 256 * from_big (take i bytes) + get_or bytes i 0
from_big-more bytes i h = fold_more (λ value byte. 256 * value + byte) 0 bytes i 0 h

pub from_little-more : (bytes : List ℕ) (i : ℕ) → i < length bytes → from_little (drop i bytes) ≡ 256 * from_little (drop (i + 1) bytes) + get_or bytes i 0
unfolding from_little
from_little-more bytes i h = ap from_little (drop_more bytes i 0 h) ∙ omega arith

-- of at most eight bytes, all but one stand for a number to which one more can be added
pub from_big-fits : (bytes : List ℕ) (i : ℕ) → IsBytes bytes → length bytes ≤ 8 → i < length bytes → from_big (take i bytes) < 256 ^ 7
from_big-fits bytes i h e lt = from_big-lt (take i bytes) 7 (IsBytes-take i bytes h) (omega (arith, length-take i bytes))

pub from_little-fits : (bytes : List ℕ) (i : ℕ) → IsBytes bytes → length bytes ≤ 8 → i < length bytes → from_little (drop (i + 1) bytes) < 256 ^ 7
from_little-fits bytes i h e lt = from_little-lt (drop (i + 1) bytes) 7 (IsBytes-drop (i + 1) bytes h) (omega (arith, length-drop (i + 1) bytes))
