-- The fields of a bag's text, as code reads them.
use Rattle.std.proofs.Common.{◌≡◌, ℕ, zero, suc, ◌/◌, ◌%◌, ◌^◌, ◌<◌, ◌≤◌, Bool, true, false, not, eqb, leb, ◌&&◌, ◌||◌, List, [], ◌∷◌, length, take, drop, refl, ap, arith}
use Rattle.std.proofs.lemmas.Bool.{false≢true}
use borrow.Author.Tests.{leb-true}
use Rattle.cd_base.specs.Numbers.{from_big}
use Rattle.cd_boc_read.specs.Grammar.{IsShape}
use Rattle.cd_boc_read.specs.Reading.{shape_of, are_flags, are_sizes, numbers_in}

-- four bytes make a number of 32 bits
pub small_fits : (n len : ℕ) → n < 256 ^ len → len ≤ 4 → n < 2 ^ 32
small_fits n zero lt le = omega arith
small_fits n (suc zero) lt le = omega arith
small_fits n (suc (suc zero)) lt le = omega arith
small_fits n (suc (suc (suc zero))) lt le = omega arith
small_fits n (suc (suc (suc (suc zero)))) lt le = omega arith
small_fits n (suc (suc (suc (suc (suc len))))) lt le = absurd (omega arith)

pub four_numbers : (size count : ℕ) (bytes : List ℕ) → count ≤ 4 →
    take count (from_big (take size bytes) ∷ from_big (take size (drop size bytes)) ∷ from_big (take size (drop size (drop size bytes))) ∷ from_big (take size (drop size (drop size (drop size bytes)))) ∷ [])
    ≡ numbers_in size count bytes
unfolding numbers_in
four_numbers size zero bytes le = refl
four_numbers size (suc zero) bytes le = refl
four_numbers size (suc (suc zero)) bytes le = refl
four_numbers size (suc (suc (suc zero))) bytes le = refl
four_numbers size (suc (suc (suc (suc zero)))) bytes le = refl
four_numbers size (suc (suc (suc (suc (suc count))))) bytes le = absurd (omega arith)

pub length-numbers_in : (len count : ℕ) (bytes : List ℕ) → length (numbers_in len count bytes) ≡ count
unfolding numbers_in
length-numbers_in len zero bytes = refl
length-numbers_in len (suc count) bytes = ap suc (length-numbers_in len count (drop len bytes))

-- ---- the shape

pub both : (a b : Bool) → (a && b) ≡ true → (a ≡ true) × (b ≡ true)
both true b e = (refl, e)
both false b e = absurd (false≢true e)

-- cache bits without an index are refused
index_of_cache : (cache index : Bool) → (not cache || index) ≡ true → cache ≡ true → index ≡ true
index_of_cache true index e set = e
index_of_cache false index e set = absurd (false≢true set)

pub shape_is : (flags off_bytes : ℕ) → are_flags flags ≡ true → are_sizes (flags % 8) off_bytes ≡ true → IsShape (shape_of flags off_bytes)
unfolding are_flags are_sizes shape_of
shape_is flags off_bytes known sized =
    let a = both ((leb 1 (flags % 8) && leb (flags % 8) 4) && leb 1 off_bytes) (leb off_bytes 8) sized in
    let b = both (leb 1 (flags % 8) && leb (flags % 8) 4) (leb 1 off_bytes) a.0 in
    let c = both (leb 1 (flags % 8)) (leb (flags % 8) 4) b.0 in
    let f = both (eqb (flags / 8 % 4) 0) (not (eqb (flags / 32 % 2) 1) || eqb (flags / 128 % 2) 1) known in
    record {
      some_size = leb-true 1 (flags % 8) c.0;
      most_size = leb-true (flags % 8) 4 c.1;
      some_off_bytes = leb-true 1 off_bytes b.1;
      most_off_bytes = leb-true off_bytes 8 a.1;
      cache = index_of_cache (eqb (flags / 32 % 2) 1) (eqb (flags / 128 % 2) 1) f.1;
    }
