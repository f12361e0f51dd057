-- Numbers in four or eight bytes.
use Rattle.std.proofs.Common.{zero, suc, ℕ, ◌^◌, ◌<◌, List, arith}
use Rattle.std.specs.Int.{w32, w64, to_be_bytes, from_be_bytes}
use Rattle.cd_base.specs.Numbers.{IsBytes}

pub below_32 : (bytes : List ℕ) → IsBytes bytes → from_be_bytes w32 bytes < 2 ^ 32
below_32 bytes fits = omega (arith, fits 0, fits 1, fits 2, fits 3)

pub below_64 : (bytes : List ℕ) → IsBytes bytes → from_be_bytes w64 bytes < 2 ^ 64
below_64 bytes fits = omega (arith, fits 0, fits 1, fits 2, fits 3, fits 4, fits 5, fits 6, fits 7)

pub IsBytes-be_64 : (n : ℕ) → IsBytes (to_be_bytes w64 n)
IsBytes-be_64 n zero = omega arith
IsBytes-be_64 n (suc zero) = omega arith
IsBytes-be_64 n (suc (suc zero)) = omega arith
IsBytes-be_64 n (suc (suc (suc zero))) = omega arith
IsBytes-be_64 n (suc (suc (suc (suc zero)))) = omega arith
IsBytes-be_64 n (suc (suc (suc (suc (suc zero))))) = omega arith
IsBytes-be_64 n (suc (suc (suc (suc (suc (suc zero)))))) = omega arith
IsBytes-be_64 n (suc (suc (suc (suc (suc (suc (suc zero))))))) = omega arith
IsBytes-be_64 n (suc (suc (suc (suc (suc (suc (suc (suc i)))))))) = omega arith
