-- Laws of the least number of bytes in which a number has room.
use Rattle.std.proofs.Common.{ℕ, ◌^◌, ◌<◌, ◌≤◌, arith}
use Rattle.std.proofs.lemmas.Bool.Decides.{nat_tests}
use Rattle.cd_boc_write.specs.Exports.{width_of}

-- three bytes for the number of a cell
pub width_of-few : (n : ℕ) → n ≤ 1048576 → width_of n ≤ 3
unfolding width_of
width_of-few n few = grind (arith, nat_tests)

pub width_of-some : (n : ℕ) → 1 ≤ width_of n
unfolding width_of
width_of-some n = grind (arith, nat_tests)

pub width_of-fits : (n : ℕ) → n ≤ 1048576 → n < 256 ^ width_of n
unfolding width_of
width_of-fits n few = grind (arith, nat_tests)

pub width_of-most : (n : ℕ) → width_of n ≤ 8
unfolding width_of
width_of-most n = grind (arith, nat_tests)

pub width_of-room : (n : ℕ) → n < 256 ^ 8 → n < 256 ^ width_of n
unfolding width_of
width_of-room n small = grind (arith, nat_tests)
