-- Truths as bits of a byte.
use Rattle.std.proofs.Common.{◌≡◌, ℕ, zero, suc, ◌*◌, ◌<◌, Bool, true, false, cond, eqb, refl, arith}

pub flag_value : (bit value : ℕ) → bit < 2 → cond (eqb bit 1) value 0 ≡ value * bit
flag_value zero value lt = omega arith
flag_value (suc zero) value lt = omega arith
flag_value (suc (suc bit)) value lt = absurd (omega arith)

-- a truth as a bit
pub bit : Bool → ℕ
bit true = 1
bit false = 0

pub bit-lt : (b : Bool) → bit b < 2
unfolding bit
bit-lt true = omega arith
bit-lt false = omega arith

pub bit-back : (b : Bool) → eqb (bit b) 1 ≡ b
unfolding bit
bit-back true = refl
bit-back false = refl

pub bit-times : (b : Bool) (value : ℕ) → cond b value 0 ≡ value * bit b
unfolding bit
bit-times true value = omega arith
bit-times false value = omega arith
