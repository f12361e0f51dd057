-- Masks as numbers from 0 to 7.
use Rattle.std.proofs.Common.{◌≡◌, ℕ, ◌≤◌, true, refl, eqb, arith}
use Rattle.std.proofs.lemmas.Bool.{eqb-true, agree_below_at}
use Rattle.std.specs.Int.Count.{ones, ones_in}
use Rattle.cd_cell.specs.Masks.{bit_count}

pub ones-mask : (mask : ℕ) → mask ≤ 7 → ones mask ≡ bit_count mask
unfolding ones ones_in
ones-mask mask small = eqb-true _ _ (agree_below_at (λ n. eqb (ones n) (bit_count n)) (λ _. true) 8 mask refl (omega arith))
