-- A text that is cut from its begin on.
use Rattle.std.proofs.Common.{◌≡◌, ℕ, ◌+◌, ◌-◌, ◌*◌, ◌<◌, ◌≤◌, min, arith}
use Rattle.cd_run.specs.Finds.{AreSlices}

-- so many slices of a text of `len` bytes, up to an offset
pub record AreCut (len max offset slices : ℕ) : Type 0 where
  pub low : offset ≤ len
  pub some : slices ≤ offset
  pub whole : offset ≤ slices * max
  pub needed : slices * max < offset + max
  pub even : offset < len → offset ≡ slices * max

next_product : (slices max : ℕ) → (slices + 1) * max ≡ slices * max + max
next_product slices max = grind arith

pub none_cut : (len max : ℕ) → 1 ≤ max → AreCut len max 0 0
none_cut len max some = record { low = omega arith; some = omega arith; whole = omega arith; needed = omega (arith, some); even = λ _. omega arith }

pub one_cut : (len max offset slices piece : ℕ) → 1 ≤ max → offset < len → piece ≡ min max (len - offset) → AreCut len max offset slices → AreCut len max (offset + piece) (slices + 1)
one_cut len max offset slices piece some low is cut =
    let product = next_product slices max in
    let at = cut.even low in
    record {
      low = omega (arith, is, low);
      some = omega (arith, is, low, some, cut.some);
      whole = omega (arith, is, product, at);
      needed = omega (arith, is, product, at, low, some);
      even = λ more. omega (arith, is, product, at, more);
    }

pub all_cut : (len max offset slices : ℕ) → len ≤ offset → AreCut len max offset slices → AreSlices max len slices
all_cut len max offset slices past cut = record { whole = omega (arith, cut.whole, past); needed = omega (arith, cut.needed, cut.low) }
