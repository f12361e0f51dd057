-- Data as bytes, and the bits whose data they are.
use Rattle.std.proofs.Common.{◌≡◌, ℕ, ◌+◌, ◌-◌, ◌*◌, ◌%◌, ◌≤◌, ◌<◌, Bool, true, false, eqb, List, length, get_or, refl, arith}
use Rattle.std.specs.Int.{w8, trailing_zeros}
use Rattle.std.proofs.lemmas.Bool.{eqb-true, eqb-false}
use Rattle.cd_cell.specs.BitText.{data_of, byte_count, data_bits, IsBitData}
use Rattle.cd_cell.specs.Levels.{descriptor2}
use Rattle.cd_cell.proofs.BitLemmas.{data_of-whole, data_of-completed, kept-few, length-first_bits, length-data_of, bits_of_whole_data, bits_of_cut_data}

module _ (bytes : List ℕ) (small : (i : ℕ) → get_or bytes i 0 < 256) where
  -- bytes that are data are the data of these bits
  pub data_of-data_bits : (whole : Bool) → IsBitData whole bytes → data_of (data_bits whole bytes) ≡ bytes
  data_of-data_bits true short = data_of-whole bytes small
  data_of-data_bits false held = data_of-completed bytes (get_or bytes (length bytes - 1) 0) small held.0 refl held.2

  -- the number of the bits
  pub length-data_bits_whole : length (data_bits true bytes) ≡ 8 * length bytes
  length-data_bits_whole = length-first_bits (8 * length bytes) bytes (omega arith)

  pub length-data_bits_cut : IsBitData false bytes → (kept : ℕ) × (1 ≤ kept) × (kept < 8) × (length (data_bits false bytes) + 8 ≡ 8 * length bytes + kept)
  length-data_bits_cut held =
      let last = get_or bytes (length bytes - 1) 0 in
      let few = kept-few bytes last small held.0 refl held.2 in
      let counted = length-first_bits (8 * length bytes - 1 - trailing_zeros w8 last) bytes (omega arith) in
      (7 - trailing_zeros w8 last, omega (arith, few), omega (arith, few), omega (arith, few, counted, held.0))

  -- at most 1023 bits, and the second descriptor tells the bytes, and whether they are whole
  pub data_bits-few : (whole : Bool) → IsBitData whole bytes → length (data_bits whole bytes) ≤ 1023
  data_bits-few true short = omega (arith, length-data_bits_whole, short)
  data_bits-few false held =
      let cut = length-data_bits_cut held in omega (arith, cut.2, cut.3, held.1)

  pub descriptor2-data_bits_whole : descriptor2 (data_bits true bytes) ≡ 2 * length bytes
  descriptor2-data_bits_whole = omega (arith, length-data_bits_whole)

  pub descriptor2-data_bits_cut : IsBitData false bytes → descriptor2 (data_bits false bytes) + 1 ≡ 2 * length bytes
  descriptor2-data_bits_cut held =
      let cut = length-data_bits_cut held in omega (arith, cut.1, cut.2, cut.3, held.0)

-- bits are found again from their data
data_bits-by : (bits : List Bool) (whole : Bool) → length bits ≤ 1023 → eqb (length bits % 8) 0 ≡ whole → data_bits whole (data_of bits) ≡ bits
data_bits-by bits true few is = (bits_of_whole_data bits (data_of bits) few refl (eqb-true _ _ is)).1
data_bits-by bits false few is =
    let found = bits_of_cut_data bits (data_of bits) (get_or (data_of bits) (length (data_of bits) - 1) 0) few refl (eqb-false _ _ is) refl in found.same

pub data_bits-data_of : (bits : List Bool) → length bits ≤ 1023 → data_bits (eqb (length bits % 8) 0) (data_of bits) ≡ bits
data_bits-data_of bits few = data_bits-by bits (eqb (length bits % 8) 0) few refl

-- data of bits are data, whole or completed
IsBitData-by : (bits : List Bool) (whole : Bool) → length bits ≤ 1023 → eqb (length bits % 8) 0 ≡ whole → IsBitData whole (data_of bits)
IsBitData-by bits true few is = (bits_of_whole_data bits (data_of bits) few refl (eqb-true _ _ is)).0
IsBitData-by bits false few is =
    let found = bits_of_cut_data bits (data_of bits) (get_or (data_of bits) (length (data_of bits) - 1) 0) few refl (eqb-false _ _ is) refl in
    let counted : length (data_of bits) ≡ byte_count (length bits) = length-data_of bits in
    (omega (arith, counted, eqb-false _ _ is), found.short, found.tagged)

pub IsBitData-data_of : (bits : List Bool) → length bits ≤ 1023 → IsBitData (eqb (length bits % 8) 0) (data_of bits)
IsBitData-data_of bits few = IsBitData-by bits (eqb (length bits % 8) 0) few refl
