-- Bytes that are no data lack their completion.
use Rattle.std.proofs.Common.{◌≡◌, ℕ, ◌+◌, ◌-◌, ◌/◌, ◌%◌, ◌<◌, Bool, true, false, eqb, List, length, get_or, arith, refl, inl, inr, ⊎_elim, ◌⊎◌}
use Rattle.std.proofs.lemmas.Bool.{eqb-true, eqb-false}
use Rattle.cd_cell.specs.BitText.{IsBitData}
use Rattle.cd_record.specs.RecordReading.{lacks_completion}

tests : (b : Bool) → (b ≡ true) ⊎ (b ≡ false)
tests true = inl refl
tests false = inr refl

lacks-odd : (d : ℕ) (part : List ℕ) → length part ≡ (d + 1) / 2 → d < 256 → eqb (d % 2) 0 ≡ false → (IsBitData false part → ⊥) → eqb (get_or part (length part - 1) 0 % 128) 0 ≡ true
lacks-odd d part len small odd none =
    ⊎_elim (λ yes. yes) (λ no. absurd (none (omega (arith, eqb-false _ _ odd), omega arith, eqb-false _ _ no))) (tests (eqb (get_or part (length part - 1) 0 % 128) 0))

pub lacks-by : (d : ℕ) (part : List ℕ) (whole : Bool) → length part ≡ (d + 1) / 2 → d < 256 → eqb (d % 2) 0 ≡ whole → (IsBitData whole part → ⊥) → lacks_completion d part ≡ true
lacks-by d part true len small even none = absurd (none (omega (arith, eqb-true _ _ even)))
lacks-by d part false len small odd none =
    let one : d % 2 ≡ 1 = omega (arith, eqb-false _ _ odd) in
    rw (one, lacks-odd d part len small odd none) refl
