-- Inner: one turn in which each client that is left gets a piece, or the end of the text.
use Rattle.std.specs.Prelude.{◌≡◌, ◌⊎◌, ℕ, ◌<◌, true, List, [], length, count_by, slice_index_or, Option, unwrap_or}
use Rattle.std.specs.Option.{option_map}
use Rattle.cd_fan.specs.declared.client_end.ClientEnd.{ClientEnd}
use Rattle.cd_fan.specs.declared.client_end.ClientEnd.TheVariants.{Failed}
use Rattle.cd_fan.specs.Ends.{is_done}
use denote.Ref.{Bor}

-- the bytes of the turn: none at the end of the text
abbrev pub bytes_of : Option (Bor (List ℕ)) → List ℕ
bytes_of piece = unwrap_or (option_map (λ p. p.now) piece) []

-- so many clients are left; the others failed in this turn or before
pub record IsServed (offset : ℕ) (old new : List ClientEnd) (left : ℕ) : Type 0 where
  pub count : length new ≡ length old
  pub done : count_by is_done new ≡ left
  pub each : (k : ℕ) (d : ClientEnd) → k < length old → (slice_index_or new k d ≡ slice_index_or old k d) ⊎ ((is_done (slice_index_or old k d) ≡ true) × (slice_index_or new k d ≡ Failed offset))
