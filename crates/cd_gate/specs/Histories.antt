-- Trusted: how the list of a gate's entries grows, by turns of one seat and of others.
use Rattle.std.specs.Prelude.{◌≡◌, ◌⊎◌, ℕ, ◌<◌, ◌≤◌, List, [], ◌∷◌, ◌++◌, length, nat_lt, All, if◌then◌else◌}

module _ {E : Type 0} (number : E → ℕ) where
  -- the later list begins with the earlier one, and what was added has no number from `lowest` to below `end`
  abbrev pub GrewByOthers : ℕ → ℕ → List E → List E → Type 0
  GrewByOthers lowest end earlier later =
      (added : List E) × (later ≡ earlier ++ added) × All (λ e. (number e < lowest) ⊎ (end ≤ number e)) added

  -- one entry of this number was added, or none
  abbrev pub GrewByTurn : ℕ → List E → List E → Type 0
  GrewByTurn n earlier later = (later ≡ earlier) ⊎ ((e : E) × (later ≡ earlier ++ e ∷ []) × (number e ≡ n))

-- of two lists the longer one, and of two of one length the first
abbrev pub longer : {E : Type 0} → List E → List E → List E
longer xs ys = if nat_lt (length xs) (length ys) then ys else xs
