-- What stands for a child's significant levels, level by level.
use Rattle.std.proofs.Common.{◌≡◌, ℕ, Bool, List, [], ◌∷◌, ◌++◌, ap, ◌∙◌, append_assoc, append-nil}
use Rattle.std.specs.Prelude.{if◌then◌else◌}
use Rattle.std.specs.List.{filter, flat_map}
use Rattle.cd_base.proofs.ListLaws.{flat_map-filter}

module _ (p : ℕ → Bool) (f : ℕ → List ℕ) where
  -- what stands for a level, where it has a piece
  abbrev piece : ℕ → List ℕ
  piece l = if p l then f l else []

  -- four pieces, one behind the other
  four_pieces : (text : List ℕ) → (((text ++ piece 0) ++ piece 1) ++ piece 2) ++ piece 3 ≡ text ++ flat_map f (filter p (0 ∷ 1 ∷ 2 ∷ 3 ∷ []))
  four_pieces text =
      let pieces : flat_map piece (0 ∷ 1 ∷ 2 ∷ 3 ∷ []) ≡ piece 0 ++ (piece 1 ++ (piece 2 ++ piece 3)) = simp append-nil in
      let whole = flat_map-filter p f (0 ∷ 1 ∷ 2 ∷ 3 ∷ []) ∙ pieces in
      rw whole (simp append_assoc)

  -- texts to which the pieces of the four levels were added one by one
  pub four_levels : (old one two three four : List ℕ) → one ≡ old ++ piece 0 → two ≡ one ++ piece 1 → three ≡ two ++ piece 2 → four ≡ three ++ piece 3
      → four ≡ old ++ flat_map f (filter p (0 ∷ 1 ∷ 2 ∷ 3 ∷ []))
  four_levels old one two three four first second third fourth =
      fourth ∙ ap (λ t. t ++ piece 3) (third ∙ ap (λ t. t ++ piece 2) (second ∙ ap (λ t. t ++ piece 1) first)) ∙ four_pieces old
