-- Bytes that begin with the hashes and depths of a cell at its significant levels.
use Rattle.std.proofs.Common.{◌≡◌, ◌≢◌, ℕ, Bool, Bor, Option, Some, None, MatchOption, true, false, List, [], ◌∷◌, ◌++◌, flat_map, refl, sym, ap, subst, ◌∙◌, append_assoc, append-nil}
use Rattle.std.specs.Prelude.{if◌then◌else◌}
use Rattle.std.specs.List.{filter}
use Rattle.std.proofs.lemmas.List.{append_cancel_left}
use Rattle.cd_cell.specs.declared.info.ChildInfo.{ChildInfo}
use Rattle.cd_cell.specs.Masks.{is_significant}
use Rattle.cd_boc_read.specs.Views.{IsBehind}
use Rattle.cd_cell.specs.StoredText.{hash_text, depth_text, stored_hashes, stored_depths}

-- what f makes of the elements that pass, element by element
flat_map-filter : {X : Type 0} (p : X → Bool) (f : X → List ℕ) (xs : List X) → flat_map f (filter p xs) ≡ flat_map (λ x. if p x then f x else []) xs
flat_map-filter p f [] = refl
flat_map-filter p f (x ∷ xs) = elim (p x) as (λ b. flat_map f (if b then x ∷ filter p xs else filter p xs) ≡ (if b then f x else []) ++ flat_map (λ x. if p x then f x else []) xs) [
  | true ↦ ap (λ ys. f x ++ ys) (flat_map-filter p f xs)
  | false ↦ flat_map-filter p f xs
]

-- what stands for a level
abbrev pub piece : (ℕ → Bool) → (ℕ → List ℕ) → ℕ → List ℕ
piece p f l = if p l then f l else []

four_pieces : (p : ℕ → Bool) (f : ℕ → List ℕ) → flat_map f (filter p (0 ∷ 1 ∷ 2 ∷ 3 ∷ [])) ≡ piece p f 0 ++ (piece p f 1 ++ (piece p f 2 ++ piece p f 3))
four_pieces p f =
    let pieces : flat_map (λ l. if p l then f l else []) (0 ∷ 1 ∷ 2 ∷ 3 ∷ []) ≡ piece p f 0 ++ (piece p f 1 ++ (piece p f 2 ++ piece p f 3)) = simp append-nil in
    flat_map-filter p f (0 ∷ 1 ∷ 2 ∷ 3 ∷ []) ∙ pieces

abbrev pub hash_piece : ChildInfo → ℕ → List ℕ
hash_piece k = piece (is_significant k.mask) (hash_text k)

abbrev pub depth_piece : ChildInfo → ℕ → List ℕ
depth_piece k = piece (is_significant k.mask) (depth_text k)

pub stored_hashes-pieces : (k : ChildInfo) → stored_hashes k ≡ hash_piece k 0 ++ (hash_piece k 1 ++ (hash_piece k 2 ++ hash_piece k 3))
unfolding stored_hashes
stored_hashes-pieces k = four_pieces (is_significant k.mask) (hash_text k)

pub stored_depths-pieces : (k : ChildInfo) → stored_depths k ≡ depth_piece k 0 ++ (depth_piece k 1 ++ (depth_piece k 2 ++ depth_piece k 3))
unfolding stored_depths
stored_depths-pieces k = four_pieces (is_significant k.mask) (depth_text k)

-- bytes that don't begin with a piece don't begin with that and more
pub not_first : (s a q : List ℕ) → ((r : List ℕ) → s ≢ a ++ r) → (r : List ℕ) → s ≢ (a ++ q) ++ r
not_first s a q none r is = none (q ++ r) (is ∙ append_assoc a q r)

pub not_later : (s a q t : List ℕ) → s ≡ a ++ t → ((r : List ℕ) → t ≢ q ++ r) → (r : List ℕ) → s ≢ (a ++ q) ++ r
not_later s a q t at none r is = none r (append_cancel_left a t (q ++ r) (sym at ∙ is ∙ append_assoc a q r))

pub joined : (s a q t r : List ℕ) → s ≡ a ++ t → t ≡ q ++ r → s ≡ (a ++ q) ++ r
joined s a q t r at more = at ∙ ap (λ (x : List ℕ). a ++ x) more ∙ sym (append_assoc a q r)

-- bytes that begin with four pieces, piece by piece
module _ (a b c d s : List ℕ) where
  abbrev whole : List ℕ
  whole = a ++ (b ++ (c ++ d))

  pub first_differs : ((r : List ℕ) → s ≢ a ++ r) → (r : List ℕ) → s ≢ whole ++ r
  first_differs none r at = not_first s a (b ++ (c ++ d)) none r at

  module _ (t : List ℕ) (first : s ≡ a ++ t) where
    pub second_differs : ((r : List ℕ) → t ≢ b ++ r) → (r : List ℕ) → s ≢ whole ++ r
    second_differs none r at = not_later s a (b ++ (c ++ d)) t first (not_first t b (c ++ d) none) r at

    module _ (u : List ℕ) (second : t ≡ b ++ u) where
      pub third_differs : ((r : List ℕ) → u ≢ c ++ r) → (r : List ℕ) → s ≢ whole ++ r
      third_differs none r at = not_later s a (b ++ (c ++ d)) t first (not_later t b (c ++ d) u second (not_first u c d none)) r at

      module _ (v : List ℕ) (third : u ≡ c ++ v) where
        fourth_differs : ((r : List ℕ) → v ≢ d ++ r) → (r : List ℕ) → s ≢ whole ++ r
        fourth_differs none r at = not_later s a (b ++ (c ++ d)) t first (not_later t b (c ++ d) u second (not_later u c d v third none)) r at

        all_four : (r : List ℕ) → v ≡ d ++ r → s ≡ whole ++ r
        all_four r fourth = joined s a (b ++ (c ++ d)) t r first (joined t b (c ++ d) u r second (joined u c d v r third fourth))

        pub last_piece : (o : Option (Bor (List ℕ))) → MatchOption o ((r : List ℕ) → v ≢ d ++ r) (λ x. v ≡ d ++ x.now) → MatchOption o ((r : List ℕ) → s ≢ whole ++ r) (λ x. s ≡ whole ++ x.now)
        last_piece None none = fourth_differs none
        last_piece (Some x) fourth = all_four x.now fourth

-- ---- the pieces of a cell

pub piece_is : (k : ChildInfo) (l : ℕ) (f : ℕ → List ℕ) (value shown : List ℕ) → shown ≡ (if is_significant k.mask l then value else []) → value ≡ f l → shown ≡ piece (is_significant k.mask) f l
piece_is k l f value shown is same = is ∙ ap (λ (v : List ℕ). if is_significant k.mask l then v else []) same

pub behind_pieces : (k : ChildInfo) (f : ℕ → List ℕ) (whole bytes : List ℕ) (left : Option (Bor (List ℕ))) (a b c d : List ℕ)
    → a ≡ piece (is_significant k.mask) f 0 → b ≡ piece (is_significant k.mask) f 1 → c ≡ piece (is_significant k.mask) f 2 → d ≡ piece (is_significant k.mask) f 3
    → whole ≡ piece (is_significant k.mask) f 0 ++ (piece (is_significant k.mask) f 1 ++ (piece (is_significant k.mask) f 2 ++ piece (is_significant k.mask) f 3))
    → IsBehind bytes (a ++ (b ++ (c ++ d))) left → IsBehind bytes whole left
behind_pieces k f whole bytes left a b c d is-a is-b is-c is-d is told =
    let same : a ++ (b ++ (c ++ d)) ≡ whole = ap (λ (x : List ℕ). x ++ (b ++ (c ++ d))) is-a
    ∙ ap (λ (x : List ℕ). piece (is_significant k.mask) f 0 ++ (x ++ (c ++ d))) is-b
    ∙ ap (λ (x : List ℕ). piece (is_significant k.mask) f 0 ++ (piece (is_significant k.mask) f 1 ++ (x ++ d))) is-c
    ∙ ap (λ (x : List ℕ). piece (is_significant k.mask) f 0 ++ (piece (is_significant k.mask) f 1 ++ (piece (is_significant k.mask) f 2 ++ x))) is-d
    ∙ sym is in
    subst (λ (x : List ℕ). IsBehind bytes x left) same told

-- both parts, and nothing behind them
pub both_parts : (s h d t u : List ℕ) → s ≡ h ++ t → t ≡ d ++ u → u ≡ [] → s ≡ h ++ d
both_parts s h d t u front back end = front ∙ ap (λ (x : List ℕ). h ++ x) (back ∙ ap (λ (x : List ℕ). d ++ x) end ∙ append-nil d)

pub end_of_parts : (s h d t u : List ℕ) → s ≡ h ++ t → t ≡ d ++ u → s ≡ h ++ d → u ≡ []
end_of_parts s h d t u front back whole =
    let rest : t ≡ d = append_cancel_left h t d (sym front ∙ whole) in
    append_cancel_left d u [] (sym back ∙ rest ∙ sym (append-nil d))

pub no_second_part : (s h d t : List ℕ) → s ≡ h ++ t → ((r : List ℕ) → t ≢ d ++ r) → s ≢ h ++ d
no_second_part s h d t front none whole = none [] (append_cancel_left h t d (sym front ∙ whole) ∙ sym (append-nil d))

pub no_first_part : (s h d : List ℕ) → ((r : List ℕ) → s ≢ h ++ r) → s ≢ h ++ d
no_first_part s h d none whole = none d whole
