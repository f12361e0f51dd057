-- Laws of parts in a row, each of which has its number.
use Rattle.std.proofs.Common.{◌≡◌, ℕ, zero, suc, ◌+◌, ◌<◌, List, [], ◌∷◌, ◌++◌, length, take, get_or, sym, ap, ◌∙◌, subst, append_assoc, append-nil, arith}
use Rattle.inspect_feed.specs.FeedTexts.{numbered}

module _ {X : Type 0} (part : ℕ → X → List ℕ) where
  from : (n m : ℕ) (xs : List X) (d : X) → m < length xs → numbered part n (take (suc m) xs) ≡ numbered part n (take m xs) ++ part (n + m) (get_or xs m d)
  from n m [] d below = absurd (omega arith)
  from n zero (x ∷ xs) d below =
      let same : n ≡ n + 0 = omega arith in
      append-nil (part n x) ∙ ap (λ k. part k x) same
  from n (suc m) (x ∷ xs) d below =
      let same : n + 1 + m ≡ n + suc m = omega arith in
      ap (λ t. part n x ++ t) (from (n + 1) m xs d (omega arith) ∙ ap (λ k. numbered part (n + 1) (take m xs) ++ part k (get_or xs m d)) same)
      ∙ sym (append_assoc (part n x) (numbered part (n + 1) (take m xs)) (part (n + suc m) (get_or xs m d)))

  -- the part of one item more
  numbered-more : (xs : List X) (i : ℕ) (d : X) → i < length xs → numbered part 0 (take (i + 1) xs) ≡ numbered part 0 (take i xs) ++ part i (get_or xs i d)
  numbered-more xs i d below =
      let more : suc i ≡ i + 1 = omega arith in
      let same : 0 + i ≡ i = omega arith in
      subst (λ k. numbered part 0 (take k xs) ≡ numbered part 0 (take i xs) ++ part i (get_or xs i d)) more
      (from 0 i xs d below ∙ ap (λ k. numbered part 0 (take i xs) ++ part k (get_or xs i d)) same)

  -- a text to which a loop puts the part of one item more
  pub numbered-step : (xs : List X) (i : ℕ) (x : X) (start text grown : List ℕ) → i < length xs → x ≡ get_or xs i x → text ≡ start ++ numbered part 0 (take i xs) → grown ≡ text ++ part i x → grown ≡ start ++ numbered part 0 (take (i + 1) xs)
  numbered-step xs i x start text grown below is so_far more =
      more ∙ ap (λ t. t ++ part i x) so_far
      ∙ append_assoc start (numbered part 0 (take i xs)) (part i x)
      ∙ ap (λ y. start ++ (numbered part 0 (take i xs) ++ part i y)) is
      ∙ ap (λ t. start ++ t) (sym (numbered-more xs i x below))
