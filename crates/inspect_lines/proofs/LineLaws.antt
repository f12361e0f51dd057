-- Laws of lines: the parts of bytes that are cut at each newline, and texts that have a part for each line.
use Rattle.std.proofs.Common.{◌≡◌, ℕ, ◌+◌, ◌<◌, List, [], ◌∷◌, ◌++◌, ◌==◌, Bor, length, take, map, get_or, refl, sym, ap, subst, ◌∙◌, append_assoc, append-nil}
use Rattle.std.proofs.lemmas.List.{take_more, map-append}
use Rattle.std.specs.List.{slice_split, join_with_byte}
use Rattle.std.proofs.lemmas.List.Splits.{join_with_byte-slice_split}
use Rattle.inspect_lines.specs.Lines.{IsMadeOf}

pub parts_joined : (parts : List (List ℕ)) (bytes body : List ℕ) → parts ≡ slice_split (λ b. b == 10) bytes → bytes ≡ body → join_with_byte 10 parts ≡ body
parts_joined parts bytes body cut is = ap (join_with_byte 10) cut ∙ join_with_byte-slice_split 10 bytes ∙ is

module _ (Says : List ℕ → List ℕ → Type 0) where
  -- the part of one line more is put behind a text
  pub made_of_more : (lines : List (List ℕ)) (line text part : List ℕ) → IsMadeOf Says lines text → Says line part → IsMadeOf Says (lines ++ line ∷ []) (text ++ part)
  made_of_more [] line text part none says = (part, [], says, refl, ap (λ t. t ++ part) none ∙ sym (append-nil part))
  made_of_more (x ∷ xs) line text part (first, rest, first_says, others, made) says =
      (first, rest ++ part, first_says, made_of_more xs line rest part others says, ap (λ t. t ++ part) made ∙ append_assoc first rest part)

  -- the same where the lines are those that a loop has passed
  pub made_of_next : (lines : List (Bor (List ℕ))) (i : ℕ) (d : Bor (List ℕ)) (text part : List ℕ) → i < length lines → IsMadeOf Says (map (λ l. l.now) (take i lines)) text → Says ((get_or lines i d).now) part → IsMadeOf Says (map (λ l. l.now) (take (i + 1) lines)) (text ++ part)
  made_of_next lines i d text part below made says =
      let e : map (λ l. l.now) (take i lines) ++ (get_or lines i d).now ∷ [] ≡ map (λ l. l.now) (take (i + 1) lines) =
      sym (ap (map (λ l. l.now)) (take_more lines i d below) ∙ map-append (λ l. l.now) (take i lines) (get_or lines i d ∷ [])) in
      subst (λ ls. IsMadeOf Says ls (text ++ part)) e (made_of_more (map (λ l. l.now) (take i lines)) (get_or lines i d).now text part made says)

  -- the same where the text is known to have grown by the part
  pub made_of_step : (lines : List (Bor (List ℕ))) (i : ℕ) (d : Bor (List ℕ)) (text part grown : List ℕ) → i < length lines → IsMadeOf Says (map (λ l. l.now) (take i lines)) text → Says ((get_or lines i d).now) part → grown ≡ text ++ part → IsMadeOf Says (map (λ l. l.now) (take (i + 1) lines)) grown
  made_of_step lines i d text part grown below made says is =
      subst (λ t. IsMadeOf Says (map (λ l. l.now) (take (i + 1) lines)) t) (sym is) (made_of_next lines i d text part below made says)
