use Rattle.std.proofs.Common.{◌≡◌, ◌<◌, List, ℕ, [], ◌∷◌, length, map, string_bytes, sym, ap, ◌∙◌, arith}
use Rattle.std.specs.Prelude.{codes, ◌↔◌}
use Rattle.std.specs.List.{slice_index_or}
use Rattle.std.specs.Str.{bytes_eq}
use Rattle.std.proofs.lemmas.Slice.Eq.{bytes_eq-Decides}
use Rattle.cd_words.specs.Reading.{BeginsWithRun}
use Rattle.cd_words.proofs.reading.is_run.Goals as goal

by_first : {X : Type 0} (see : X → List ℕ) (xs : List X) (x : X) → 0 < length xs → x ≡ slice_index_or xs 0 x
    → (see x ≡ codes "run") ↔ BeginsWithRun (map see xs)
by_first see [] x some at = absurd (omega (arith, some))
by_first see (y ∷ xs) x some at = (λ e. sym (ap see at) ∙ e, λ e. ap see at ∙ e)

pub returns-in-len1-up : goal.returns-in-len1-up
returns-in-len1-up c =
    let word = string_bytes c.first-item.result in
    let decides = bytes_eq-Decides word (codes "run") in
    let tested : c.eq.result ≡ bytes_eq word (codes "run") = c.eq.ensures ∙ ap (λ w. bytes_eq w (codes "run")) c.as_str.ensures.value in
    let first = by_first string_bytes c.args.words.now c.first-item.result (omega (arith, c.in-len1-up.len_at_least)) c.first-item.is in
    (λ t. first.0 (decides.0 (sym tested ∙ t)), λ e. tested ∙ decides.1 (first.1 e))
