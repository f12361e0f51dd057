-- Reading a line word by word.
use Rattle.std.proofs.Common.{◌≡◌, ℕ, ◌<◌, ◌≤◌, suc, drop_of_length-le, List, map, drop, length, Option, Some, sym, ap, ◌∙◌}
use Rattle.std.specs.Prelude.{option_and_then}
use Rattle.std.specs.List.{slice_index_or}
use Rattle.cd_words.specs.Lines.{Text, Said, said_by, words_said}
use Rattle.cd_words.specs.declared.names.CommandName.{CommandName}
use Rattle.cd_words.proofs.ListLaws.{seen_from}

-- the words from one on say what that one says, and then what is behind it
pub word_by_word : {X : Type 0} (command : CommandName) (said : Said) (see : X → Text) (words : List X) (i : ℕ) (word : X) (next : Option Said)
    → i < length words → word ≡ slice_index_or words i word → next ≡ said_by command said.given said.due (see word)
    → words_said command said (map see (drop i words)) ≡ option_and_then (λ s. words_said command s (map see (drop (suc i) words))) next
unfolding words_said
word_by_word command said see words i word next lt at is =
    ap (words_said command said) (seen_from see words i word lt at)
    ∙ ap (option_and_then (λ s. words_said command s (map see (drop (suc i) words)))) (sym is)

-- past the last word nothing more is said
pub all_said : {X : Type 0} (command : CommandName) (said : Said) (see : X → Text) (words : List X) (i : ℕ) → length words ≤ i
    → words_said command said (map see (drop i words)) ≡ Some said
unfolding words_said
all_said command said see words i past = ap (λ ws. words_said command said (map see ws)) (drop_of_length-le words past)
