-- What is asked for by words of which a parse gave matches, or an error.
use Rattle.std.proofs.Common.{◌≡◌, ◌≢◌, ◌⊎◌, ◌↔◌, List, [], ◌∷◌, Option, None, Result, Ok, Err, true, refl, ap, sym, ◌∙◌, subst, ⊎_elim, inl, inr, IfOk}
use Rattle.std.specs.Prelude.{⊤}
use Rattle.std.specs.declared.alloc.AllocError.{AllocError}
use Rattle.clap.specs.Words.{Kinds, IsAmong, Row, Text, fault_of, is_simple, is_simple_and_free, subcommand_of}
use Rattle.clap.specs.declared.error.kind.ErrorKind.{ErrorKind}
use Rattle.clap.specs.declared.error.kind.ErrorKind.TheVariants as kind
use Rattle.clap.proofs.OnLiterals.{clap_on_literals}
use Rattle.inspect_words.specs.Commands.{inspect}
use Rattle.inspect_words.specs.Modes.{IsOfText, IsText, MayShowText, ShowsText, asked_mode, asked_path, mode_in, mode_of, path_in, path_of, unless_at_fault}
use Rattle.inspect_words.specs.declared.asked.Asked.{Asked}
use Rattle.inspect_words.specs.declared.mode.Mode.{Mode}

-- the matches of the commands and their errors are known
pub inspect_is_free : is_simple_and_free inspect ≡ true
unfolding clap_on_literals
inspect_is_free = refl

pub inspect_is_simple : is_simple inspect ≡ true
unfolding clap_on_literals
inspect_is_simple = refl

abbrev IsNone : Kinds → Type 0
IsNone [] = ⊤
IsNone (k ∷ ks) = ⊥

no_fault : (k : ErrorKind) (ks : Kinds) → ks ≡ [] → ks ≡ k ∷ [] → ⊥
no_fault k ks none one = subst IsNone (sym none ∙ one) tt

-- where the words have no fault
pub asked-found : (words : List Text) (found : Option (Text × List Row)) → fault_of inspect words ≡ [] → found ≡ subcommand_of inspect words → mode_in found ≡ asked_mode words
asked-found words found none is =
    ap mode_in is ∙ ap (λ ks. unless_at_fault ks (mode_in (subcommand_of inspect words))) (sym none)

pub asked-path : (words : List Text) (found : Option (Text × List Row)) → fault_of inspect words ≡ [] → found ≡ subcommand_of inspect words → path_in found ≡ asked_path words
asked-path words found none is =
    ap path_in is ∙ ap (λ ks. unless_at_fault ks (path_in (subcommand_of inspect words))) (sym none)

-- what is asked for by the matches is asked for by the words
pub matched : {A : Type 0} (r : Result Asked AllocError) (of : Asked → A) (a b : A) → IfOk r (λ x. of x ≡ a) → a ≡ b → IfOk r (λ x. of x ≡ b)
matched (Ok x) of a b is e = is ∙ e
matched (Err x) of a b is e = tt

pub shown-found : (words : List Text) → fault_of inspect words ≡ [] → ShowsText words → ⊥
shown-found words none (inl e) = no_fault _ (fault_of inspect words) none e
shown-found words none (inr e) = no_fault _ (fault_of inspect words) none e

at_fault : {T : Type 0} (k : ErrorKind) (ks : Kinds) (m : Option T) → IsAmong k ks → None ≡ unless_at_fault ks m
at_fault k [] m among = absurd among
at_fault k (x ∷ xs) m among = refl

-- where they have one, which is told by an error of this kind
module _ (words : List Text) (k : ErrorKind) (known : (k ≡ kind.OutOfMemory) ⊎ IsAmong k (fault_of inspect words)) where
  among : k ≢ kind.OutOfMemory → IsAmong k (fault_of inspect words)
  among other = ⊎_elim (λ memory. absurd (other memory)) (λ h. h) known

  pub asked-refused : (r : Result Asked AllocError) → IfOk r (λ _. k ≢ kind.OutOfMemory) → IfOk r (λ a. mode_of a ≡ None) → IfOk r (λ a. mode_of a ≡ asked_mode words)
  asked-refused (Ok a) other none = none ∙ at_fault k (fault_of inspect words) (mode_in (subcommand_of inspect words)) (among other)
  asked-refused (Err e) other none = tt

  pub path-refused : (r : Result Asked AllocError) → IfOk r (λ _. k ≢ kind.OutOfMemory) → IfOk r (λ a. path_of a ≡ None) → IfOk r (λ a. path_of a ≡ asked_path words)
  path-refused (Ok a) other none = none ∙ at_fault k (fault_of inspect words) (path_in (subcommand_of inspect words)) (among other)
  path-refused (Err e) other none = tt

  pub text-refused : (r : Result Asked AllocError) → IfOk r (λ _. k ≢ kind.OutOfMemory) → IfOk r (λ a. IsText a ↔ IsOfText k) → IfOk r (λ a. IsText a → MayShowText words)
  text-refused (Ok a) other text = λ is.
      ⊎_elim
      (λ help. inl (subst (λ x. IsAmong x (fault_of inspect words)) help (among other)))
      (λ version. inr (subst (λ x. IsAmong x (fault_of inspect words)) version (among other)))
      (text.0 is)
  text-refused (Err e) other text = tt

  only : (x : ErrorKind) → k ≢ kind.OutOfMemory → fault_of inspect words ≡ x ∷ [] → k ≡ x
  only x other is = ⊎_elim (λ e. e) (λ none. absurd none) (subst (IsAmong k) is (among other))

  pub shown-refused : (r : Result Asked AllocError) → IfOk r (λ _. k ≢ kind.OutOfMemory) → IfOk r (λ a. IsText a ↔ IsOfText k) → ShowsText words → IfOk r IsText
  shown-refused (Ok a) other text shows = text.1 (⊎_elim (λ e. inl (only kind.DisplayHelp other e)) (λ e. inr (only kind.DisplayVersion other e)) shows)
  shown-refused (Err e) other text shows = tt
