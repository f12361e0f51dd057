-- Words name one database, or none.
use Rattle.std.proofs.Common.{◌≡◌, ◌⊎◌, ⊎_elim, ℕ, List, [], Option, Some, None, refl, sym, ◌∙◌, subst, inl, inr}
use Rattle.std.specs.Prelude.{String, string_bytes, option_map}
use Rattle.cd_words.specs.declared.command.Command.{Command}
use Rattle.cd_words.specs.declared.command.Command.TheVariants as is
use Rattle.cd_words.specs.declared.fault.WordFault.{WordFault}
use Rattle.cd_words.specs.declared.fault.WordFault.TheVariants as fault
use Rattle.cd_words.specs.declared.names.CommandName.TheVariants as command
use Rattle.cd_words.specs.declared.names.OptionName.TheVariants as option
use Rattle.cd_words.specs.Lines.{Line, value_of}
use Rattle.cd_words.specs.Reading.{HasCommand, IsRefusal}
use Rattle.cd_words.specs.Values.{Spells}
use Rattle.cd_words.proofs.CommandLaws.{refused_alone}
use Rattle.celldb.specs.Places.{path_in, AreFiles, IsDatabase}

-- a line names no database: it is that of `gen`, or has no such option
abbrev NamesNone : Line → Type 0
NamesNone line = (line.command ≡ command.Gen) ⊎ (value_of option.Db line.given ≡ None)

names-none : (line : Line) (c : Command) → Spells line c → path_in c ≡ None → NamesNone line
names-none line (is.Zero w f db) spelt none = inr (sym spelt.3 ∙ none)
names-none line (is.Replay db to) spelt none = inr (sym spelt.1 ∙ none)
names-none line (is.Run db to) spelt none = inr (sym spelt.1 ∙ none)
names-none line (is.Check db) spelt none = inr (sym spelt.1 ∙ none)
names-none line (is.Export id max db to) spelt none = inr (sym spelt.3 ∙ none)
names-none line (is.Gen number) spelt none = inl spelt.0
names-none line (is.Migrate db) spelt none = inr (sym spelt.1 ∙ none)

none-named : (line : Line) (c : Command) → Spells line c → NamesNone line → path_in c ≡ None
none-named line (is.Zero w f db) spelt none = ⊎_elim (λ gen. absurd (let e = sym spelt.0 ∙ gen in cc)) (λ n. spelt.3 ∙ n) none
none-named line (is.Replay db to) spelt none = ⊎_elim (λ gen. absurd (let e = sym spelt.0 ∙ gen in cc)) (λ n. spelt.1 ∙ n) none
none-named line (is.Run db to) spelt none = ⊎_elim (λ gen. absurd (let e = sym spelt.0 ∙ gen in cc)) (λ n. spelt.1 ∙ n) none
none-named line (is.Check db) spelt none = ⊎_elim (λ gen. absurd (let e = sym spelt.0 ∙ gen in cc)) (λ n. spelt.1 ∙ n) none
none-named line (is.Export id max db to) spelt none = ⊎_elim (λ gen. absurd (let e = sym spelt.0 ∙ gen in cc)) (λ n. spelt.3 ∙ n) none
none-named line (is.Gen number) spelt none = refl
none-named line (is.Migrate db) spelt none = ⊎_elim (λ gen. absurd (let e = sym spelt.0 ∙ gen in cc)) (λ n. spelt.1 ∙ n) none

some_is : {A : Type 0} (x y : A) → Some x ≡ Some y → x ≡ y
some_is x y e = cc

by-path : (words : List (List ℕ)) (c : Command) (path : Option (List ℕ)) → HasCommand words c → path ≡ path_in c → IsDatabase words path
by-path words c (Some path) has said = (c, has, sym said)
by-path words c None has said = λ d other.
    none-named other.0 d other.2 (subst NamesNone (some_is has.0 other.0 (sym has.1.line_is ∙ other.1.line_is)) (names-none has.0 c has.2 (sym said)))

-- the words of a command name its database
pub database-of : {Z : Type 0} (words : List (List ℕ)) (c : Command) (found : Option (String Z)) → HasCommand words c → option_map string_bytes found ≡ path_in c
    → IsDatabase words (option_map string_bytes found)
database-of words c found has said = by-path words c (option_map string_bytes found) has said

-- words that are refused name none
pub no-database : (words : List (List ℕ)) (refusal : WordFault) → IsRefusal words refusal → (refusal ≡ fault.Memory → ⊥) → IsDatabase words None
no-database words refusal refused other = λ c has. absurd (other (refused_alone words refusal c refused has))

-- nor a file of a client
pub no-files : (words : List (List ℕ)) (refusal : WordFault) → IsRefusal words refusal → (refusal ≡ fault.Memory → ⊥) → AreFiles words []
no-files words refusal refused other = inr (λ c has. other (refused_alone words refusal c refused has), refl)
