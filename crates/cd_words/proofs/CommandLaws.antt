-- Words have one command.
use Rattle.std.proofs.Common.{◌≡◌, ℕ, ℤ, ◌^◌, ◌<◌, pos, List, Option, Some, None, Result, Ok, refl, sym, ap, subst, ◌∙◌, arith}
use Rattle.std.specs.Prelude.{String, string_bytes, option_map}
use Rattle.hex.specs.Hex.{decode_sized}
use Rattle.cd_base.specs.declared.hash.Hash256.{Hash256}
use Rattle.cd_block.proofs.Numbers.{number_of-decimal}
use Rattle.cd_block.specs.Parsing.{number_of}
use Rattle.cd_words.specs.declared.command.Command.{Command}
use Rattle.cd_words.specs.declared.command.Command.TheVariants as is
use Rattle.cd_words.specs.declared.fault.WordFault.{WordFault}
use Rattle.cd_words.specs.declared.fault.WordFault.TheVariants as fault
use Rattle.cd_words.specs.Lines.{Text, Line}
use Rattle.cd_words.specs.Reading.{HasCommand, IsRefusal}
use Rattle.cd_words.specs.Spelling.{IsNumber}
use Rattle.cd_words.specs.Values.{AreSpelt, WorkchainIs, FileIs, NumberIs, Spells}
use Rattle.cd_words.proofs.ValueLaws.{none_bad}

some_is : {A : Type 0} (x y : A) → Some x ≡ Some y → x ≡ y
some_is x y e = cc

number_is : (greatest : ℕ) (text : Text) (m n : ℕ) → greatest < 2 ^ 64 → IsNumber 0 greatest text m → IsNumber 0 greatest text n → m ≡ n
number_is greatest text m n small a b =
    some_is m n (sym (number_of-decimal (2 ^ 64) m (omega (arith, a.high, small)) (omega (arith, a.high, small)))
    ∙ ap (number_of (2 ^ 64)) (sym a.text_is ∙ b.text_is)
    ∙ number_of-decimal (2 ^ 64) n (omega (arith, b.high, small)) (omega (arith, b.high, small)))

workchain_is : (text : Option Text) (w v : ℤ) → WorkchainIs text w → WorkchainIs text v → w ≡ v
workchain_is None w v a b = a ∙ sym b
workchain_is (Some text) w v a b = a.2 ∙ ap pos (number_is 2147483647 text a.0 b.0 (omega arith) a.1 b.1) ∙ sym b.2

ok_is : {A E : Type 0} (x y : A) (r : Result A E) → r ≡ Ok x → r ≡ Ok y → x ≡ y
ok_is x y r a b = let e = sym a ∙ b in cc

file_is : (text : Option Text) (f g : Hash256) → FileIs text f → FileIs text g → f ≡ g
file_is None f g a b = a ∙ sym b
file_is (Some text) f g a b = ap (λ bytes. record { 0 = bytes }) (ok_is f.0 g.0 (decode_sized text 32) a b)

no_path : {Z : Type 0} (db : Option (String Z)) → None ≡ option_map string_bytes db → db ≡ None
no_path None e = refl
no_path (Some path) e = absurd cc

zero_spelt : (line : Line) (w : ℤ) (f : Hash256) (c : Command) → Spells line (is.Zero w f None) → Spells line c → c ≡ is.Zero w f None
zero_spelt line w f (is.Zero v g db) a b =
    (λ i. is.Zero (workchain_is _ v w b.1 a.1 i) (file_is _ g f b.2 a.2 i) (no_path db (a.3 ∙ sym b.3) i))
zero_spelt line w f (is.Replay db to) a b = absurd (let e = sym a.0 ∙ b.0 in cc)
zero_spelt line w f (is.Run db to) a b = absurd (let e = sym a.0 ∙ b.0 in cc)
zero_spelt line w f (is.Check db) a b = absurd (let e = sym a.0 ∙ b.0 in cc)
zero_spelt line w f (is.Export id max db to) a b = absurd (let e = sym a.0 ∙ b.0 in cc)
zero_spelt line w f (is.Gen number) a b = absurd (let e = sym a.0 ∙ b.0 in cc)
zero_spelt line w f (is.Migrate db) a b = absurd (let e = sym a.0 ∙ b.0 in cc)

-- words of `zero` without a database spell that command alone
pub zero_alone : (words : List Text) (w : ℤ) (f : Hash256) (c : Command) → HasCommand words (is.Zero w f None) → HasCommand words c → c ≡ is.Zero w f None
zero_alone words w f c a b =
    zero_spelt a.0 w f c a.2 (subst (λ l. Spells l c) (some_is b.0 a.0 (sym b.1.line_is ∙ a.1.line_is)) b.2)

feed_number_is : (text : Option Text) (m n : ℕ) → NumberIs text m → NumberIs text n → m ≡ n
feed_number_is None m n a b = absurd a
feed_number_is (Some text) m n a b = number_is 18446744073709551615 text m n (omega arith) a b

gen_spelt : (line : Line) (n : ℕ) (c : Command) → Spells line (is.Gen n) → Spells line c → c ≡ is.Gen n
gen_spelt line n (is.Gen m) a b = ap (λ k. is.Gen k) (feed_number_is _ m n b.1 a.1)
gen_spelt line n (is.Zero w f db) a b = absurd (let e = sym a.0 ∙ b.0 in cc)
gen_spelt line n (is.Replay db to) a b = absurd (let e = sym a.0 ∙ b.0 in cc)
gen_spelt line n (is.Run db to) a b = absurd (let e = sym a.0 ∙ b.0 in cc)
gen_spelt line n (is.Check db) a b = absurd (let e = sym a.0 ∙ b.0 in cc)
gen_spelt line n (is.Export id max db to) a b = absurd (let e = sym a.0 ∙ b.0 in cc)
gen_spelt line n (is.Migrate db) a b = absurd (let e = sym a.0 ∙ b.0 in cc)

-- words of `gen` spell that command alone, with one number
pub gen_alone : (words : List Text) (n : ℕ) (c : Command) → HasCommand words (is.Gen n) → HasCommand words c → c ≡ is.Gen n
gen_alone words n c a b =
    gen_spelt a.0 n c a.2 (subst (λ l. Spells l c) (some_is b.0 a.0 (sym b.1.line_is ∙ a.1.line_is)) b.2)

-- words that are refused spell no command
pub refused_alone : (words : List Text) (refusal : WordFault) (c : Command) → IsRefusal words refusal → HasCommand words c → refusal ≡ fault.Memory
refused_alone words fault.Usage c refused has = absurd (let e = sym refused ∙ has.1.line_is in cc)
refused_alone words (fault.BadValue o) c refused has =
    absurd (none_bad o refused.0.given (subst (λ l. AreSpelt l.given) (some_is has.0 refused.0 (sym has.1.line_is ∙ refused.1)) has.1.spelt) refused.2)
refused_alone words fault.Memory c refused has = refl
