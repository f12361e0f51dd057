-- The values of a line.
use Rattle.std.proofs.Common.{◌≡◌, ◌++◌, Bool, true, false, cond, [], ◌∷◌, Option, Some, refl, sym, ap, subst, ◌∙◌, inl, inr}
use Rattle.std.proofs.lemmas.Slice.Eq.{bytes_eq-Decides}
use Rattle.cd_words.specs.Lines.{Text, Given, value_of, paths_of}
use Rattle.cd_words.specs.Names.{name_of, is_same, option_named}
use Rattle.cd_words.specs.Spelling.{HasSpelling}
use Rattle.cd_words.specs.Values.{AreSpelt, IsFirstBad}
use Rattle.cd_words.specs.declared.names.OptionName.{OptionName}
use Rattle.cd_words.specs.declared.names.OptionName.TheVariants as option
use Rattle.cd_words.specs.declared.names.OptionName.TheVariants.{To}

-- ---- names

pub named : (o : OptionName) → option_named (name_of o) ≡ Some o
named option.Workchain = refl
named option.File = refl
named option.Db = refl
named option.To = refl
named option.Id = refl
named option.Max = refl
named option.Number = refl

some_is : {A : Type 0} (x y : A) → Some x ≡ Some y → x ≡ y
some_is x y e = cc

pub same_is : (a b : OptionName) → is_same a b ≡ true → a ≡ b
same_is a b t =
    let names : name_of a ≡ name_of b = (bytes_eq-Decides (name_of a) (name_of b)).0 t in
    some_is a b (sym (named a) ∙ ap option_named names ∙ named b)

-- ---- values

found_spelt : (o : OptionName) (g : OptionName × Text) (rest : Option Text) (v : Text) → HasSpelling g.0 g.1
    → (rest ≡ Some v → HasSpelling o v) → (b : Bool) → is_same g.0 o ≡ b → cond b (Some g.1) rest ≡ Some v → HasSpelling o v
found_spelt o g rest v here later true t e = subst (λ x. HasSpelling x v) (same_is g.0 o t) (subst (λ w. HasSpelling g.0 w) (some_is g.1 v e) here)
found_spelt o g rest v here later false t e = later e

pub first_value : (o : OptionName) (g : OptionName × Text) (given : Given) (b : Bool) → is_same g.0 o ≡ b → value_of o (g ∷ given) ≡ cond b (Some g.1) (value_of o given)
first_value o g given true t = rw t refl
first_value o g given false t = rw t refl

pub value_spelt : (o : OptionName) (given : Given) (v : Text) → AreSpelt given → value_of o given ≡ Some v → HasSpelling o v
value_spelt o [] v spelt e = absurd cc
value_spelt o (g ∷ given) v spelt e =
    found_spelt o g (value_of o given) v spelt.0 (value_spelt o given v spelt.1) (is_same g.0 o) refl (sym (first_value o g given (is_same g.0 o) refl) ∙ e)

pub none_bad : (o : OptionName) (given : Given) → AreSpelt given → IsFirstBad o given → ⊥
none_bad o [] spelt bad = bad
none_bad o (g ∷ given) spelt (inl bad) = bad.1 spelt.0
none_bad o (g ∷ given) spelt (inr bad) = none_bad o given spelt.1 bad.1

-- ---- paths

pub paths_of-cons : (g : OptionName × Text) (given : Given) → paths_of (g ∷ given) ≡ paths_of (g ∷ []) ++ paths_of given
paths_of-cons g given = go (is_same g.0 To) refl
  where
    go : (b : Bool) → is_same g.0 To ≡ b → paths_of (g ∷ given) ≡ paths_of (g ∷ []) ++ paths_of given
    go true t = rw t refl
    go false t = rw t refl
