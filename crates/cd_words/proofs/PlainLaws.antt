-- A plain line is read as what it means.
use Rattle.std.proofs.Common.{◌≡◌, ◌⊎◌, ◌++◌, ◌||◌, Bool, true, false, cond, eqb, List, [], ◌∷◌, map, flat_map, Option, Some, None, Result, Ok, Err, refl, sym, ap, subst, ◌∙◌, inl, inr, append_assoc, append-nil, arith}
use Rattle.std.specs.Prelude.{codes, MatchResult, IfOk, IfErr}
use Rattle.std.specs.List.{AllByRecursion}
use Rattle.cd_block.specs.Parsing.{behind, around}
use Rattle.cd_words.specs.declared.command.Command.{Command}
use Rattle.cd_words.specs.declared.fault.WordFault.{WordFault}
use Rattle.cd_words.specs.declared.fault.WordFault.TheVariants as fault
use Rattle.cd_words.specs.declared.names.CommandName.{CommandName}
use Rattle.cd_words.specs.declared.names.CommandName.TheVariants as command
use Rattle.cd_words.specs.declared.names.OptionName.{OptionName}
use Rattle.cd_words.specs.declared.names.OptionName.TheVariants as option
use Rattle.cd_words.specs.declared.names.OptionName.TheVariants.{To}
use Rattle.cd_words.specs.Lines.{Text, Given, Said, Line, is_given, may_come, option_in, is_value, words_said, line_of}
use Rattle.cd_words.specs.Names.{name_of, is_same, takes, command_named}
use Rattle.cd_words.specs.Plain.{PlainOption, PlainLine, IsPlainText, IsPlainOption, ComeOnce, IsPlain, option_words, words_of, command_text, meant}
use Rattle.cd_words.specs.Reading.{IsRefusal}
use Rattle.cd_words.specs.Values.{AreSpelt, IsFirstBad, Spells}
use Rattle.cd_words.proofs.ValueLaws.{first_value, none_bad, same_is}

-- ---- one option

in_one_word : (o : OptionName) (v : Text) → option_in (codes "--" ++ name_of o ++ codes "=" ++ v) ≡ Some (o, Some v)
unfolding behind around
in_one_word option.Workchain v = refl
in_one_word option.File v = refl
in_one_word option.Db v = refl
in_one_word option.To v = refl
in_one_word option.Id v = refl
in_one_word option.Max v = refl
in_one_word option.Number v = refl

in_two_words : (o : OptionName) → option_in (codes "--" ++ name_of o) ≡ Some (o, None)
unfolding behind around
in_two_words option.Workchain = refl
in_two_words option.File = refl
in_two_words option.Db = refl
in_two_words option.To = refl
in_two_words option.Id = refl
in_two_words option.Max = refl
in_two_words option.Number = refl

plain_value : (v : Text) → IsPlainText v → is_value v ≡ true
plain_value [] h = absurd h
plain_value (c ∷ []) h = refl
plain_value (c ∷ d ∷ rest) h =
    let other : eqb c 45 ≡ false = grind arith in
    rw other refl

-- a given option with one more
more_given : (o : OptionName) (given : Given) (g : OptionName × Text) → is_given o (given ++ g ∷ []) ≡ (is_given o given || is_same g.0 o)
more_given o [] g = go (is_same g.0 o) refl
  where
    go : (b : Bool) → is_same g.0 o ≡ b → is_given o (g ∷ []) ≡ (false || b)
    go true t = rw t refl
    go false t = rw t refl
more_given o (h ∷ given) g = step (is_same h.0 o) refl (more_given o given g)
  where
    step : (b : Bool) → is_same h.0 o ≡ b → is_given o (given ++ g ∷ []) ≡ (is_given o given || is_same g.0 o)
        → is_given o (h ∷ given ++ g ∷ []) ≡ (is_given o (h ∷ given) || is_same g.0 o)
    step true t later = rw (first_value o h (given ++ g ∷ []) true t, first_value o h given true t) refl
    step false t later = rw (first_value o h (given ++ g ∷ []) false t, first_value o h given false t) later

-- what may still come
abbrev IsNew : Given → PlainOption → Type 0
IsNew given o = (o.option ≡ To) ⊎ (is_given o.option given ≡ false)

new_may_come : (command : CommandName) (given : Given) (o : PlainOption) → takes command o.option ≡ true → IsNew given o → may_come command o.option given ≡ true
new_may_come command given o taken (inl to) = rw (taken, to) refl
new_may_come command given o taken (inr new) = rw (taken, new) (or_true (is_same o.option To))
  where
    or_true : (b : Bool) → (b || true) ≡ true
    or_true true = refl
    or_true false = refl

still_new : (given : Given) (o p : PlainOption) → ((o.option ≡ To) ⊎ (is_same o.option p.option ≡ false)) → IsNew given p → IsNew (given ++ (o.option, o.value) ∷ []) p
still_new given o p apart (inl to) = inl to
still_new given o p (inr other) (inr new) = inr (more_given p.option given (o.option, o.value) ∙ rw (new, other) refl)
still_new given o p (inl to) (inr new) = go (is_same o.option p.option) refl
  where
    go : (b : Bool) → is_same o.option p.option ≡ b → IsNew (given ++ (o.option, o.value) ∷ []) p
    go true t = inl (sym (same_is o.option p.option t) ∙ to)
    go false t = inr (more_given p.option given (o.option, o.value) ∙ rw (new, t) refl)

all_new : (given : Given) (o : PlainOption) (options : List PlainOption) → ((o.option ≡ To) ⊎ AllByRecursion (λ p. is_same o.option p.option ≡ false) options)
    → AllByRecursion (IsNew given) options → AllByRecursion (IsNew (given ++ (o.option, o.value) ∷ [])) options
all_new given o [] apart new = tt
all_new given o (p ∷ options) (inl to) new = (still_new given o p (inl to) new.0, all_new given o options (inl to) new.1)
all_new given o (p ∷ options) (inr apart) new = (still_new given o p (inr apart.0) new.0, all_new given o options (inr apart.1) new.1)

-- ---- all options

abbrev due_none : Given → Said
due_none given = record { given = given; due = None }

either : (b : Bool) (s : Option Said) → cond (b || true) s None ≡ s
either true s = refl
either false s = refl

option_read : (command : CommandName) (given : Given) (o : PlainOption) (words : List Text) (b : Bool) → o.in_one_word ≡ b → IsPlainOption command o → IsNew given o
    → words_said command (due_none given) (option_words o ++ words) ≡ words_said command (due_none (given ++ (o.option, o.value) ∷ [])) words
unfolding words_said
option_read command given o words true t plain new =
    rw (t, in_one_word o.option o.value, new_may_come command given o plain.taken new) refl
option_read command given o words false t plain new =
    rw (t, in_two_words o.option, new_may_come command given o plain.taken new, plain_value o.value plain.text, either (is_same o.option To)) refl

options_read : (command : CommandName) (given : Given) (options : List PlainOption) → AllByRecursion (IsPlainOption command) options → ComeOnce options
    → AllByRecursion (IsNew given) options → words_said command (due_none given) (flat_map option_words options) ≡ Some (due_none (given ++ map (λ o. (o.option, o.value)) options))
unfolding words_said
options_read command given [] plain once new = simp append-nil refl
options_read command given (o ∷ options) plain once new =
    option_read command given o (flat_map option_words options) o.in_one_word refl plain.0 new.0
    ∙ options_read command (given ++ (o.option, o.value) ∷ []) options plain.1 once.1 (all_new given o options once.0 new.1)
    ∙ ap (λ g. Some (due_none g)) (append_assoc given ((o.option, o.value) ∷ []) (map (λ p. (p.option, p.value)) options))

none_given : (options : List PlainOption) → AllByRecursion (IsNew []) options
none_given [] = tt
none_given (o ∷ options) = (inr refl, none_given options)

command_read : (c : CommandName) → command_named (command_text c) ≡ Some c
command_read command.Zero = refl
command_read command.Replay = refl
command_read command.Run = refl
command_read command.Check = refl
command_read command.Export = refl
command_read command.Gen = refl
command_read command.Migrate = refl

pub plain_is_read : (line : PlainLine) → IsPlain line → line_of (words_of line) ≡ Some (meant line)
plain_is_read line plain =
    let said = options_read line.command [] line.options plain.options plain.once (none_given line.options) in
    rw (command_read line.command, said, plain.needed) refl

plain_is_spelt : (command : CommandName) (options : List PlainOption) → AllByRecursion (IsPlainOption command) options → AreSpelt (map (λ o. (o.option, o.value)) options)
plain_is_spelt command [] plain = tt
plain_is_spelt command (o ∷ options) plain = (plain.0.spelt, plain_is_spelt command options plain.1)

some_is : {A : Type 0} (x y : A) → Some x ≡ Some y → x ≡ y
some_is x y e = cc

-- and so it is taken
pub plain_means : (line : PlainLine) (words : List Text) (read : Line) → IsPlain line → words ≡ words_of line → line_of words ≡ Some read → read ≡ meant line
plain_means line words read plain e is = some_is read (meant line) (sym is ∙ ap line_of e ∙ plain_is_read line plain)

pub plain_is_taken : (line : PlainLine) (words : List Text) (read : Line) (r : Result Command WordFault) → IsPlain line → words ≡ words_of line → line_of words ≡ Some read
    → IfOk r (Spells read) → IfErr r (λ e. e ≡ fault.Memory) → MatchResult r (Spells (meant line)) (λ e. e ≡ fault.Memory)
plain_is_taken line words read (Ok c) plain e is found full = subst (λ l. Spells l c) (plain_means line words read plain e is) found
plain_is_taken line words read (Err e) plain e' is found full = full

pub plain_refusal : (line : PlainLine) (words : List Text) (refusal : WordFault) → IsPlain line → words ≡ words_of line → IsRefusal words refusal → refusal ≡ fault.Memory
plain_refusal line words fault.Usage plain e refused = absurd (no_line (sym refused ∙ ap line_of e ∙ plain_is_read line plain))
  where
    no_line : None ≡ Some (meant line) → ⊥
    no_line h = cc
plain_refusal line words (fault.BadValue o) plain e refused =
    let same = plain_means line words refused.0 plain e refused.1 in
    absurd (none_bad o (meant line).given (plain_is_spelt line.command line.options plain.options) (subst (λ l. IsFirstBad o l.given) same refused.2))
plain_refusal line words fault.Memory plain e refused = refl
