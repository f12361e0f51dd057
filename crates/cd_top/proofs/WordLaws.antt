-- Which words are taken.
use Rattle.std.proofs.Common.{◌≡◌, ℕ, ◌≤◌, List, Option, Some, None, Result, Ok, Err, refl, sym, ◌∙◌, subst, inl, inr, arith}
use Rattle.std.specs.Prelude.{IfOk, IfErr, MatchResult}
use Rattle.std.proofs.lemmas.Option.{none-some, same_Some}
use Rattle.cd_slices.specs.declared.export.TheConstants.{MOST_SLICE}
use Rattle.cd_words.specs.declared.command.Command.{Command}
use Rattle.cd_words.specs.declared.command.Command.TheVariants as command
use Rattle.cd_words.specs.declared.names.OptionName.TheVariants as option
use Rattle.cd_words.specs.Lines.{Line, Text, value_of}
use Rattle.cd_words.specs.Values.{MaxIs, Spells}
use Rattle.cd_words.specs.declared.fault.WordFault.{WordFault}
use Rattle.cd_words.specs.declared.fault.WordFault.TheVariants as word
use Rattle.cd_words.specs.Reading.{HasCommand, IsRefusal}
use Rattle.cd_command.specs.declared.status.Status.{Status}
use Rattle.cd_command.specs.declared.status.Status.TheVariants as status
use Rattle.cd_top.specs.Call.{work_by, IsForOnce, IsForRun, IsLineOf, EndsUntaken, status_by}
use Rattle.cd_top.specs.declared.work.Work.{Work}
use Rattle.cd_top.specs.declared.work.Work.TheVariants as work
use Rattle.cd_top.specs.Within.{IsWithin}

module _ (words : List (List ℕ)) (c : Command) (has : HasCommand words c) where
  -- what a command asks for is what its words do
  pub found-line : (r : Result Work Status) → MatchResult r (λ w. work_by c ≡ Some w) (λ end. (end ≡ status.Usage word.Usage) × (work_by c ≡ None)) → IfOk r (λ w. IsLineOf w words)
  found-line (Ok w) told = (c, has, told)
  found-line (Err end) told = tt

  -- a command that is done on threads is not taken
  pub other-line : (r : Result Work Status) → MatchResult r (λ w. work_by c ≡ Some w) (λ end. (end ≡ status.Usage word.Usage) × (work_by c ≡ None)) → IfErr r (EndsUntaken IsForRun words)
  other-line (Ok w) told = tt
  other-line (Err end) told = subst (EndsUntaken IsForRun words) (sym told.0) (inr (refl, c, has, told.1))

  -- nor is one that is done on one thread by the other call
  pub once-line : (w : Work) → work_by c ≡ Some w → EndsUntaken IsForOnce words (status.Usage word.Usage)
  once-line w is = inr (refl, c, has, λ none. none-some w (sym none ∙ is))

-- a piece of an export is as long as its words allow
max-within : (text : Option Text) (max : ℕ) → MaxIs text max → (1 ≤ max) × (max ≤ MOST_SLICE)
max-within None max is = (omega (arith, is), omega (arith, is))
max-within (Some text) max is = (is.low, is.high)

work-within : (line : Line) (c : Command) (w : Work) → Spells line c → work_by c ≡ Some w → IsWithin w
work-within line (command.Export id max db to) w spelt is =
    subst IsWithin (same_Some (work.Export id max) w is) (max-within (value_of option.Max line.given) max spelt.2)
work-within line (command.Zero workchain file db) w spelt is = subst IsWithin (same_Some _ w is) tt
work-within line (command.Check db) w spelt is = subst IsWithin (same_Some _ w is) tt
work-within line (command.Migrate db) w spelt is = subst IsWithin (same_Some _ w is) tt
work-within line (command.Gen number) w spelt is = subst IsWithin (same_Some _ w is) tt
work-within line (command.Replay db to) w spelt is = subst IsWithin (same_Some _ w is) tt
work-within line (command.Run db to) w spelt is = absurd (none-some w is)

pub line-within : (words : List (List ℕ)) (c : Command) → HasCommand words c
    → (r : Result Work Status) → MatchResult r (λ w. work_by c ≡ Some w) (λ end. (end ≡ status.Usage word.Usage) × (work_by c ≡ None)) → IfOk r IsWithin
line-within words c has (Ok w) told = work-within has.0 c w has.2 told
line-within words c has (Err end) told = tt

-- nor are words that are refused
pub refused-line : (IsOther : Command → Type 0) (words : List (List ℕ)) (fault : WordFault) → IsRefusal words fault → EndsUntaken IsOther words (status_by fault)
refused-line IsOther words word.Memory refused = tt
refused-line IsOther words word.Usage refused = inl refused
refused-line IsOther words (word.BadValue option) refused = inl refused
