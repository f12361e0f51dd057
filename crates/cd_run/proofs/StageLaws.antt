-- Stages of a task, one after another.
use Rattle.std.proofs.Common.{◌≡◌, ℕ, Bool, true, false, ◌||◌, List, [], ◌∷◌, ◌++◌, Option, Some, None, refl, sym, ap, subst, ◌∙◌, append-nil, arith}
use Rattle.cd_event.specs.declared.names.Who.{Who}
use Rattle.cd_event.specs.declared.names.At.{At}
use Rattle.cd_event.specs.declared.event.Event.{Event}
use Rattle.cd_event.specs.declared.entry.Entry.{Entry}
use Rattle.cd_event.specs.declared.entry.Reply.{Reply}
use Rattle.cd_event.specs.Replies.{who_of, entries_of}
use Rattle.cd_event.specs.Pins.{Named}
use Rattle.cd_event.specs.Turning.{Turned, RisesOnly, is_keeper}
use Rattle.cd_run.specs.Runs.{has_failed}
use Rattle.cd_run.specs.Stages.{Stage}

-- ---- whether the keeper failed

or_false : (b : Bool) → (b || false) ≡ b
or_false true = refl
or_false false = refl

or_true : (b : Bool) → (b || true) ≡ true
or_true true = refl
or_true false = refl

or_assoc : (a b c : Bool) → ((a || b) || c) ≡ (a || (b || c))
or_assoc true b c = refl
or_assoc false b c = refl

rises_none : (n : ℕ) → RisesOnly false n n
rises_none n = record { later = omega arith; steady = λ _. refl; rose = λ never. cc }

module _ {H : Type 0} where
  pub failed_both : (es fs : List (Entry H)) → has_failed (es ++ fs) ≡ (has_failed es || has_failed fs)
  failed_both [] fs = refl
  failed_both (e ∷ es) fs = ap (λ b. is_keeper (Some e.reply) || b) (failed_both es fs) ∙ sym (or_assoc (is_keeper (Some e.reply)) (has_failed es) (has_failed fs))

  pub failed_first : (es fs : List (Entry H)) → has_failed es ≡ true → has_failed (es ++ fs) ≡ true
  failed_first es fs failed = failed_both es fs ∙ ap (λ b. b || has_failed fs) failed

  pub failed_last : (es fs : List (Entry H)) → has_failed fs ≡ true → has_failed (es ++ fs) ≡ true
  failed_last es fs failed = failed_both es fs ∙ (ap (λ b. has_failed es || b) failed ∙ or_true (has_failed es))

  failed_call : (who : Who) (e : Event H) (answer : Option Reply) → has_failed (entries_of who e answer) ≡ is_keeper answer
  failed_call who e None = refl
  failed_call who e (Some reply) = or_false (is_keeper (Some reply))

-- the name of a worker's task
pub whose : (who : Who) (n : ℕ) → n ≡ who.worker → who_of (record { phase = who.phase; task = who.task }) n ≡ who
whose who n is = λ i. record { phase = who.phase; worker = is i; task = who.task }

-- ---- stages

module _ {S H : Type 0} (worker faults : S → ℕ) (made : S → List (Entry H)) (goes : S → S → Type 0) (named : S → List Named) where
  -- no call
  pub stage_none : ((x : S) → goes x x) → (Are : List (Entry H) → Type 0) (x : S) → Are [] → Stage worker faults made goes named [] Are x x
  stage_none stays Are x are = record {
    same_worker = refl;
    went = stays x;
    pinned = sym (append-nil (named x));
    entries = [];
    added = sym (append-nil (made x));
    caused = rises_none (faults x);
    are = are;
  }

  -- one call that gives no pin
  pub stage_call : (who : Who) (at : At) (old new : S) (e : Event H) (answer : Option Reply) (Are : List (Entry H) → Type 0) → who_of at (worker old) ≡ who
      → Turned worker faults made goes old new at e answer → named new ≡ named old → Are (entries_of who e answer) → Stage worker faults made goes named [] Are old new
  stage_call who at old new e answer Are is turned same are = record {
    same_worker = turned.same_worker;
    went = turned.went;
    pinned = same ∙ sym (append-nil (named old));
    entries = entries_of who e answer;
    added = turned.entry ∙ ap (λ w. made old ++ entries_of w e answer) is;
    caused = subst (λ b. RisesOnly b (faults old) (faults new)) (sym (failed_call who e answer)) turned.caused;
    are = are;
  }
