-- Statements inside a transaction commit nothing, one after another.
use Rattle.std.proofs.Common.{◌≡◌, ℕ, List, Result, Ok, Err, false, refl, sym, subst, ◌∙◌, inl, inr, IsTrue, arith}
use Rattle.std.proofs.lemmas.Bool.{cases_Bool}
use Rattle.sqlite_trees.specs.declared.store.Store as store
use Rattle.sqlite.specs.Held.{Held, state}
use Rattle.sqlite.specs.State.{State, HasCleanDisk, KeepsCommit, Survives, ExecutesInside, IsRolledBack, IsUnchanged}
use Rattle.sqlite.specs.declared.error.Error.{Error}
use Rattle.sqlite.proofs.StateLemmas.{survives_then}
use Rattle.cd_keeper_sql.specs.OneStep.{IsInside}

keeps_same : (s : State) → KeepsCommit s s
keeps_same s = record { was_open = λ h. h; committed = λ h. refl }

pub keeps_unchanged : (old new : State) → IsUnchanged old new → KeepsCommit old new
keeps_unchanged old new same = record { was_open = λ h. same.0.was_open; committed = λ h. same.0.committed_is }

pub keeps_rolled : (old new : State) → IsRolledBack old new → KeepsCommit old new
keeps_rolled old new back = record { was_open = λ h. back.was_open h; committed = λ h. (back.undone h).1 }

pub keeps_then : (a b c : State) → KeepsCommit a b → KeepsCommit b c → KeepsCommit a c
keeps_then a b c one two = record {
  was_open = λ h. one.was_open (two.was_open h);
  committed = λ h. two.committed h ∙ one.committed (two.was_open h);
}

keeps_run : (held : ℕ) (text : List ℕ) (params : _) (old new : State) (r : Result ℕ Error) → ExecutesInside held text params old new r → KeepsCommit old new
keeps_run held text params old new (Ok count) ran = record { was_open = λ h. ran.1.was_open; committed = λ h. ran.1.committed_is }
keeps_run held text params old new (Err e) (inl ran) = elim ran.1 [ inl same ↦ keeps_unchanged old new same | inr back ↦ keeps_rolled old new back ]
keeps_run held text params old new (Err e) (inr ended) = keeps_unchanged old new ended.2

module _ {S : Type 0} (g : store.Ghosts S) where
  pub inside_same : (h : Held S) → IsInside (state g h) (state g h)
  inside_same h = record {
    stopped = record { clean = omega arith; shield = λ x. x; counts = omega arith; limit = refl; closes = λ clean was. inl was; crash = λ clean db left. inl left };
    kept = λ clean. keeps_same (state g h);
  }

  -- one statement
  pub inside_run : (text : List ℕ) (params : _) (old new : Held S) (r : Result ℕ Error) (E : Type 0)
      → ((state g old).in_transaction ≡ false → E × (new ≡ old))
      → (HasCleanDisk (state g new) → IsTrue (state g old).in_transaction → ExecutesInside 0 text params (state g old) (state g new) r)
      → Survives (state g old) (state g new) (λ tables. ⊥) → IsInside (state g old) (state g new)
  inside_run text params old new r E ended runs survives = record {
    stopped = survives;
    kept = λ clean. elim (cases_Bool (state g old).in_transaction) [
      | inl within ↦ keeps_run 0 text params (state g old) (state g new) r (runs clean within)
      | inr out ↦ subst (λ h. KeepsCommit (state g old) (state g h)) (sym (ended out).1) (keeps_same (state g old))
    ];
  }

  -- one after another
  pub inside_then : (a b c : Held S) → IsInside (state g a) (state g b) → IsInside (state g b) (state g c) → IsInside (state g a) (state g c)
  inside_then a b c one two = record {
    stopped = survives_then (state g a) (state g b) (state g c) (λ tables. ⊥) (λ tables. ⊥) (λ tables. ⊥) (λ clean db none. none) (λ clean db none. none) one.stopped two.stopped;
    kept = λ clean. keeps_then (state g a) (state g b) (state g c) (one.kept (omega (arith, two.stopped.clean))) (two.kept clean);
  }
