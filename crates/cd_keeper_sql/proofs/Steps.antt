-- A transaction that is rolled back, committed or refused makes one step of the database or none.
use Rattle.std.proofs.Common.{◌≡◌, Result, Ok, Err, inl, inr, true, ap, subst, arith, OnOk, OnErr}
use Rattle.sqlite_trees.specs.declared.store.Store as store
use Rattle.sqlite.specs.Held.{Held, state}
use Rattle.sqlite.specs.State.{State, HasCleanDisk, KeepsCommit, Survives, IsRolledBack}
use Rattle.sqlite.specs.Steps.{FailsToCommit}
use Rattle.sqlite.specs.declared.error.Error.{Error}
use Rattle.sqlite.proofs.StateLemmas.{survives_then, survives_weaker}
use Rattle.sqlite.proofs.Callers.{survives_begin}
use Rattle.cd_keeper.specs.declared.fault.KeepFault.{KeepFault}
use Rattle.cd_keeper_sql.specs.OneStep.{IsInside, IsOneStep}
use Rattle.cd_keeper_sql.proofs.Inside.{inside_same, keeps_then, keeps_unchanged, keeps_rolled}

keeps_failed : (old new : State) (e : Error) → FailsToCommit old new e → KeepsCommit old new
keeps_failed old new e (inl failed) = keeps_rolled old new failed.3
keeps_failed old new e (inr ended) = keeps_unchanged old new ended.2

module _ {S : Type 0} (g : store.Ghosts S) where
  -- nothing was done
  pub no_step : (old : Held S) (e : KeepFault) → IsOneStep (state g old) (state g old) (Err e)
  no_step old e =
      let same = inside_same g old in record {
        whole = (state g old).committed.trees;
        stopped = survives_weaker (state g old) (state g old) (λ tables. ⊥) _ (λ clean db none. absurd none) same.stopped;
        done = λ clean. tt;
        undone = λ clean. same.kept clean;
      }

  -- the transaction was begun, its statements ran, and it was ended
  module _ (old begun mid new : Held S) (begins : begun ≡ record old { in_transaction = true }) (inside : IsInside (state g begun) (state g mid)) where
    inside_old : IsInside (state g (record old { in_transaction = true })) (state g mid)
    inside_old = subst (λ h. IsInside (state g h) (state g mid)) begins inside

    kept_old : HasCleanDisk (state g mid) → KeepsCommit (state g old) (state g mid)
    kept_old clean = record { was_open = (inside_old.kept clean).was_open; committed = (inside_old.kept clean).committed }

    ended : (r : Result (Unit {0}) KeepFault) → Survives (state g mid) (state g new) (λ db. db ≡ (state g mid).now.trees)
        → (HasCleanDisk (state g new) → OnOk r ((state g new).committed ≡ (state g mid).now))
        → (HasCleanDisk (state g new) → OnErr r (KeepsCommit (state g mid) (state g new))) → IsOneStep (state g old) (state g new) r
    ended (Ok u) survives done undone = record {
      whole = (state g mid).now.trees;
      stopped = survives_then (state g old) (state g mid) (state g new) (λ db. ⊥) _ _ (λ clean db none. absurd none) (λ clean db is. is)
          (survives_begin g old (state g mid) (λ db. ⊥) inside_old.stopped) survives;
      done = λ clean. ap (λ d. d.trees) (done clean);
      undone = λ clean. tt;
    }
    ended (Err e) survives done undone = record {
      whole = (state g mid).now.trees;
      stopped = survives_then (state g old) (state g mid) (state g new) (λ db. ⊥) _ _ (λ clean db none. absurd none) (λ clean db is. is)
          (survives_begin g old (state g mid) (λ db. ⊥) inside_old.stopped) survives;
      done = λ clean. tt;
      undone = λ clean. keeps_then (state g old) (state g mid) (state g new) (kept_old (omega (arith, survives.clean))) (undone clean);
    }

    -- by a commit
    pub committed : (u : Unit {0}) → Survives (state g mid) (state g new) (λ db. db ≡ (state g mid).now.trees)
        → (HasCleanDisk (state g new) → (state g new).committed ≡ (state g mid).now) → IsOneStep (state g old) (state g new) (Ok u)
    committed u survives done = ended (Ok u) survives done (λ clean. tt)

    -- by a commit that failed
    pub not_committed : (e : KeepFault) (error : Error) → Survives (state g mid) (state g new) (λ db. db ≡ (state g mid).now.trees)
        → (HasCleanDisk (state g new) → FailsToCommit (state g mid) (state g new) error) → IsOneStep (state g old) (state g new) (Err e)
    not_committed e error survives fails = ended (Err e) survives (λ clean. tt) (λ clean. keeps_failed (state g mid) (state g new) error (fails clean))

    -- by a rollback
    pub rolled_back : (e : KeepFault) → Survives (state g mid) (state g new) (λ db. ⊥)
        → (HasCleanDisk (state g new) → IsRolledBack (state g mid) (state g new)) → IsOneStep (state g old) (state g new) (Err e)
    rolled_back e survives undone = ended (Err e) (survives_weaker (state g mid) (state g new) (λ db. ⊥) _ (λ clean db none. absurd none) survives) (λ clean. tt)
        (λ clean. keeps_rolled (state g mid) (state g new) (undone clean))
