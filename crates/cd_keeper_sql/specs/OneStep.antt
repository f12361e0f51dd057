-- Trusted: that a batch is one step of its database, also where it is stopped in its middle.
use Rattle.std.specs.Prelude.{◌≡◌, Result, OnOk, OnErr}
use Rattle.sqlite_trees.specs.Tree.{Trees}
use Rattle.sqlite.specs.State.{State, HasCleanDisk, KeepsCommit, Survives}
use Rattle.cd_keeper.specs.declared.fault.KeepFault.{KeepFault}

-- what a batch did to a database, whose state says nothing where its disk didn't return what was written
pub record IsOneStep (old new : State) (result : Result (Unit {0}) KeepFault) : Type 0 where
  -- the rows of all tables with the whole batch
  pub whole : Trees
  -- a stop at any moment leaves what a stop could leave before, or the whole batch
  pub stopped : Survives old new (λ tables. tables ≡ whole)
  -- at Ok the whole batch is committed
  pub done : HasCleanDisk new → OnOk result (new.committed.trees ≡ whole)
  -- and else nothing
  pub undone : HasCleanDisk new → OnErr result (KeepsCommit old new)

-- statements ran inside a transaction: nothing is committed
pub record IsInside (old new : State) : Type 0 where
  pub stopped : Survives old new (λ tables. ⊥)
  pub kept : HasCleanDisk new → KeepsCommit old new
