-- Inner: what a serve does on an opened core, by the pins that the core gave it.
use Rattle.std.specs.Prelude.{◌≡◌, ℕ, Bool, List, Option, Result}
use Rattle.cd_base.specs.declared.answers.Memory.{Memory}
use Rattle.cd_base.specs.declared.hash.Hash256.{Hash256}
use Rattle.cd_block.specs.declared.block.BlockId.{BlockId}
use Rattle.cd_keeper.specs.Contents.{Contents}
use Rattle.cd_event.specs.Pins.{Named}
use Rattle.cd_event.specs.Turning.{RisesOnly}
use Rattle.cd_core.specs.Cores.{CoreView}
use Rattle.cd_core.specs.Workers.{named_by}
use Rattle.cd_feed.specs.declared.feed.Task.TheVariants as task
use Rattle.cd_run.specs.declared.outcome.Outcome.{Outcome}
use Rattle.cd_run.specs.Clients.{Serves}
use Rattle.cd_run.specs.Runs.{TaskAnswers, has_failed}
use Rattle.cd_command.specs.Naming.{first_task}

module _ (H : List ℕ → Hash256) {K X : Type 0} (held : K → Option Contents) where
  -- the pins that it got
  abbrev pub pins_of : CoreView K X → List Named
  pins_of core = named_by H held 0 core.start core.journal

  -- its entries are all that there are
  pub record ServedOn (faults : K → ℕ) (id : BlockId) (max : ℕ) (old new : CoreView K X) (end : Result Outcome Memory)
      : Type 0 where
    pub start : new.start ≡ old.start
    pub answers : TaskAnswers H (pins_of new) first_task (task.Serve id max) new.journal end
    pub caused : RisesOnly (has_failed new.journal) (faults old.keeper) (faults new.keeper)

module _ {C : Type 0} (got : C → Option (List ℕ)) (steady : C → Bool) (H : List ℕ → Hash256) {K X : Type 0} (held : K → Option Contents) where
  -- what it leaves of the clients
  abbrev pub ServesOn : CoreView K X → List C → List C → Result Outcome Memory → Type 0
  ServesOn core clients left end = Serves got steady H (pins_of H held core) clients left end
