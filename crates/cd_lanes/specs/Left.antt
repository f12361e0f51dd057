-- Trusted: what the tasks of a phase and of a feed leave of the clients; of all of them one is a serve at most.
use Rattle.std.specs.Prelude.{◌≡◌, ◌⊎◌, ℕ, Bool, List, All, slice_get, sum_by, Option, Some}
use Rattle.cd_base.specs.declared.hash.Hash256.{Hash256}
use Rattle.cd_event.specs.Pins.{Named}
use Rattle.cd_feed.specs.declared.feed.Phase.{Phase}
use Rattle.cd_feed.specs.declared.feed.Task.{Task}
use Rattle.cd_run.specs.declared.outcome.Outcome.{Outcome}
use Rattle.cd_lanes.specs.Lanes.{serves, IsServed}

-- how many serves a phase and some phases have
abbrev pub serves_of : List (List Task) → ℕ
serves_of workers = sum_by serves workers

abbrev pub all_serves : List Phase → ℕ
all_serves phases = sum_by (λ p. serves_of p.workers) phases

-- what is so of one of some parts, in its place, with what the part ended with, where that is told
pub record IsOneOf {X E C : Type 0} (Is : ℕ → X → E → List C → List C → Type 0) (parts : List X) (ends : List E)
    (old new : List C) : Type 0 where
  pub place : ℕ
  pub part : X
  pub at : slice_get parts place ≡ Some part
  pub end : E
  pub ended : (e : E) → slice_get ends place ≡ Some e → e ≡ end
  pub is : Is place part end old new

-- the clients are what they were, and this is so of what each of the parts ended with; or one of them left them so
abbrev pub LeftByOne : {X E C : Type 0} → (E → Type 0) → (ℕ → X → E → List C → List C → Type 0)
    → List X → List E → List C → List C → Type 0
LeftByOne Idle Is parts ends old new = ((new ≡ old) × All Idle ends) ⊎ IsOneOf Is parts ends old new

module _ {C : Type 0} (got : C → Option (List ℕ)) (steady : C → Bool) (digest : List ℕ → Hash256) (pins : ℕ → List Named) where
  -- the serve among a worker's tasks left them so
  abbrev pub WorkerServed : ℕ → List Task → List Outcome → List C → List C → Type 0
  WorkerServed worker jobs ends old new = IsServed got steady digest (pins worker) jobs ends old new

  -- that among the tasks of a phase
  abbrev pub PhaseServed : ℕ → Phase → List (List Outcome) → List C → List C → Type 0
  PhaseServed phase p ends old new = IsOneOf WorkerServed p.workers ends old new
