-- Trusted: a journal covers a feed: the entries of each name are those of its task, each once, phase after phase.
use Rattle.std.specs.Prelude.{◌≡◌, ◌⊎◌, ℕ, ◌+◌, ◌<◌, ◌≤◌, ◌==◌, Bool, ◌&&◌, List, [], ◌∷◌, ◌++◌, length, map, filter, All, AllPairs, Option, Some, IsSome, slice_get, option_and_then, if◌then◌else◌}
use Rattle.std.specs.Option.{option_to_list}
use Rattle.cd_base.specs.declared.hash.Hash256.{Hash256}
use Rattle.cd_event.specs.declared.names.Who.{Who}
use Rattle.cd_event.specs.declared.entry.Entry.{Entry}
use Rattle.cd_event.specs.declared.event.Event.{Event}
use Rattle.cd_event.specs.declared.event.Event.TheVariants as event
use Rattle.cd_event.specs.declared.entry.Reply.{Reply}
use Rattle.cd_event.specs.declared.entry.Reply.TheVariants as reply
use Rattle.cd_event.specs.Pins.{Named}
use Rattle.cd_world.specs.Machine.{root_info}
use Rattle.cd_world.specs.Standing.{kept_at}
use Rattle.cd_world.specs.Told.{ToldWorld, told_after}
use Rattle.cd_feed.specs.declared.feed.Feed.{Feed}
use Rattle.cd_feed.specs.declared.feed.Phase.{Phase}
use Rattle.cd_feed.specs.declared.feed.Task.{Task}
use Rattle.cd_run.specs.Runs.{TaskEvents, TaskBegun}

abbrev pub name : ℕ → ℕ → ℕ → Who
name phase worker task = record { phase = phase; worker = worker; task = task }

-- the tasks of a worker in a phase, and the task of a name
abbrev pub tasks_at : List Phase → ℕ → ℕ → Option (List Task)
tasks_at phases phase worker = option_and_then (λ p. slice_get p.workers worker) (slice_get phases phase)

abbrev pub task_at : Feed → Who → Option Task
task_at feed who = option_and_then (λ jobs. slice_get jobs who.task) (tasks_at feed.phases who.phase who.worker)

-- whether an entry has this name
abbrev pub same_name : Who → Who → Bool
same_name a b = (a.phase == b.phase) && ((a.worker == b.worker) && (a.task == b.task))

module _ {H : Type 0} where
  abbrev pub of_name : Who → List (Entry H) → List (Entry H)
  of_name who journal = filter (λ e. same_name e.who who) journal

  abbrev pub of_worker : ℕ → List (Entry H) → List (Entry H)
  of_worker worker journal = filter (λ e. e.who.worker == worker) journal

-- ---- a journal covers a feed; `pins` are the pins of each worker, with their trees

module _ {H : Type 0} (digest : List ℕ → Hash256) (pins : ℕ → List Named)
    (feed : Feed) (journal : List (Entry H)) where
  -- each task's entries are its events, in order, each once; no entry stands before one of an earlier phase, and no
  -- other entry is there
  pub record CoversBy : Type 0 where
    pub events : (who : Who) (job : Task) → task_at feed who ≡ Some job
        → TaskEvents digest (pins who.worker) who job (of_name who journal)
    pub phases : AllPairs (λ a b. a.who.phase ≤ b.who.phase) journal
    pub only : All (λ e. IsSome (task_at feed e.who)) journal

  -- all tasks of a worker are done in a phase
  abbrev pub IsDone : ℕ → ℕ → Type 0
  IsDone phase worker = (n : ℕ) (job : Task) → task_at feed (name phase worker n) ≡ Some job
      → TaskEvents digest (pins worker) (name phase worker n) job (of_name (name phase worker n) journal)

  -- they end early: those before the last one are done, the last one is begun, and no further one and no later phase
  pub record EndsEarly (phase worker : ℕ) : Type 0 where
    pub last : ℕ
    pub before : (n : ℕ) (job : Task) → n < last → task_at feed (name phase worker n) ≡ Some job
        → TaskEvents digest (pins worker) (name phase worker n) job (of_name (name phase worker n) journal)
    pub begun : (job : Task) → task_at feed (name phase worker last) ≡ Some job
        → TaskBegun digest (pins worker) (name phase worker last) job (of_name (name phase worker last) journal)
    pub no_further : (n : ℕ) → last < n → of_name (name phase worker n) journal ≡ []
    pub no_later : All (λ e. e.who.phase ≤ phase) journal

  -- the same, but that the tasks of a worker may end early
  pub record CoversPrefixBy : Type 0 where
    pub workers : (phase worker : ℕ) → IsDone phase worker ⊎ EndsEarly phase worker
    pub phases : AllPairs (λ a b. a.who.phase ≤ b.who.phase) journal
    pub only : All (λ e. IsSome (task_at feed e.who)) journal

-- ---- the same journal, cut into one part for each phase

module _ {H : Type 0} (digest : List ℕ → Hash256) (pins : List Named) (phase worker : ℕ) where
  -- a worker's tasks from a number on, in order, each once
  abbrev pub WorkerEvents : ℕ → List Task → List (Entry H) → Type 0
  WorkerEvents n [] es = es ≡ []
  WorkerEvents n (job ∷ jobs) es = (xs ys : List (Entry H))
      × TaskEvents digest pins (name phase worker n) job xs × WorkerEvents (n + 1) jobs ys × (es ≡ xs ++ ys)

  -- the first ones of them
  abbrev pub WorkerBegun : ℕ → List Task → List (Entry H) → Type 0
  WorkerBegun n [] es = es ≡ []
  WorkerBegun n (job ∷ jobs) es = TaskBegun digest pins (name phase worker n) job es
      ⊎ ((xs ys : List (Entry H)) × TaskEvents digest pins (name phase worker n) job xs
      × WorkerBegun (n + 1) jobs ys × (es ≡ xs ++ ys))

module _ {H : Type 0} (digest : List ℕ → Hash256) (pins : ℕ → List Named) where
  -- the part of a phase has each worker's events, and no other entry
  pub record PartEvents (phase : ℕ) (workers : List (List Task)) (part : List (Entry H)) : Type 0 where
    pub each : (worker : ℕ) (jobs : List Task) → slice_get workers worker ≡ Some jobs
        → WorkerEvents digest (pins worker) phase worker 0 jobs (of_worker worker part)
    pub only : All (λ e. e.who.worker < length workers) part

  pub record PartBegun (phase : ℕ) (workers : List (List Task)) (part : List (Entry H)) : Type 0 where
    pub each : (worker : ℕ) (jobs : List Task) → slice_get workers worker ≡ Some jobs
        → WorkerBegun digest (pins worker) phase worker 0 jobs (of_worker worker part)
    pub only : All (λ e. e.who.worker < length workers) part

  abbrev pub CutByPhases : ℕ → List Phase → List (Entry H) → Type 0
  CutByPhases phase [] journal = journal ≡ []
  CutByPhases phase (p ∷ ps) journal = (part rest : List (Entry H)) × PartEvents phase p.workers part
      × CutByPhases (phase + 1) ps rest × (journal ≡ part ++ rest)

  -- some phases whole, and then nothing, or the begun part of one more
  abbrev pub CutEarly : ℕ → List Phase → List (Entry H) → Type 0
  CutEarly phase [] journal = journal ≡ []
  CutEarly phase (p ∷ ps) journal = PartBegun phase p.workers journal
      ⊎ ((part rest : List (Entry H)) × PartEvents phase p.workers part × CutEarly (phase + 1) ps rest
      × (journal ≡ part ++ rest))

-- ---- the pins of a replay

-- the pin that an entry gives, with what the description of its block tells of the root of the state, and that state
abbrev pub given_by : {H : Type 0} → ToldWorld → Event H → Reply → List Named
given_by t (event.Pin id) (reply.Pinned pin) =
    map (λ d. record { number = pin; root = root_info d; tree = Some (t.state id) }) (option_to_list (kept_at t.world id))
given_by t _ _ = []

module _ {H : Type 0} (digest : List ℕ → Hash256) where
  -- all pins of a worker
  abbrev pub given : ToldWorld → List (Entry H) → ℕ → List Named
  given t [] worker = []
  given t (e ∷ es) worker = (if e.who.worker == worker then given_by t e.event e.reply else [])
      ++ given (told_after digest t e) es worker

  -- the journal covers the feed, replayed from a world
  abbrev pub Covers : Feed → List (Entry H) → ToldWorld → Type 0
  Covers feed journal t = CoversBy digest (given t journal) feed journal

  abbrev pub CoversPrefix : Feed → List (Entry H) → ToldWorld → Type 0
  CoversPrefix feed journal t = CoversPrefixBy digest (given t journal) feed journal
