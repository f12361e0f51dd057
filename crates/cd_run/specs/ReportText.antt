-- Trusted: the text of the report.
use Rattle.std.specs.Prelude.{◌≡◌, ◌<◌, Vec, vec_len, length, slice_index_or, ℕ, ◌+◌, Bool, true, false, not, List, [], ◌∷◌, ◌++◌, map, sum_by, count_by, codes, decimal}
use Rattle.hex.specs.Hex.{encode_lower}
use Rattle.cd_feed.specs.declared.feed.Feed.{Feed}
use Rattle.cd_feed.specs.declared.feed.Phase.{Phase}
use Rattle.cd_feed.specs.declared.feed.Task.{Task}
use Rattle.cd_feed.specs.declared.feed.Task.TheVariants as task
use Rattle.cd_world.specs.declared.world.Totals.{Totals}
use Rattle.cd_run.specs.declared.outcome.Outcome.{Outcome}
use Rattle.cd_run.specs.declared.outcome.Outcome.TheVariants as outcome
use Rattle.cd_run.specs.declared.outcome.TaskRefusal.{TaskRefusal}
use Rattle.cd_run.specs.declared.outcome.TaskRefusal.TheVariants as word

abbrev pub word_text : TaskRefusal → List ℕ
word_text word.Bag = codes "Bag"
word_text word.Roots = codes "Roots"
word_text word.Level = codes "Level"
word_text word.NotUpdate = codes "NotUpdate"
word_text word.OldHash = codes "OldHash"
word_text word.OldDepth = codes "OldDepth"
word_text word.OldHalf = codes "OldHalf"
word_text word.Foreign = codes "Foreign"
word_text word.NewClash = codes "NewClash"
word_text word.Known = codes "Known"
word_text word.Lineage = codes "Lineage"
word_text word.ZeroHash = codes "ZeroHash"
word_text word.Clash = codes "Clash"
word_text word.CountFull = codes "CountFull"
word_text word.UnknownBlock = codes "UnknownBlock"
word_text word.PinsFull = codes "PinsFull"
word_text word.NotMaster = codes "NotMaster"
word_text word.TopMissing = codes "TopMissing"
word_text word.NoChild = codes "NoChild"
word_text word.TooMany = codes "TooMany"
word_text word.Keeper = codes "Keeper"
word_text word.SplitDeep = codes "SplitDeep"

abbrev pub kind_text : Task → List ℕ
kind_text (task.Zero id tops bag) = codes "zero"
kind_text (task.Block id parent tops bag) = codes "block"
kind_text (task.Expire id) = codes "expire"
kind_text (task.Read id path) = codes "read"
kind_text (task.Slice id max) = codes "slice"
kind_text (task.Serve id max) = codes "serve"
kind_text (task.Merged id left right tops bag) = codes "merge"

-- what stands behind the kind
unfoldable pub end_text : Outcome → List ℕ
end_text (outcome.Zero root cells) = codes " ok " ++ encode_lower root.0 ++ codes " cells " ++ decimal cells
end_text (outcome.Block root new) = codes " ok " ++ encode_lower root.0 ++ codes " new " ++ decimal new
end_text (outcome.Expire gone) = codes " ok gone " ++ decimal gone
end_text (outcome.Read hash) = codes " ok " ++ encode_lower hash.0
end_text (outcome.Slice bytes slices sha) = codes " ok bytes " ++ decimal bytes ++ codes " slices "
    ++ decimal slices ++ codes " sha256 " ++ encode_lower sha.0
end_text (outcome.Serve bytes done failed) = codes " ok bytes " ++ decimal bytes ++ codes " done "
    ++ decimal done ++ codes " failed " ++ decimal failed
end_text (outcome.Merged root new) = codes " ok " ++ encode_lower root.0 ++ codes " new " ++ decimal new
end_text (outcome.Refused why) = codes " refused " ++ word_text why

-- a task's line: its phase, worker and place, its kind, and how it ended
unfoldable pub name_text : ℕ → ℕ → ℕ → List ℕ
name_text phase worker n = decimal phase ++ codes "." ++ decimal worker ++ codes "." ++ decimal n

unfoldable pub line_text : ℕ → ℕ → ℕ → Task → Outcome → List ℕ
line_text phase worker n job end = name_text phase worker n ++ codes " " ++ kind_text job ++ end_text end
    ++ codes "\n"

-- the lines of a worker's tasks, of a phase's workers, and of all phases, each from a number on
abbrev pub worker_text : ℕ → ℕ → ℕ → List Task → List Outcome → List ℕ
worker_text phase worker n [] ends = []
worker_text phase worker n (job ∷ jobs) [] = []
worker_text phase worker n (job ∷ jobs) (end ∷ ends) = line_text phase worker n job end
    ++ worker_text phase worker (n + 1) jobs ends

abbrev pub phase_text : ℕ → ℕ → List (List Task) → List (List Outcome) → List ℕ
phase_text phase worker [] ends = []
phase_text phase worker (jobs ∷ workers) [] = []
phase_text phase worker (jobs ∷ workers) (ends ∷ others) = worker_text phase worker 0 jobs ends
    ++ phase_text phase (worker + 1) workers others

abbrev pub phases_text : ℕ → List Phase → List (List (List Outcome)) → List ℕ
phases_text phase [] ends = []
phases_text phase (p ∷ ps) [] = []
phases_text phase (p ∷ ps) (ends ∷ others) = phase_text phase 0 p.workers ends ++ phases_text (phase + 1) ps others

abbrev pub is_refused : Outcome → Bool
is_refused (outcome.Refused why) = true
is_refused _ = false

-- the last lines: the totals, and how many tasks ended well and how many were refused
unfoldable pub totals_text : Totals → List ℕ
totals_text totals = codes "blocks " ++ decimal totals.blocks ++ codes "\ncells " ++ decimal totals.cells
    ++ codes "\ncounts " ++ decimal totals.counts

unfoldable pub summary_text : Totals → ℕ → ℕ → List ℕ
summary_text totals done refused = totals_text totals ++ codes "\ntasks " ++ decimal done ++ codes " ok "
    ++ decimal refused ++ codes " refused\n"

-- whether a task was refused, or else whether it ended well
abbrev pub is_so : Bool → Outcome → Bool
is_so true end = is_refused end
is_so false end = not (is_refused end)

-- how many tasks ended so
abbrev pub count_phase : (Outcome → Bool) → List (List Outcome) → ℕ
count_phase test ends = sum_by (λ worker. count_by test worker) ends

abbrev pub count_ends : (Outcome → Bool) → List (List (List Outcome)) → ℕ
count_ends test ends = sum_by (count_phase test) ends

abbrev pub report_text : Feed → List (List (List Outcome)) → Totals → List ℕ
report_text feed ends totals = phases_text 0 feed.phases ends ++ summary_text totals
    (count_ends (is_so false) ends) (count_ends (is_so true) ends)

-- the outcomes, as they are handed in
abbrev pub ends_of : {Y Z : Type 0} → List (Vec (Vec Outcome Z) Y) → List (List (List Outcome))
ends_of ends = map (λ p. map (λ w. w.items) p.items) ends

-- as many ends as tasks, for each worker
pub record IsBeside {Z : Type 0} (workers : List (List Task)) (ends : List (Vec Outcome Z)) : Type 0 where
  pub long : length ends ≡ length workers
  pub each : (k : ℕ) (d : Vec Outcome Z) → k < length workers
      → vec_len (slice_index_or ends k d) ≡ length (slice_index_or workers k [])

-- and for each phase
pub record AreBeside {Y Z : Type 0} (phases : List Phase) (ends : List (Vec (Vec Outcome Z) Y)) : Type 0 where
  pub long : length ends ≡ length phases
  pub each : (k : ℕ) (d : Vec (Vec Outcome Z) Y) (p : Phase) → k < length phases
      → IsBeside (slice_index_or phases k p).workers (slice_index_or ends k d).items
