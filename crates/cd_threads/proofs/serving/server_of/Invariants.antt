use Rattle.std.proofs.Common.{◌≡◌, ℕ, ◌<◌, []}
use Rattle.std.specs.Prelude.{slice_index_or}
use Rattle.cd_lanes.specs.Lanes.{serves}
use Rattle.cd_threads.proofs.serving.server_of.Given as goal

abbrev pub invariant-loop-place : goal.invariant-loop-place
invariant-loop-place l = (k : ℕ) → k < l.place → serves (slice_index_or l.workers k []) ≡ 0
