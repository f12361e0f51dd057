use Rattle.std.proofs.Common.{◌≡◌, ℕ, ◌≤◌, ◌<◌, Option, Some, None}
use Rattle.std.specs.Prelude.{slice_get}
use Rattle.cd_cell.specs.FaceView.{FaceView}
use Rattle.cd_run.specs.Joining.{KeepsFaces}
use Rattle.cd_run.proofs.merged_task.fill.Given as goal

abbrev pub invariant-loop-place : goal.invariant-loop-place
invariant-loop-place l = record {
  keeps : KeepsFaces l.initial.faces l.faces;
  filled : (k : ℕ) (found : Option FaceView) → k < l.place → slice_get l.initial.faces k ≡ Some None → slice_get l.others k ≡ Some found → slice_get l.faces k ≡ Some found;
  later : (k : ℕ) → l.place ≤ k → slice_get l.faces k ≡ slice_get l.initial.faces k;
}
