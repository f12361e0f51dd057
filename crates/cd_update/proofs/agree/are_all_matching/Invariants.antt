-- What is left tells whether all match.
use Rattle.std.proofs.Common.{◌≡◌, drop}
use Rattle.std.specs.Cmp.Lexicographic.{pointwise}
use Rattle.cd_cell.specs.Updates.{matches}
use Rattle.cd_update.proofs.agree.are_all_matching.Given as goal

abbrev pub invariant-loop-place : goal.invariant-loop-place
invariant-loop-place l = pointwise (matches l.depth) (drop l.place l.stored) (drop l.place l.shown) ≡ pointwise (matches l.depth) l.stored l.shown
