use Rattle.std.proofs.Common.{◌≡◌, ◌+◌, ◌≤◌, length, IfSome}
use Rattle.std.specs.FinMap as finite
use Rattle.cd_migrate.specs.Walking.{upto, bound_of, IsApart, IsUnderWay}
use Rattle.cd_migrate.proofs.migrating.migrate.Given as goal

abbrev pub invariant-reading : goal.invariant-reading
invariant-reading g l = let k = g.K.Keeper in record {
  way : IfSome (k.held l.fn.keeper) (λ contents.
      IsUnderWay k.held k.trail k.batches contents l.fn.keeper l.keeper l.migration
      × (k.reads l.keeper ≤ k.reads l.fn.keeper + length (upto (bound_of l.migration) (finite.entries contents.cells))));
  apart : IsApart l.migration;
  steady : k.faults l.keeper ≡ k.faults l.fn.keeper;
}
