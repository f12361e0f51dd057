use Rattle.std.proofs.Common.{◌≡◌, ◌-◌, ◌≤◌, length}
use Rattle.cd_base.specs.Reading.{each_at}
use Rattle.cd_base.proofs.ReadingLaws.{with_front}
use Rattle.cd_feed.specs.declared.feed_fault.FeedFault.TheVariants.{Cut}
use Rattle.cd_feed.specs.FeedReading.{within_at}
use Rattle.cd_feed.proofs.fields.steps_at.Given as goal

abbrev pub invariant-loop : goal.invariant-loop
invariant-loop l = record {
  read : with_front l.steps.items (each_at (within_at (Cut l.total) l.fault 1 0 3) (l.count - l.counter) l.rest) ≡ each_at (within_at (Cut l.total) l.fault 1 0 3) l.count l.bytes;
  shorter : length l.rest ≤ length l.bytes;
}
