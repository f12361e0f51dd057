use Rattle.std.proofs.Common.{◌≡◌, ◌-◌, ◌≤◌, length}
use Rattle.cd_base.specs.Reading.{each_at}
use Rattle.cd_base.proofs.ReadingLaws.{with_front}
use Rattle.cd_feed.specs.FeedReading.{id_at}
use Rattle.cd_feed.proofs.fields.ids_at.Given as goal

abbrev pub invariant-loop : goal.invariant-loop
invariant-loop l = record {
  read : with_front l.ids.items (each_at (id_at l.total) (l.count - l.counter) l.rest) ≡ each_at (id_at l.total) l.count l.bytes;
  shorter : length l.rest ≤ length l.bytes;
}
