use Rattle.std.proofs.Common.{◌≡◌, ◌-◌, length, take}
use Rattle.cd_base.specs.Reading.{each_at}
use Rattle.cd_base.proofs.ReadingLaws.{with_front}
use Rattle.cd_record.specs.RecordReading.{kid_at}
use Rattle.cd_record.proofs.reading.kids_at.Given as goal

abbrev pub invariant-loop-place : goal.invariant-loop-place
invariant-loop-place l = record {
  read : with_front (take l.place l.kids) (each_at kid_at (l.count - l.place) l.rest) ≡ each_at kid_at l.count l.bytes;
  long : length l.kids ≡ 4;
}
