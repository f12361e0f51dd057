use Rattle.std.proofs.Common.{◌≡◌, ◌-◌}
use Rattle.cd_base.specs.Reading.{each_at}
use Rattle.cd_base.proofs.ReadingLaws.{with_front}
use Rattle.cd_block.specs.Reading.{id_at}
use Rattle.cd_block.proofs.reading.ids_at.Given as goal

abbrev pub invariant-loop : goal.invariant-loop
invariant-loop l = with_front l.ids.items (each_at id_at (l.count - l.counter) l.rest) ≡ each_at id_at l.count l.bytes
