use Rattle.std.proofs.Common.{◌≡◌, ◌-◌, ◌++◌}
use Rattle.cd_boc_read.specs.Reading as spec
use Rattle.cd_boc_read.proofs.fields.numbers_in.Given as goal

abbrev pub invariant-loop : goal.invariant-loop
invariant-loop l = l.numbers.items ++ spec.numbers_in l.fn.len (l.count - l.counter) l.rest ≡ spec.numbers_in l.fn.len l.count l.bytes
