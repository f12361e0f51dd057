-- Inner: the refusal of a row whose count rises over the limit.
use Rattle.std.specs.Prelude.{Option, Some, None, Result, Ok, Err}
use Rattle.cd_base.specs.declared.hash.Hash256.{Hash256}
use Rattle.cd_count.specs.declared.count_fault.CountFault.{CountFault}
use Rattle.cd_count.specs.declared.count_fault.CountFault.TheVariants.{CountFull}
use Rattle.cd_count.specs.declared.rows.Row.{Row}

abbrev pub within_limit : Option (Hash256 × Row) → Result (Unit {0}) CountFault
within_limit None = Ok tt
within_limit (Some e) = Err (CountFull e.0 e.1.count)
