-- Trusted: how a client ended.
use Rattle.std.specs.Prelude.{Bool, true, false}
use Rattle.cd_fan.specs.declared.client_end.ClientEnd.{ClientEnd}
use Rattle.cd_fan.specs.declared.client_end.ClientEnd.TheVariants.{Done, Failed}

abbrev pub is_done : ClientEnd → Bool
is_done (Done bytes) = true
is_done (Failed bytes) = false
