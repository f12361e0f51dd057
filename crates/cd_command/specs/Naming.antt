-- Trusted: whose the events of a command are that does no feed.
use Rattle.cd_event.specs.declared.names.Who.{Who}

-- the first task of the first worker
abbrev pub first_task : Who
first_task = record { phase = 0; worker = 0; task = 0 }
