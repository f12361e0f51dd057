-- Inner: what was read of a store, as it is given.
use Rattle.cd_restart.specs.declared.opened.Opened.{Opened}
use Rattle.cd_restart.specs.declared.opening.Found.{Found}

abbrev pub opened_of : Found → Opened
opened_of found = record { blocks = found.blocks.items; cells = found.cells; counts = found.counts }
