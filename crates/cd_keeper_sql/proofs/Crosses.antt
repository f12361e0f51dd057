-- A keeper over a database file may go to another thread.
use Rattle.std.proofs.Common.{rules}
use denote.Param.Send.{IsSend, sendable, recorded_send, struct_send}
use denote.Struct.Declared.{shape}
use Rattle.std.proofs.Crossing.{crosses}
use Rattle.sqlite.below.sqlite_disk.specs.contracts.modelled.Modelled as modelled
use Rattle.sqlite.below.sqlite_disk.specs.contracts.start.UnknownStart.TheImpl as start
use Rattle.sqlite.proofs.connection.Connection.TheSendSync as connection
use Rattle.sqlite.specs.contracts.Unknown as unknown
use Rattle.sqlite_std_file.specs.contracts.host.Host as host
use Rattle.sqlite_std_file.specs.contracts.host.HostCalls.TheImpl as calls
use Rattle.sqlite_store.proofs.store.FileStore.TheSendSync as store
use Rattle.cd_keeper_sql.proofs.keeper.SqlKeeperOver.TheSendSync as over
use Rattle.cd_keeper_sql.specs.contracts.file.SqlKeeper as file

disk_send : IsSend (modelled.the_row host.the_row unknown.the_row calls.ghosts start.ghosts)
disk_send = search (rules, crosses, sendable) depth 60 fits 20000

pub keeper_send : IsSend file.the_row
keeper_send = recorded_send file.the_field.row _ _ file.the_type.to_one (struct_send (shape file.the_type)
    (search (over.the_field_send, connection.the_send, store.the_send, disk_send), tt))
