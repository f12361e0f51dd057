use denote.Param.Send.{sendable}
use Rattle.cd_keeper_sql.proofs.Crosses.{keeper_send}
use Rattle.cd_keeper_sql.proofs.file.SqlKeeper.open.Goals as goal

pub movable-requires-send-T : goal.movable-requires-send-T
movable-requires-send-T c κs = search (keeper_send, sendable)
