use denote.Param.Send.{sendable}
use Rattle.cd_keeper_sql.proofs.Crosses.{keeper_send}
use Rattle.celldb.proofs.run_over_file.Goals as goal

pub run_to-requires-send-K : goal.run_to-requires-send-K
run_to-requires-send-K g c κs = search (keeper_send, sendable)
