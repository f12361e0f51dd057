-- What of a shared core goes to another thread, and what threads share.
use denote.RattleType.{RattleType}
use denote.Ref.{NamedLft}
use denote.Param.Send.{IsSend, IsSync, sendable}
use Rattle.std.proofs.Crossing.{crosses}
use Rattle.cd_cell.specs.declared.digest.Hash32.{Ghosts as HashGhosts}
use Rattle.cd_keeper.specs.declared.keeper.Keeper.{Ghosts}
use Rattle.cd_core.proofs.Crosses.{core_send}
use Rattle.cd_gate.proofs.gate.Gate.TheSendSync as gate
use Rattle.cd_gate.proofs.gate.GateSeat.TheSendSync as gate_seat
use Rattle.cd_shared.specs.contracts.at_db.AtDb
use Rattle.cd_shared.specs.contracts.held_core.HeldCore
use Rattle.cd_shared.specs.contracts.shared.DbSeat
use Rattle.cd_shared.specs.contracts.shared.SharedDb

module _ (K H : RattleType) (k : Ghosts K.Denot) (h : HashGhosts H.Denot) where
  held_send : IsSend K → IsSend H → IsSend (HeldCore.the_row K H k h)
  held_send a b = search (core_send, crosses, sendable) depth 60 fits 20000

  pub seat_send : IsSend K → IsSend H → IsSend (DbSeat.the_row K H k h)
  seat_send a b = search (gate_seat.the_send, held_send, crosses, sendable) depth 60 fits 20000

  pub db_sync : IsSend K → IsSend H → IsSync (SharedDb.the_row K H k h)
  db_sync a b = search (gate.the_sync, held_send, crosses, sendable) depth 60 fits 20000

  -- with a runtime that threads share
  pub at_db_send : (κ : NamedLft) (R : RattleType) → IsSend K → IsSend H → IsSync R
      → IsSend (AtDb.the_row κ K H R k h)
  at_db_send κ R a b r = search (seat_send, db_sync, crosses, sendable) depth 60 fits 20000
