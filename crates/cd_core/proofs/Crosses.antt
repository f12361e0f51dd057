-- A core may go to another thread.
use denote.RattleType.{RattleType}
use denote.Param.Send.{IsSend, sendable}
use Rattle.std.proofs.Crossing.{crosses}
use Rattle.cd_cell.specs.declared.digest.Hash32.{Ghosts as HashGhosts}
use Rattle.cd_keeper.specs.declared.keeper.Keeper.{Ghosts}
use Rattle.cd_event.proofs.journal.Journal.TheSendSync as journal
use Rattle.cd_core.specs.contracts.body.Core

pub core_send : (K H : RattleType) (k : Ghosts K.Denot) (h : HashGhosts H.Denot)
    → IsSend K → IsSend H → IsSend (Core.the_row K H k h)
core_send K H k h a b = search (journal.the_send, crosses, sendable) depth 60 fits 20000
