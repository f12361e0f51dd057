use Rattle.std.proofs.Common.{ap}
use Rattle.cd_event.specs.declared.names.Who.{Who}
use Rattle.cd_shared.proofs.AsSeen.{may-merge}
use Rattle.cd_shared.proofs.shared.SharedDb.merge.Goals as goal

pub turn-answer-requires-clause-may : goal.turn-answer-requires-clause-may
turn-answer-requires-clause-may g c = λ before precede. (
  c.requires.tops,
  λ journal.
      let k = g.K.Keeper in
      may-merge k.held g.H.Hash32.digest_of k.trail k.batches k.faults c.seat.inside.seat c.args.seat.now c.seat.view_is c.seat.invariant.0
      c.self.inside.gate c.args.self.now c.self.view_is before precede.others c.who-who.result.worker (ap (λ (who : Who). who.worker) c.who-who.ensures)
      c.args.pin c.args.other c.args.prepared c.requires.fits journal,
)
