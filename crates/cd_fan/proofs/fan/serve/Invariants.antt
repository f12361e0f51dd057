use Rattle.cd_fan.specs.Turns.{bytes_of}
use Rattle.cd_fan.proofs.TurnLaws.{IsTurn}
use Rattle.cd_fan.proofs.fan.serve.Given as goal

abbrev pub invariant-loop-end : goal.invariant-loop-end
invariant-loop-end g l =
    IsTurn l.fn.clients.items (λ b. (goal.SliceClient-dyn g (b.vtable, b.value)).got b.value) (λ b. (goal.SliceClient-dyn g (b.vtable, b.value)).steady b.value)
    l.offset (bytes_of l.piece) l.fn.ends l.end-items l.end-index l.at l.clients.items
