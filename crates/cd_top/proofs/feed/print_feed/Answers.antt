use Rattle.std.proofs.Common.{ℕ, List, subst, ◌∙◌}
use Rattle.cd_base.specs.declared.sink.Sink.{Ghosts as SinkGhosts}
use Rattle.cd_command.specs.declared.status.Status.{Status}
use Rattle.cd_command.specs.declared.status.Status.TheVariants as status
use Rattle.cd_command.specs.Printing.{PrintingEnds, TextEnds}
use Rattle.cd_top.proofs.feed.print_feed.Goals as goal

-- a text that was made ends as its printing does
as-text : {O : Type 0} (o : SinkGhosts O) (text : List ℕ) (out out_after : O) (end : Status) → PrintingEnds o text out out_after end → TextEnds o text out out_after end
as-text o text out out_after status.Ok done = done
as-text o text out out_after status.WriteFault done = done
as-text o text out out_after status.Memory done = absurd done
as-text o text out out_after (status.Usage fault) done = done
as-text o text out out_after (status.BadInput fault) done = done
as-text o text out out_after (status.Damaged fault) done = done
as-text o text out out_after status.ReadFault done = done
as-text o text out out_after status.KeeperFault done = done
as-text o text out out_after status.ClientFault done = done
as-text o text out out_after (status.Refused refusal) done = done

pub returns-in-Ok : goal.returns-in-Ok
returns-in-Ok g c =
    subst (λ (t : List ℕ). TextEnds g.O.Sink t c.args.out.now c.print.new.out c.print.result) (c.deref.ensures.value ∙ c.in-Ok.ensures)
    (as-text g.O.Sink c.deref.result.now c.args.out.now c.print.new.out c.print.result c.print.ensures)
