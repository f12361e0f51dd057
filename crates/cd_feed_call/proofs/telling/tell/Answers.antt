use Rattle.std.proofs.Common.{List, Some, inl, ap, subst, ◌∙◌}
use Rattle.std.specs.List.{list_any}
use Rattle.std.specs.Prelude.{string_bytes}
use Rattle.cd_event.specs.declared.entry.Entry.{Entry}
use Rattle.cd_event.specs.Turning.{is_keeper}
use Rattle.cd_command.specs.Printing.{PrintingEnds}
use Rattle.cd_feed_call.specs.Telling.{status_by}
use Rattle.cd_feed_call.proofs.FeedLaws.{failed-any}
use Rattle.cd_feed_call.proofs.telling.tell.Goals as goal

pub returns-clause-told : goal.returns-clause-told
returns-clause-told g c = inl (record {
  text = string_bytes c.in-Ok.text;
  made = c.in-Ok.ensures.made;
  written = c.print-written.result;
  printed = subst (λ t. PrintingEnds g.O.Sink t c.args.out.now c.print-written.new.out c.print-written.result) c.as_bytes.ensures.value c.print-written.ensures;
  is = c.status_of.ensures ∙ ap (λ b. status_by b c.args.all_left c.print-written.result)
      (c.has_failed-failed.ensures ∙ ap (λ (es : List (Entry g.row.H.Denot)). list_any (λ e. is_keeper (Some e.reply)) es) c.journal.ensures.value ∙ failed-any c.args.core.now.journal);
})
