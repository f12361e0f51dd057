-- The call that the first word asks for is the one that was made.
use Rattle.std.proofs.Common.{inl, inr, sym, ◌∙◌}
use Rattle.std.proofs.lemmas.Bool.{false≢true}
use Rattle.celldb.proofs.call.run.Goals as goal

pub returns-then-is_run-clause-call : goal.returns-then-is_run-clause-call
returns-then-is_run-clause-call g c = λ page. record {
  status = c.celldb_run-status.result.status;
  kept_after = c.celldb_run-status.result.keeper;
  left = c.celldb_run-status.result.clients.items;
  journal = c.celldb_run-status.result.journal.items;
  ended = inl (c.is_run.ensures.0 c.if-is_run.true, c.celldb_run-status.ensures);
  coded = c.end-then-is_run.ensures.coded;
  said = c.end-then-is_run.ensures.said;
}

pub returns-clause-call : goal.returns-clause-call
returns-clause-call g c = λ page. record {
  status = c.celldb_once-status.result.status;
  kept_after = c.celldb_once-status.result.keeper;
  left = c.celldb_once-status.result.clients.items;
  journal = c.celldb_once-status.result.journal.items;
  ended = inr (λ begins. false≢true (sym c.if-is_run.false ∙ c.is_run.ensures.1 begins), c.celldb_once-status.ensures);
  coded = c.end-2.ensures.coded;
  said = c.end-2.ensures.said;
}
