-- What a worker's turns on a core of one thread make of the core.
use Rattle.std.proofs.Common.{◌≡◌, ℕ, List, ◌++◌, Option, sym, ap, subst, ◌∙◌}
use Rattle.std.proofs.lemmas.List.{append_cancel_left}
use Rattle.std.proofs.lemmas.List.Elements.{filter-append}
use Rattle.cd_base.specs.declared.hash.Hash256.{Hash256}
use Rattle.cd_keeper.specs.Contents.{Contents}
use Rattle.cd_event.specs.declared.entry.Entry.{Entry}
use Rattle.cd_event.specs.Pins.{Named}
use Rattle.cd_event.specs.Turning.{RisesOnly}
use Rattle.cd_core.specs.Cores.{CoreView}
use Rattle.cd_core.specs.Workers.{is_own, made_by, named_by, GoesOn}
use Rattle.cd_run.specs.Runs.{has_failed}
use Rattle.cd_replay.specs.Ran.{Grew}

module _ {K X : Type 0} (worker : ℕ) (a b : CoreView K X) (entries : List (Entry X)) (went : GoesOn worker a b) (added : made_by worker b.journal ≡ made_by worker a.journal ++ entries) where
  -- its own entries are all that are new
  same_entries : went.more ≡ entries
  same_entries = append_cancel_left (made_by worker a.journal) went.more entries
      (ap (λ (es : List (Entry X)). made_by worker a.journal ++ es) (sym went.own)
      ∙ sym (filter-append (is_own worker) a.journal went.more) ∙ ap (made_by worker) (sym went.journal) ∙ added)

  pub grew : (faults : K → ℕ) (Are : List (Entry X) → Type 0) → Are entries → RisesOnly (has_failed entries) (faults a.keeper) (faults b.keeper) → Grew faults Are a b
  grew faults Are are caused = record {
    start = went.start;
    entries = entries;
    journal = went.journal ∙ ap (λ (es : List (Entry X)). a.journal ++ es) same_entries;
    are = are;
    caused = caused;
  }

-- the same, of entries under the pins that the worker has then
pub grew_so : {K X : Type 0} (digest : List ℕ → Hash256) (held : K → Option Contents) (faults : K → ℕ) (Are : List Named → List (Entry X) → Type 0)
    (worker n m : ℕ) (a b : CoreView K X) (entries : List (Entry X)) → n ≡ worker → m ≡ n → GoesOn n a b → made_by m b.journal ≡ made_by n a.journal ++ entries
    → Are (named_by digest held m b.start b.journal) entries → RisesOnly (has_failed entries) (faults a.keeper) (faults b.keeper)
    → Grew faults (Are (named_by digest held worker b.start b.journal)) a b
grew_so {K} {X} digest held faults Are worker n m a b entries its same went added are caused =
    grew n a b entries went (ap (λ i. made_by i b.journal) (sym same) ∙ added) faults (Are (named_by digest held worker b.start b.journal))
    (subst (λ i. Are (named_by digest held i b.start b.journal) entries) (same ∙ its) are) caused
