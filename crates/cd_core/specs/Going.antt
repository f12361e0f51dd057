-- Inner: what goes on with a worker's entries alone goes on so.
use Rattle.std.proofs.Common.{ℕ, List, [], ◌++◌, refl, sym, ap, ap₂, ◌∙◌, append_assoc, append-nil}
use Rattle.std.proofs.lemmas.List.Elements.{filter-append}
use Rattle.cd_event.specs.declared.entry.Entry.{Entry}
use Rattle.cd_core.specs.Cores.{CoreView}
use Rattle.cd_core.specs.Workers.{is_own, GoesOn}

module _ {K X : Type 0} (worker : ℕ) where
  pub goes_stays : (c : CoreView K X) → GoesOn worker c c
  goes_stays c = record { start = refl; more = []; own = refl; journal = sym (append-nil c.journal) }

  pub goes_further : (a b c : CoreView K X) → GoesOn worker a b → GoesOn worker b c → GoesOn worker a c
  goes_further a b c first then = record {
    start = then.start ∙ first.start;
    more = first.more ++ then.more;
    own = filter-append (is_own worker) first.more then.more
        ∙ ap₂ (λ (xs ys : List (Entry X)). xs ++ ys) first.own then.own;
    journal = then.journal ∙ ap (λ (es : List (Entry X)). es ++ then.more) first.journal
        ∙ append_assoc a.journal first.more then.more;
  }
