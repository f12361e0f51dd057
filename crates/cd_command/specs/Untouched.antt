-- Trusted: nothing was asked of the sink and the keeper.
use Rattle.std.specs.Prelude.{◌≡◌, List, []}
use Rattle.cd_event.specs.declared.entry.Entry.{Entry}

-- they are the very same, and there is no entry
pub record AreSame {O K X : Type 0} (out out_after : O) (kept kept_after : K) (journal : List (Entry X)) : Type 0 where
  pub sink : out_after ≡ out
  pub keeper : kept_after ≡ kept
  pub entries : journal ≡ []
