-- Calls on a keeper, one after another.
use Rattle.std.proofs.Common.{ℕ, Option, List, ap, ◌∙◌}
use Rattle.std.specs.Option.{option_map}
use Rattle.cd_base.specs.Counts.{one_more}
use Rattle.cd_keeper.specs.Contents.{Contents, Change, changed}
use Rattle.cd_keeper.specs.Keeping.{KeepsHeld, IsApplied, longer}

module _ {K : Type 0} (held : K → Option Contents) (trail : K → Option (List Contents)) (batches : K → ℕ) where
  pub keeps-on : (a b c : K) → KeepsHeld held trail batches a b → KeepsHeld held trail batches b c → KeepsHeld held trail batches a c
  keeps-on a b c first then = record {
    same_held = then.same_held ∙ first.same_held;
    same_trail = then.same_trail ∙ first.same_trail;
    same_batches = then.same_batches ∙ first.same_batches;
  }

  -- a batch that is made later
  pub applied-later : (change : Change) (a b c : K) → KeepsHeld held trail batches a b → IsApplied held trail batches change b c → IsApplied held trail batches change a c
  applied-later change a b c first then = record {
    made = then.made ∙ ap (option_map (changed change)) first.same_held;
    trailed = then.trailed ∙ ap (λ t. longer t (held c)) first.same_trail;
    counted = then.counted ∙ ap one_more first.same_batches;
  }
