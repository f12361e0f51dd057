use Rattle.std.proofs.Common.{◌≡◌, List, [], ◌∷◌, ◌++◌, map, sym, ap, ◌∙◌, subst₂}
use Rattle.std.specs.List.{IsDistinct}
use Rattle.std.specs.Map.{keys_of}
use Rattle.cd_block.specs.declared.block.BlockId.{BlockId}
use Rattle.cd_block.specs.declared.description.Descr.{Descr}
use Rattle.cd_block.specs.Block.{key_of}
use Rattle.cd_keeper.specs.NoKeyTwice.{same_key}
use Rattle.cd_count.specs.PlanRows.{descr_puts}
use Rattle.cd_core.proofs.collecting.batch_without.Goals as goal

one-key : (id : BlockId) → IsDistinct same_key (key_of id ∷ [])
unfolding IsDistinct
one-key id = (tt, tt)

pub into_batch-requires-clause-once : goal.into_batch-requires-clause-once
into_batch-requires-clause-once c =
    let ids : c.push.new.self.items ≡ c.args.id ∷ [] = c.in_ok-push.ensures.items ∙ ap (λ (xs : List BlockId). xs ++ c.args.id ∷ []) c.new-ids.ensures.items in
    subst₂ (λ (xs : List BlockId) (ds : List Descr). IsDistinct same_key (map key_of xs ++ keys_of (descr_puts ds))) (sym ids) (sym c.new.ensures.items) (one-key c.args.id)
