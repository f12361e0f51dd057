use Rattle.std.proofs.Common.{List, [], map, ◌++◌, sym, subst₂}
use Rattle.std.specs.List.{IsDistinct}
use Rattle.std.specs.Map.{keys_of}
use Rattle.cd_block.specs.declared.block.BlockId.{BlockId}
use Rattle.cd_block.specs.declared.description.Descr.{Descr}
use Rattle.cd_block.specs.Block.{key_of}
use Rattle.cd_keeper.specs.NoKeyTwice.{same_key}
use Rattle.cd_count.specs.PlanRows.{descr_puts}
use Rattle.cd_count_tests.proofs.stores.batch_of.Goals as goal

no_keys : IsDistinct same_key []
unfolding IsDistinct
no_keys = tt

pub into_batch-requires-clause-once : goal.into_batch-requires-clause-once
into_batch-requires-clause-once c =
    subst₂ (λ (gone : List BlockId) (come : List Descr). IsDistinct same_key (map key_of gone ++ keys_of (descr_puts come)))
    (sym c.new-2.ensures.items) (sym c.new.ensures.items) no_keys
