use Rattle.std.proofs.Common.{sym, subst}
use Rattle.std.proofs.lemmas.List.{map-append}
use Rattle.cd_keeper.specs.Shown.{entry_of, hash_bytes}
use Rattle.cd_keeper.specs.NoKeyTwice.{IsNew, cell_keys}
use Rattle.cd_keeper.proofs.KeyLaws.{put_cell-new}
use Rattle.cd_keeper.proofs.batch.Batch.put_cell.Goals as goal

pub invariant_of-self-2 : goal.invariant_of-self-2
invariant_of-self-2 c =
    rw (c.in_ok-push.ensures.items, map-append (entry_of hash_bytes))
    (put_cell-new _ c.args.key.0 c.args.value.items c.self.invariant (subst (λ change. IsNew c.args.key.0 (cell_keys change)) (sym c.self.view_is) c.requires))
