use Rattle.std.proofs.Common.{sym, subst}
use Rattle.std.proofs.lemmas.List.{map-append}
use Rattle.cd_keeper.specs.Shown.{desc_bytes}
use Rattle.cd_keeper.specs.NoKeyTwice.{IsNew, desc_keys}
use Rattle.cd_keeper.proofs.KeyLaws.{drop_desc-new}
use Rattle.cd_keeper.proofs.batch.Batch.drop_desc.Goals as goal

pub invariant_of-self-2 : goal.invariant_of-self-2
invariant_of-self-2 c =
    rw (c.in_ok-push.ensures.items, map-append desc_bytes)
    (drop_desc-new _ c.args.key c.self.invariant (subst (λ change. IsNew c.args.key (desc_keys change)) (sym c.self.view_is) c.requires))
